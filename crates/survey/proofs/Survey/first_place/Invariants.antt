use Rattle.std.proofs.Common.{◌≡◌, ◌-◌, ◌<◌, ◌≤◌}
use Rattle.kinds.specs.Models.{thinnest}
use Rattle.kinds.specs.Rules.{summary}
use Rattle.std.specs.List.{between}
use Rattle.survey.proofs.Searches.{Searching}
use Rattle.survey.proofs.Survey.first_place.Given as goal

abbrev pub invariant-loop-high : goal.invariant-loop-high
invariant-loop-high g l =
    let xs = g.S.Sequence.list l.initial.self.readings in
    (l.self ≡ l.initial.self)
    × (l.i ≤ l.low)
    × (l.low < l.high)
    × (l.high ≤ l.j)
    × (l.reading ≡ summary thinnest (between l.i l.j xs) → Searching xs l.initial.self.sound l.i l.j l.reading l.low l.high)

abbrev pub decreases-loop-high : goal.decreases-loop-high
decreases-loop-high g l = l.high - l.low
