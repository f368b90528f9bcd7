use Rattle.std.proofs.Common.{◌≡◌, Ok, sym, ap, ◌∙◌, subst}
use Rattle.kinds.specs.Models.{thinnest}
use Rattle.kinds.specs.Rules.{summary}
use Rattle.std.specs.List.{between}
use Rattle.sequences.proofs.Rulings.{range_told, range_there}
use Rattle.survey.specs.Readings.{IsThinnest, spot_at, no_range}
use Rattle.survey.proofs.Sounds.{same_survey}
use Rattle.survey.proofs.Spots.{thinnest_found}
use Rattle.survey.proofs.Survey.thinnest.Goals as goal

pub returns-then-j-count-clause-same : goal.returns-then-j-count-clause-same
returns-then-j-count-clause-same g c = same_survey _ _ c.count.ensures.same

pub returns-then-i-j-clause-same : goal.returns-then-i-j-clause-same
returns-then-i-j-clause-same g c = same_survey _ _ c.count.ensures.same

pub returns-clause-value : goal.returns-clause-value
returns-clause-value g c =
    let s = g.S.Sequence in
    let xs = s.list c.args.self.now.readings in
    let i = c.args.i in
    let j = c.args.j in
    let there = range_told no_range xs i j _ c.in_ok-reading.reading (sym c.least.ensures.value ∙ c.in_ok-reading.was) in
    let is : IsThinnest xs i j (spot_at c.in_ok-reading.reading c.first_place-place.result) =
    subst (λ z. c.in_ok-reading.reading ≡ summary thinnest (between i j (s.list z.readings)) → IsThinnest (s.list z.readings) i j (spot_at c.in_ok-reading.reading c.first_place-place.result)) c.least.ensures.same c.first_place-place.ensures.value there.2 in
    ap Ok (sym (thinnest_found xs i j _ there.1 is)) ∙ sym (range_there no_range xs i j _ there.0 there.1)
