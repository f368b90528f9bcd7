use Rattle.std.proofs.Common.{◌≡◌, ◌-◌, ◌≤◌, length}
use Rattle.motion.specs.Profiles.{Starts, first_blocked}
use Rattle.plan.proofs.questions.first_blocked.Given as goal

abbrev pub invariant-loop-low : goal.invariant-loop-low
invariant-loop-low g l =
    let s = g.S.Sequence in
    let xs = s.list l.initial.blocks in
    record {
      same : l.blocks ≡ l.initial.blocks;
      order : l.low ≤ l.high;
      within : l.high ≤ l.count;
      between : (Starts xs (length xs) l.s → ⊥) → (l.low ≤ first_blocked xs l.s) × (first_blocked xs l.s ≤ l.high);
    }

abbrev pub decreases-loop-low : goal.decreases-loop-low
decreases-loop-low g l = l.high - l.low
