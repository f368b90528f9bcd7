use Rattle.std.proofs.Common.{◌≡◌, ◌≤◌}
use Rattle.motion.specs.Figures.{at_percent}
use Rattle.plan.specs.Models.{changed_in}
use Rattle.plan.proofs.edits.override_range.Given as goal

abbrev pub invariant-loop-k : goal.invariant-loop-k
invariant-loop-k g l =
    let s = g.S.Sequence in
    record {
      far : l.k ≤ l.j;
      after : s.list l.blocks ≡ changed_in (λ block. at_percent block l.percent) (s.list l.initial.blocks) l.i l.k;
      room : s.room l.blocks ≡ s.room l.initial.blocks;
    }
