use Rattle.std.proofs.Common.{ap, ◌∙◌, arith, of_calls}
use Rattle.motion.specs.Figures.{at_percent}
use Rattle.motion.specs.declared.blocks.Block.{Block}
use Rattle.motion.specs.Laid.{idle}
use Rattle.plan.specs.Models.{altered}
use Rattle.plan.proofs.Overriding.{changed_more}
use Rattle.plan.proofs.edits.override_range.Goals as goal

pub loop-k-preserved : goal.loop-k-preserved
loop-k-preserved g c =
    let xs = g.S.Sequence.list c.args.blocks.now in
    let inv = c.loop-k.invariant in
    let k = c.loop-k.k in
    let change = λ (block : Block). at_percent block c.args.percent in
    record {
      far = omega arith;
      after = c.alter.ensures.after change (search of_calls) ∙ ap (λ bs. altered change bs k) inv.after
          ∙ changed_more change xs c.args.i k idle (omega arith) (omega arith);
      room = c.alter.ensures.room ∙ inv.room;
    }
