use Rattle.std.proofs.Common.{of_calls}
use Rattle.plan.proofs.Elements.{owns}
use Rattle.plan.proofs.questions.own_cap.Goals as goal

pub returns-clause-value : goal.returns-clause-value
returns-clause-value g c =
    owns (g.S.Sequence.list c.args.blocks.now) c.args.i c.element_at.result c.element_at.ensures.value c.map_or.result _ c.map_or.ensures (search of_calls)
