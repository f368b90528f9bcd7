use Rattle.std.proofs.Common.{of_calls}
use Rattle.motion.specs.Figures.{begun_at}
use Rattle.plan.proofs.edits.begin_again.Goals as goal

pub returns-clause-after : goal.returns-clause-after
returns-clause-after g c = c.alter.ensures.after (λ block. begun_at block c.args.begin) (search of_calls)
