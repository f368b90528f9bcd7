use Rattle.std.proofs.Common.{refl}
use Rattle.plan.proofs.Following.{same_plan}
use Rattle.plan.proofs.Plan.depth.Goals as goal

pub returns-clause-same : goal.returns-clause-same
returns-clause-same g c = same_plan _ _ refl refl refl c.depth.ensures.same
