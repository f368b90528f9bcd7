use Rattle.motion.proofs.Parting.{by_parts}
use Rattle.motion.proofs.theorems.passes_by_parts.Goals as goal

pub returns : goal.returns
returns c = by_parts
