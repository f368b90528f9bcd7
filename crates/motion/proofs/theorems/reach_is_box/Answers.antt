use Rattle.motion.proofs.Boxing.{reach_is_box}
use Rattle.motion.proofs.theorems.reach_is_box.Goals as goal

pub returns : goal.returns
returns c = reach_is_box
