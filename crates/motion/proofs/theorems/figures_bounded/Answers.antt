use Rattle.motion.proofs.Figures.{figures_bounded}
use Rattle.motion.proofs.theorems.figures_bounded.Goals as goal

pub returns : goal.returns
returns c = figures_bounded
