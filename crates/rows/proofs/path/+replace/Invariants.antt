use Rattle.rows.specs.Shape.{depth_at}
use Rattle.rows.proofs.path.+replace.Given as goal

abbrev pub decreases-replace : goal.decreases-replace
decreases-replace g l = depth_at l.rows.now l.side
