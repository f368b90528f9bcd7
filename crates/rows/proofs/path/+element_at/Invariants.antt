use Rattle.rows.specs.Shape.{depth_at}
use Rattle.rows.proofs.path.+element_at.Given as goal

abbrev pub decreases-element_at : goal.decreases-element_at
decreases-element_at g l = depth_at l.rows.now l.side
