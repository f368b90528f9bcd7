use Rattle.rows.specs.Shape.{depth_at}
use Rattle.rows.proofs.path.+insert.Given as goal

abbrev pub decreases-insert : goal.decreases-insert
decreases-insert g l = depth_at l.rows.now l.top
