use Rattle.rows.specs.Shape.{depth_at}
use Rattle.std.proofs.Common.{Some}
use Rattle.rows.proofs.path.+remove.Given as goal

abbrev pub decreases-remove : goal.decreases-remove
decreases-remove g l = depth_at l.rows.now (Some l.place)
