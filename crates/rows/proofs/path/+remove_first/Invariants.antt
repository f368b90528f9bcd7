use Rattle.rows.specs.Shape.{depth_at}
use Rattle.std.proofs.Common.{Some}
use Rattle.rows.proofs.path.+remove_first.Given as goal

abbrev pub decreases-remove_first : goal.decreases-remove_first
decreases-remove_first g l = depth_at l.rows.now (Some l.place)
