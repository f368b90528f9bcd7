use Rattle.rows.specs.Shape.{depth_at}
use Rattle.rows.proofs.path.+range_summary.Given as goal

abbrev pub decreases-range_summary : goal.decreases-range_summary
decreases-range_summary g l = depth_at l.rows.now l.side
