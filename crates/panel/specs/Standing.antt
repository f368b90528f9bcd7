-- The rows that a run of calls leaves.
use Rattle.std.specs.Prelude.{ℕ, List, Option}
use Rattle.kinds.specs.declared.Pair.{Pair}
use Rattle.motion.specs.declared.blocks.Block.{Block}
use Rattle.motion.specs.declared.extents.Extent.{Extent}
use Rattle.motion.specs.declared.runs.Run.{Run}
use Rattle.plan.specs.Models.{plan_rule}
use Rattle.rows.specs.declared.Row.{Row}
use Rattle.rows.specs.Layouts.{Stands}

-- some rows stand from some top as a balanced tree of the blocks, of that depth, each with the summary of what lies below
pub record Standing (blocks : List Block) (depth : ℕ) : Type 0 where
  pub rows : List (Row Block (Pair (Pair Run Run) (Pair Extent ℕ)))
  pub top : Option ℕ
  pub stands : Stands plan_rule rows top blocks depth
