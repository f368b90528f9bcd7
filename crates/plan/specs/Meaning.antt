-- The model that a plan stands for.
use Rattle.std.specs.Prelude.{ℕ, List, ℤ}
use Rattle.motion.specs.declared.blocks.Block.{Block}
use Rattle.plan.specs.declared.Plan.{Plan}
use Rattle.plan.specs.Keeping.{modelled}
use Rattle.plan.specs.Models.{Model, place}

module _ {S E M K : Type 0} {g h : _} where
  abbrev pub start_of : Plan S E M K g h → List ℤ
  start_of p = place p.start_x p.start_y p.start_z

  abbrev pub model_of : (S → List Block) → (S → ℕ) → Plan S E M K g h → Model
  model_of list room p = modelled (start_of p) (room p.blocks) (list p.blocks)
