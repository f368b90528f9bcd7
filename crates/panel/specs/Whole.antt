-- The promise over a whole run of calls from the opening of a plan over a tree.
use Rattle.std.specs.Prelude.{◌≡◌, ◌-◌, ◌^◌, ◌≤◌, List, length, vec_items}
use Rattle.kinds.specs.Balance.{fewest}
use Rattle.plan.specs.Calls.{answers, after_all, AllRight}
use Rattle.plan.specs.Models.{Model}
use Rattle.plan.specs.declared.calls.Call.{Call}
use Rattle.panel.specs.declared.Told.{Told}

-- each answer is the model's and means what it must, and the depth is that of a balanced tree of the moves at the end
pub record Whole (b : Model) (calls : List Call) (t : Told) : Type 0 where
  pub told : vec_items t.answers ≡ answers b calls
  pub right : AllRight b calls (vec_items t.answers)
  pub least : fewest t.depth ≤ length (after_all b calls).entries
  pub most : length (after_all b calls).entries ≤ 2 ^ t.depth - 1
