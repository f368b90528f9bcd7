-- The rows below a plan, by its model.
use Rattle.std.proofs.Common.{◌≡◌, ℕ, List, Option, subst}
use Rattle.kinds.specs.declared.Pair.{Pair}
use Rattle.motion.specs.declared.blocks.Block.{Block}
use Rattle.motion.specs.declared.extents.Extent.{Extent}
use Rattle.motion.specs.declared.runs.Run.{Run}
use Rattle.plan.specs.Models.{plan_rule}
use Rattle.rows.specs.declared.Row.{Row}
use Rattle.rows.specs.Layouts.{Stands}
use Rattle.panel.specs.Standing.{Standing}

-- rows that stand for a list stand for the same list by another name
pub standing_from : (rows : List (Row Block (Pair (Pair Run Run) (Pair Extent ℕ)))) (top : Option ℕ) (xs ys : List Block) (d e : ℕ) → Stands plan_rule rows top xs d → xs ≡ ys → d ≡ e → Standing ys e
standing_from rows top xs ys d e s same deep = record {
  rows = rows;
  top = top;
  stands = subst (λ zs. Stands plan_rule rows top zs e) same (subst (Stands plan_rule rows top xs) deep s);
}
