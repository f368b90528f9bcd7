use Rattle.std.proofs.Common.{ℕ, Option, sym, subst}
use Rattle.rows.specs.Edits.{Sides}
use Rattle.rows.proofs.Hands.{sides_by}
use Rattle.rows.proofs.balance.refresh_by.Goals as goal

pub refresh-requires-clause-sides : goal.refresh-requires-clause-sides
refresh-requires-clause-sides g c = subst (λ (y : Option ℕ × Option ℕ). Sides c.args.rows.now y.0 y.1) (sym c.order-left.ensures) (sides_by c.args.hand c.args.near c.args.far c.requires.sides)
