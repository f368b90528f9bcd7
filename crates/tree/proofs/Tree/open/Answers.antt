use Rattle.std.proofs.Common.{sym, ap, subst}
use Rattle.rows.specs.Shape.{elements, Told}
use Rattle.rows.proofs.Layouts.{laid, shape_none}
use Rattle.rows.proofs.WholeEdits.{empty_layout}
use Rattle.tree.proofs.Tree.open.Goals as goal

pub invariant_of-result : goal.invariant_of-result
invariant_of-result g c = record { sound = ∣ record { laid = laid (empty_layout c.args.rows.now); told = subst (Told g.K.Kind.rule) (sym (shape_none c.args.rows.now)) tt } ∣₁ }

pub returns-clause-list : goal.returns-clause-list
returns-clause-list g c = ap elements (shape_none c.args.rows.now)
