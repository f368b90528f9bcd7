use Rattle.std.proofs.Common.{◌∷◌, ◌++◌, Some, sym, refl, ap, ◌∙◌, subst, arith}
use Rattle.rows.specs.Edits.{Whole, RemovedFirst}
use Rattle.rows.specs.Shape.{elements, Rooted}
use Rattle.rows.proofs.Nodes.{is_leaf, top_row, falls_left}
use Rattle.rows.proofs.Removes.{whole_left, fewer_left, taken_left, first_here, count_first}
use Rattle.rows.proofs.SideEdits.{ready_left}
use Rattle.rows.proofs.path.+remove_first.Goals as goal

pub remove_first-first-requires : goal.remove_first-first-requires
remove_first-first-requires g t c κs =
    let n = top_row c.requires.0 refl c.row_at-row.ensures c.requires.1.rooted in
    let o = subst (Whole c.args.rows.now (Some c.args.place)) n.is c.requires.1 in
    let s : Rooted c.args.rows.now (Some c.in-Some.below) n.l = (sym c.in-Some.is ∙ n.left.0, n.left.1) in
    λ ls. (falls_left n c.decreases _ s, (ls.0, (ls.1.0, (ls.1.1, (n.l, whole_left o s)))))

pub rebalance-top-requires : goal.rebalance-top-requires
rebalance-top-requires g t c =
    let n = top_row c.requires.0 refl c.row_at-row.ensures c.requires.1.rooted in
    let o = subst (Whole c.args.rows.now (Some c.args.place)) n.is c.requires.1 in
    let s : Rooted c.args.rows.now (Some c.in-Some.below) n.l = (sym c.in-Some.is ∙ n.left.0, n.left.1) in
    let d = c.remove_first-first.ensures n.l (whole_left o s) in
    (d.edit.t, n.r, ready_left (fewer_left o _ d.edit n.right (count_first d)))

pub returns-in_default : goal.returns-in_default
returns-in_default g t c = λ u v.
    let n = top_row u refl c.row_at-row.ensures v.rooted in
    let o = subst (Whole c.args.rows.now (Some c.args.place)) n.is v in
    subst (RemovedFirst g.K.Kind.rule c.args.rows.now c.args.rows.now c.args.place c.row_at-row.result.element c.row_at-row.result.right) (sym n.is)
    (first_here o (is_leaf n.l (sym c.in_default.is ∙ n.left.0)) n.element n.right)

pub returns : goal.returns
returns g t c = λ u v.
    let n = top_row u refl c.row_at-row.ensures v.rooted in
    let o = subst (Whole c.args.rows.now (Some c.args.place)) n.is v in
    let s : Rooted c.args.rows.now (Some c.in-Some.below) n.l = (sym c.in-Some.is ∙ n.left.0, n.left.1) in
    let d = c.remove_first-first.ensures n.l (whole_left o s) in
    let b = fewer_left o _ d.edit n.right (count_first d) in
    let a = c.rebalance-top.ensures d.edit.t n.r (ready_left b) in
    let place = c.remove_first-first.result.place in
    subst (RemovedFirst g.K.Kind.rule c.args.rows.now c.rebalance-top.new.rows place c.remove_first-first.result.element (Some c.rebalance-top.result)) (sym n.is)
    (record {
      xs = d.xs ++ (c.row_at-row.result.element ∷ elements n.r);
      split = ap (λ z. z ++ (n.x.element ∷ elements n.r)) d.split ∙ ap (λ z. c.remove_first-first.result.element ∷ (d.xs ++ (z ∷ elements n.r))) (sym n.element);
      there = omega (arith, d.there, o.apart place);
      edit = taken_left o place d.edit b d.there refl a;
    })
