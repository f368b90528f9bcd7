use Rattle.std.proofs.Common.{suc, ◌-◌, ◌∷◌, Some, sym, ap, ◌∙◌, arith}
use Rattle.std.specs.List.{slice_get}
use Rattle.rows.specs.Shape.{elements}
use Rattle.rows.proofs.Nodes.{top_row, falls_left, falls_right, length_elements}
use Rattle.rows.proofs.Ranges.{nth_left, nth_right}
use Rattle.rows.proofs.path.+element_at.Goals as goal

pub count_of-before-requires : goal.count_of-before-requires
count_of-before-requires g t c =
    let n = top_row c.requires.0 c.in_ok-side.was c.row_at-row.ensures c.requires.1 in
    (n.l, n.left)

pub element_at-requires : goal.element_at-requires
element_at-requires g t c κs =
    let n = top_row c.requires.0 c.in_ok-side.was c.row_at-row.ensures c.requires.1 in
    λ ls. (falls_left n c.decreases _ n.left, (ls.0, (ls.1.0, (ls.1.1, (n.l, n.left)))))

pub element_at-requires-then-i-before-2 : goal.element_at-requires-then-i-before-2
element_at-requires-then-i-before-2 g t c κs =
    let n = top_row c.requires.0 c.in_ok-side.was c.row_at-row.ensures c.requires.1 in
    λ ls. (falls_right n c.decreases _ n.right, (ls.0, (ls.1.0, (ls.1.1, (n.r, n.right)))))

pub returns-then-i-before : goal.returns-then-i-before
returns-then-i-before g t c = λ u s.
    let n = top_row u c.in_ok-side.was c.row_at-row.ensures s in
    let k = c.count_of-before.ensures n.l n.left in
    let there = nth_left (elements n.l) (n.x.element ∷ elements n.r) c.args.i (omega (arith, length_elements n.l, c.if-i-before.true)) in
    c.element_at.ensures n.l n.left ∙ sym there ∙ ap (λ z. slice_get (elements z) c.args.i) (sym n.is)

pub returns-then-i-before-2 : goal.returns-then-i-before-2
returns-then-i-before-2 g t c = λ u s.
    let n = top_row u c.in_ok-side.was c.row_at-row.ensures s in
    let k = c.count_of-before.ensures n.l n.left in
    let j = c.args.i - c.count_of-before.result - 1 in
    let there = nth_right (elements n.l) (n.x.element ∷ elements n.r) c.args.i (suc j) (omega (arith, length_elements n.l, c.if-i-before-2.true)) in
    c.element_at-then-i-before-2.ensures n.r n.right ∙ sym there ∙ ap (λ z. slice_get (elements z) c.args.i) (sym n.is)

pub returns : goal.returns
returns g t c = λ u s.
    let n = top_row u c.in_ok-side.was c.row_at-row.ensures s in
    let k = c.count_of-before.ensures n.l n.left in
    let there = nth_right (elements n.l) (n.x.element ∷ elements n.r) c.args.i 0 (omega (arith, length_elements n.l, c.if-i-before.false, c.if-i-before-2.false)) in
    ap Some n.element ∙ sym there ∙ ap (λ z. slice_get (elements z) c.args.i) (sym n.is)
