use Rattle.std.proofs.Common.{◌≡◌, ◌-◌, ◌≤◌, length, sym, ap, ◌∙◌, subst, arith}
use Rattle.std.specs.List.{between}
use Rattle.kinds.specs.Rules.{summary}
use Rattle.rows.specs.Shape.{node, count_of, elements, Told}
use Rattle.rows.proofs.Nodes.{top_row, falls_left, falls_right, length_elements}
use Rattle.rows.proofs.Ranges.{summary_around, told_summary, between_left, between_right, between_both, between_all}
use Rattle.rows.proofs.path.+range_summary.Goals as goal

pub count_of-before-requires : goal.count_of-before-requires
count_of-before-requires g t c =
    let n = top_row c.requires.0 c.in-Some.is c.row_at-row.ensures c.requires.1 in
    (n.l, n.left)

pub range_summary-requires : goal.range_summary-requires
range_summary-requires g t c κs =
    let n = top_row c.requires.0 c.in-Some.is c.row_at-row.ensures c.requires.1 in
    let k = c.count_of-before.ensures n.l n.left in
    λ ls. (falls_left n c.decreases _ n.left, (ls.0, (ls.1.0, (ls.1.1, (n.l, n.left, c.requires.2, omega (arith, k, c.if-j-before.true))))))

pub range_summary-requires-then-i-before : goal.range_summary-requires-then-i-before
range_summary-requires-then-i-before g t c κs =
    let n = top_row c.requires.0 c.in-Some.is c.row_at-row.ensures c.requires.1 in
    let k = c.count_of-before.ensures n.l n.left in
    let all = subst (λ z. c.args.j ≤ count_of z) n.is c.requires.3 in
    let order = c.requires.2 in
    λ ls. (falls_right n c.decreases _ n.right, (ls.0, (ls.1.0, (ls.1.1, (n.r, n.right, omega arith, omega (arith, c.if-i-before.true))))))

pub range_summary-front-requires : goal.range_summary-front-requires
range_summary-front-requires g t c κs =
    let n = top_row c.requires.0 c.in-Some.is c.row_at-row.ensures c.requires.1 in
    let k = c.count_of-before.ensures n.l n.left in
    λ ls. (falls_left n c.decreases _ n.left, (ls.0, (ls.1.0, (ls.1.1, (n.l, n.left, c.if-i-before.false, omega (arith, k))))))

pub range_summary-back-requires : goal.range_summary-back-requires
range_summary-back-requires g t c κs =
    let n = top_row c.requires.0 c.in-Some.is c.row_at-row.ensures c.requires.1 in
    let k = c.count_of-before.ensures n.l n.left in
    let all = subst (λ z. c.args.j ≤ count_of z) n.is c.requires.3 in
    λ ls. (falls_right n c.decreases _ n.right, (ls.0, (ls.1.0, (ls.1.1, (n.r, n.right, omega arith, omega (arith, c.if-j-before.false))))))

pub returns-then-j-row : goal.returns-then-j-row
returns-then-j-row g t c = λ u s order all told.
    let m = g.K.Kind.rule in
    let n = top_row u c.in-Some.is c.row_at-row.ensures s in
    let whole = node c.in-Some.place n.x n.l n.r in
    let to_end : c.args.j ≡ count_of whole = c.if-j-row.true ∙ ap (λ z. z.count) n.row_is in
    ap (λ z. z.summary) n.row_is ∙ told_summary g.K.Kind.laws whole (subst (Told m) n.is told)
    ∙ ap (summary m) (sym (between_all (elements whole) c.args.i c.args.j (omega (arith, c.if-i-eq0.true)) (to_end ∙ sym (length_elements whole))))
    ∙ ap (λ z. summary m (between c.args.i c.args.j (elements z))) (sym n.is)

pub returns-then-j-before : goal.returns-then-j-before
returns-then-j-before g t c = λ u s order all told.
    let m = g.K.Kind.rule in
    let n = top_row u c.in-Some.is c.row_at-row.ensures s in
    let k = c.count_of-before.ensures n.l n.left in
    let h : c.args.j ≤ count_of n.l = omega (arith, k, c.if-j-before.true) in
    c.range_summary.ensures n.l n.left order h (subst (Told m) n.is told).1
    ∙ ap (summary m) (sym (between_left (elements n.l) (elements n.r) n.x.element c.args.i c.args.j order (omega (arith, length_elements n.l))))
    ∙ ap (λ z. summary m (between c.args.i c.args.j (elements z))) (sym n.is)

pub returns-then-i-before : goal.returns-then-i-before
returns-then-i-before g t c = λ u s order all told.
    let m = g.K.Kind.rule in
    let n = top_row u c.in-Some.is c.row_at-row.ensures s in
    let k = c.count_of-before.ensures n.l n.left in
    let ll = length_elements n.l in
    let b = c.count_of-before.result in
    let i = c.args.i - b - 1 in
    let j = c.args.j - b - 1 in
    let full = subst (λ z. c.args.j ≤ count_of z) n.is all in
    c.range_summary-then-i-before.ensures n.r n.right (omega arith) (omega (arith, c.if-i-before.true)) (subst (Told m) n.is told).2
    ∙ ap (summary m) (sym (between_right (elements n.l) (elements n.r) n.x.element c.args.i c.args.j i j (omega (arith, c.if-i-before.true)) (omega (arith, c.if-i-before.true))))
    ∙ ap (λ z. summary m (between c.args.i c.args.j (elements z))) (sym n.is)

pub returns : goal.returns
returns g t c = λ u s order all told.
    let m = g.K.Kind.rule in
    let n = top_row u c.in-Some.is c.row_at-row.ensures s in
    let k = c.count_of-before.ensures n.l n.left in
    let ll = length_elements n.l in
    let td = subst (Told m) n.is told in
    let full = subst (λ z. c.args.j ≤ count_of z) n.is all in
    let xs = elements n.l in
    let ys = elements n.r in
    let x = n.x.element in
    let v = c.args.j - c.count_of-before.result - 1 in
    let here : c.count_of-before.result ≡ length xs = omega arith in
    let p1 = c.range_summary-front.ensures n.l n.left c.if-i-before.false (omega arith) td.1 in
    let p2 = c.range_summary-back.ensures n.r n.right (omega arith) (omega (arith, c.if-j-before.false)) td.2 in
    let p3 = c.of.ensures in
    let p4 = c.join.ensures in
    let p5 = c.join-2.ensures in
    let q1 : c.range_summary-front.result ≡ summary m (between c.args.i (length xs) xs) = p1 ∙ ap (λ z. summary m (between c.args.i z xs)) here in
    let q2 : m.one c.row_at-row.result.element ≡ m.one x = ap m.one n.element in
    let parts = ap (summary m) (between_both xs ys x c.args.i c.args.j v (omega (arith, c.if-i-before.false)) (omega (arith, c.if-j-before.false)))
    ∙ summary_around g.K.Kind.laws (between c.args.i (length xs) xs) (between 0 v ys) x in
    let back = ap (λ z. summary m (between c.args.i c.args.j (elements z))) (sym n.is) in
    cc
