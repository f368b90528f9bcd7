use Rattle.std.proofs.Common.{◌≡◌, suc, ◌+◌, ◌-◌, ◌≤◌, sym, refl, ◌∙◌, subst, arith}
use Rattle.rows.specs.Edits.{Insert, Inserted}
use Rattle.rows.specs.Shape.{leaf, count_of}
use Rattle.rows.proofs.Inserts.{insert_left, insert_right, beside_left, beside_right, inserted_on_left, inserted_on_right, inserted_leaf}
use Rattle.rows.proofs.Nodes.{is_leaf, top_row, falls_left, falls_right}
use Rattle.rows.proofs.SideEdits.{ready_left, ready_right}
use Rattle.rows.proofs.path.+insert.Goals as goal

pub count_of-before-requires : goal.count_of-before-requires
count_of-before-requires g t c =
    let n = top_row c.requires.0 c.in-Some.is c.row_at-row.ensures c.requires.1.rooted in
    (n.l, n.left)

pub insert-left-requires : goal.insert-left-requires
insert-left-requires g t c κs =
    let n = top_row c.requires.0 c.in-Some.is c.row_at-row.ensures c.requires.1.rooted in
    let o = subst (Insert c.args.rows.now c.args.top c.args.i c.args.fresh) n.is c.requires.1 in
    let k = c.count_of-before.ensures n.l n.left in
    let i = insert_left o n.left (omega (arith, k, c.if-i-before.true)) in
    λ ls. (falls_left n c.decreases _ n.left, (ls.0, (ls.1.0, (ls.1.1, (n.l, i)))))

pub rebalance-requires : goal.rebalance-requires
rebalance-requires g t c =
    let n = top_row c.requires.0 c.in-Some.is c.row_at-row.ensures c.requires.1.rooted in
    let o = subst (Insert c.args.rows.now c.args.top c.args.i c.args.fresh) n.is c.requires.1 in
    let k = c.count_of-before.ensures n.l n.left in
    let h : c.args.i ≤ count_of n.l = omega (arith, k, c.if-i-before.true) in
    let d = c.insert-left.ensures n.l (insert_left o n.left h) in
    (d.t, n.r, ready_left (beside_left o c.args.element d n.right h))

pub insert-right-requires : goal.insert-right-requires
insert-right-requires g t c κs =
    let n = top_row c.requires.0 c.in-Some.is c.row_at-row.ensures c.requires.1.rooted in
    let o = subst (Insert c.args.rows.now c.args.top c.args.i c.args.fresh) n.is c.requires.1 in
    let k = c.count_of-before.ensures n.l n.left in
    let i = insert_right o (c.args.i - c.count_of-before.result - 1) n.right (omega (arith, k, c.if-i-before.false)) in
    λ ls. (falls_right n c.decreases _ n.right, (ls.0, (ls.1.0, (ls.1.1, (n.r, i)))))

pub rebalance-requires-else-i-before : goal.rebalance-requires-else-i-before
rebalance-requires-else-i-before g t c =
    let n = top_row c.requires.0 c.in-Some.is c.row_at-row.ensures c.requires.1.rooted in
    let o = subst (Insert c.args.rows.now c.args.top c.args.i c.args.fresh) n.is c.requires.1 in
    let k = c.count_of-before.ensures n.l n.left in
    let j = c.args.i - c.count_of-before.result - 1 in
    let h : c.args.i ≡ count_of n.l + suc j = omega (arith, k, c.if-i-before.false) in
    let d = c.insert-right.ensures n.r (insert_right o j n.right h) in
    (n.l, d.t, ready_right (beside_right o c.args.element j d n.left h))

pub returns-in_default : goal.returns-in_default
returns-in_default g t c = λ u o.
    let none = is_leaf u (sym c.in_default.is ∙ o.rooted.0) in
    let o' = subst (Insert c.args.rows.now c.args.top c.args.i c.args.fresh) none o in
    subst (Inserted g.K.Kind.rule c.args.rows.now c.refresh.new.rows c.args.i c.args.fresh c.args.element c.args.fresh) (sym none)
    (inserted_leaf o' (c.refresh.ensures leaf leaf (refl, tt) (refl, tt)))

pub returns-then-i-before : goal.returns-then-i-before
returns-then-i-before g t c = λ u v.
    let n = top_row u c.in-Some.is c.row_at-row.ensures v.rooted in
    let o = subst (Insert c.args.rows.now c.args.top c.args.i c.args.fresh) n.is v in
    let k = c.count_of-before.ensures n.l n.left in
    let h : c.args.i ≤ count_of n.l = omega (arith, k, c.if-i-before.true) in
    let d = c.insert-left.ensures n.l (insert_left o n.left h) in
    let b = beside_left o c.args.element d n.right h in
    let a = c.rebalance.ensures d.t n.r (ready_left b) in
    subst (Inserted g.K.Kind.rule c.args.rows.now c.rebalance.new.rows c.args.i c.args.fresh c.args.element c.rebalance.result) (sym n.is)
    (inserted_on_left o c.args.element d b h n.element a)

pub returns-else-i-before : goal.returns-else-i-before
returns-else-i-before g t c = λ u v.
    let n = top_row u c.in-Some.is c.row_at-row.ensures v.rooted in
    let o = subst (Insert c.args.rows.now c.args.top c.args.i c.args.fresh) n.is v in
    let k = c.count_of-before.ensures n.l n.left in
    let j = c.args.i - c.count_of-before.result - 1 in
    let h : c.args.i ≡ count_of n.l + suc j = omega (arith, k, c.if-i-before.false) in
    let d = c.insert-right.ensures n.r (insert_right o j n.right h) in
    let b = beside_right o c.args.element j d n.left h in
    let a = c.rebalance-else-i-before.ensures n.l d.t (ready_right b) in
    subst (Inserted g.K.Kind.rule c.args.rows.now c.rebalance-else-i-before.new.rows c.args.i c.args.fresh c.args.element c.rebalance-else-i-before.result) (sym n.is)
    (inserted_on_right o c.args.element j d b h n.element a)
