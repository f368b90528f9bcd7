use Rattle.std.proofs.Common.{◌-◌, sym, subst, arith}
use Rattle.rows.specs.Edits.{Whole, Replaced}
use Rattle.rows.proofs.Nodes.{top_row, falls_left, falls_right}
use Rattle.rows.proofs.Removes.{whole_left, whole_right}
use Rattle.rows.proofs.Replaces.{alike_sides, alike_here, alike_left, alike_right, replaced_here, replaced_left, replaced_right}
use Rattle.rows.proofs.path.+replace.Goals as goal

pub count_of-before-requires : goal.count_of-before-requires
count_of-before-requires g t c =
    let n = top_row c.requires.0 c.in-Some.is c.row_at-row.ensures c.requires.1.rooted in
    (n.l, n.left)

pub replace-requires : goal.replace-requires
replace-requires g t c κs =
    let n = top_row c.requires.0 c.in-Some.is c.row_at-row.ensures c.requires.1.rooted in
    let o = subst (Whole c.args.rows.now c.args.side) n.is c.requires.1 in
    λ ls. (falls_left n c.decreases _ n.left, (ls.0, (ls.1.0, (ls.1.1, (n.l, whole_left o n.left)))))

pub refresh-requires-clause-sides : goal.refresh-requires-clause-sides
refresh-requires-clause-sides g t c =
    let n = top_row c.requires.0 c.in-Some.is c.row_at-row.ensures c.requires.1.rooted in
    let o = subst (Whole c.args.rows.now c.args.side) n.is c.requires.1 in
    let b = alike_left o n.left n.right c.args.element c.args.i (c.replace.ensures n.l (whole_left o n.left)) in
    alike_sides o b

pub replace-requires-then-i-before-2 : goal.replace-requires-then-i-before-2
replace-requires-then-i-before-2 g t c κs =
    let n = top_row c.requires.0 c.in-Some.is c.row_at-row.ensures c.requires.1.rooted in
    let o = subst (Whole c.args.rows.now c.args.side) n.is c.requires.1 in
    λ ls. (falls_right n c.decreases _ n.right, (ls.0, (ls.1.0, (ls.1.1, (n.r, whole_right o n.right)))))

pub refresh-requires-then-i-before-2-clause-sides : goal.refresh-requires-then-i-before-2-clause-sides
refresh-requires-then-i-before-2-clause-sides g t c =
    let n = top_row c.requires.0 c.in-Some.is c.row_at-row.ensures c.requires.1.rooted in
    let o = subst (Whole c.args.rows.now c.args.side) n.is c.requires.1 in
    let j = c.args.i - c.count_of-before.result - 1 in
    let b = alike_right o n.left n.right c.args.element j (c.replace-then-i-before-2.ensures n.r (whole_right o n.right)) in
    alike_sides o b

pub refresh-requires-else-i-before-2-clause-sides : goal.refresh-requires-else-i-before-2-clause-sides
refresh-requires-else-i-before-2-clause-sides g t c =
    let n = top_row c.requires.0 c.in-Some.is c.row_at-row.ensures c.requires.1.rooted in
    let o = subst (Whole c.args.rows.now c.args.side) n.is c.requires.1 in
    let b = alike_here o n.left n.right in
    alike_sides o b

pub returns-then-i-before : goal.returns-then-i-before
returns-then-i-before g t c = λ u v.
    let n = top_row u c.in-Some.is c.row_at-row.ensures v.rooted in
    let o = subst (Whole c.args.rows.now c.args.side) n.is v in
    let k = c.count_of-before.ensures n.l n.left in
    let d = c.replace.ensures n.l (whole_left o n.left) in
    let b = alike_left o n.left n.right c.args.element c.args.i d in
    let w = c.refresh.ensures d.t n.r b.left_is b.right_is in
    subst (Replaced g.K.Kind.rule c.args.rows.now c.refresh.new.rows c.args.i c.args.element c.args.side) (sym n.is)
    (replaced_left o c.args.i c.args.element n.element d b w (omega (arith, k, c.if-i-before.true)))

pub returns-then-i-before-2 : goal.returns-then-i-before-2
returns-then-i-before-2 g t c = λ u v.
    let n = top_row u c.in-Some.is c.row_at-row.ensures v.rooted in
    let o = subst (Whole c.args.rows.now c.args.side) n.is v in
    let k = c.count_of-before.ensures n.l n.left in
    let j = c.args.i - c.count_of-before.result - 1 in
    let d = c.replace-then-i-before-2.ensures n.r (whole_right o n.right) in
    let b = alike_right o n.left n.right c.args.element j d in
    let w = c.refresh-then-i-before-2.ensures n.l d.t b.left_is b.right_is in
    subst (Replaced g.K.Kind.rule c.args.rows.now c.refresh-then-i-before-2.new.rows c.args.i c.args.element c.args.side) (sym n.is)
    (replaced_right o c.args.i c.args.element n.element j d b w (omega (arith, k, c.if-i-before-2.true)))

pub returns-else-i-before-2 : goal.returns-else-i-before-2
returns-else-i-before-2 g t c = λ u v.
    let n = top_row u c.in-Some.is c.row_at-row.ensures v.rooted in
    let o = subst (Whole c.args.rows.now c.args.side) n.is v in
    let k = c.count_of-before.ensures n.l n.left in
    let w = c.refresh-else-i-before-2.ensures n.l n.r n.left n.right in
    subst (Replaced g.K.Kind.rule c.args.rows.now c.refresh-else-i-before-2.new.rows c.args.i c.args.element c.args.side) (sym n.is)
    (replaced_here o c.args.i c.args.element (alike_here o n.left n.right) w (omega (arith, k, c.if-i-before.false, c.if-i-before-2.false)))
