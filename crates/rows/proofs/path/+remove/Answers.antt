use Rattle.std.proofs.Common.{◌-◌, ◌<◌, ◌∷◌, ◌++◌, Some, sym, refl, ap, ◌∙◌, subst, arith}
use Rattle.std.specs.List.{remove}
use Rattle.std.proofs.lemmas.List.Edits.{remove-append_left}
use Rattle.rows.specs.Edits.{Taken, Remove, Removed}
use Rattle.rows.specs.Shape.{node, count_of, elements, Rooted}
use Rattle.rows.proofs.Frames.{same_self}
use Rattle.rows.proofs.Nodes.{top_row, falls_left, falls_right, length_elements}
use Rattle.rows.proofs.Removes.{removed_right, removed_mid, count_removed, whole_left, whole_right, fewer_left, fewer_right, taken_left, taken_right}
use Rattle.rows.proofs.SideEdits.{ready_left, ready_right}
use Rattle.rows.proofs.path.+remove.Goals as goal

pub count_of-before-requires : goal.count_of-before-requires
count_of-before-requires g t c =
    let n = top_row c.requires.0 refl c.row_at-row.ensures c.requires.1.whole.rooted in
    (n.l, n.left)

pub remove-out-requires : goal.remove-out-requires
remove-out-requires g t c κs =
    let n = top_row c.requires.0 refl c.row_at-row.ensures c.requires.1.whole.rooted in
    let o = subst (Remove c.args.rows.now (Some c.args.place) c.args.i) n.is c.requires.1 in
    let s : Rooted c.args.rows.now (Some c.in-Some.below) n.l = (sym c.in-Some.is ∙ n.left.0, n.left.1) in
    let h : c.args.i < count_of n.l = omega (arith, c.count_of-before.ensures n.l n.left, c.if-i-before.true) in
    λ ls. (falls_left n c.decreases _ s, (ls.0, (ls.1.0, (ls.1.1, (n.l, record { whole = whole_left o.whole s; inside = h })))))

pub rebalance-top-requires : goal.rebalance-top-requires
rebalance-top-requires g t c =
    let n = top_row c.requires.0 refl c.row_at-row.ensures c.requires.1.whole.rooted in
    let o = subst (Remove c.args.rows.now (Some c.args.place) c.args.i) n.is c.requires.1 in
    let s : Rooted c.args.rows.now (Some c.in-Some.below) n.l = (sym c.in-Some.is ∙ n.left.0, n.left.1) in
    let h : c.args.i < count_of n.l = omega (arith, c.count_of-before.ensures n.l n.left, c.if-i-before.true) in
    let d = c.remove-out.ensures n.l (record { whole = whole_left o.whole s; inside = h }) in
    (d.edit.t, n.r, ready_left (fewer_left o.whole _ d.edit n.right (count_removed n.l c.args.i h)))

pub remove-out-requires-then-i-before-2 : goal.remove-out-requires-then-i-before-2
remove-out-requires-then-i-before-2 g t c κs =
    let n = top_row c.requires.0 refl c.row_at-row.ensures c.requires.1.whole.rooted in
    let o = subst (Remove c.args.rows.now (Some c.args.place) c.args.i) n.is c.requires.1 in
    let s : Rooted c.args.rows.now (Some c.in-Some-right.below) n.r = (sym c.in-Some-right.is ∙ n.right.0, n.right.1) in
    let h : c.args.i - c.count_of-before.result - 1 < count_of n.r = omega (arith, o.inside, c.count_of-before.ensures n.l n.left, c.if-i-before-2.true) in
    λ ls. (falls_right n c.decreases _ s, (ls.0, (ls.1.0, (ls.1.1, (n.r, record { whole = whole_right o.whole s; inside = h })))))

pub rebalance-top-requires-then-i-before-2 : goal.rebalance-top-requires-then-i-before-2
rebalance-top-requires-then-i-before-2 g t c =
    let n = top_row c.requires.0 refl c.row_at-row.ensures c.requires.1.whole.rooted in
    let o = subst (Remove c.args.rows.now (Some c.args.place) c.args.i) n.is c.requires.1 in
    let s : Rooted c.args.rows.now (Some c.in-Some-right.below) n.r = (sym c.in-Some-right.is ∙ n.right.0, n.right.1) in
    let j = c.args.i - c.count_of-before.result - 1 in
    let h : j < count_of n.r = omega (arith, o.inside, c.count_of-before.ensures n.l n.left, c.if-i-before-2.true) in
    let d = c.remove-out-then-i-before-2.ensures n.r (record { whole = whole_right o.whole s; inside = h }) in
    (n.l, d.edit.t, ready_right (fewer_right o.whole _ d.edit n.left (count_removed n.r j h)))

pub merge_sides-rest-requires : goal.merge_sides-rest-requires
merge_sides-rest-requires g t c =
    let n = top_row c.requires.0 refl c.row_at-row.ensures c.requires.1.whole.rooted in
    let o = subst (Remove c.args.rows.now (Some c.args.place) c.args.i) n.is c.requires.1 in
    (c.args.place, n.x, n.l, n.r, o.whole, n.left, n.right)

pub returns-in-Some : goal.returns-in-Some
returns-in-Some g t c = λ u v.
    let n = top_row u refl c.row_at-row.ensures v.whole.rooted in
    let o = subst (Remove c.args.rows.now (Some c.args.place) c.args.i) n.is v in
    let s : Rooted c.args.rows.now (Some c.in-Some.below) n.l = (sym c.in-Some.is ∙ n.left.0, n.left.1) in
    let h : c.args.i < count_of n.l = omega (arith, c.count_of-before.ensures n.l n.left, c.if-i-before.true) in
    let d = c.remove-out.ensures n.l (record { whole = whole_left o.whole s; inside = h }) in
    let b = fewer_left o.whole _ d.edit n.right (count_removed n.l c.args.i h) in
    let a = c.rebalance-top.ensures d.edit.t n.r (ready_left b) in
    let place = c.remove-out.result.place in
    let list = ap (λ z. remove (elements n.l) c.args.i ++ (z ∷ elements n.r)) n.element ∙ sym (remove-append_left (elements n.l) (n.x.element ∷ elements n.r) c.args.i (omega (arith, length_elements n.l))) in
    subst (Removed g.K.Kind.rule c.args.rows.now c.rebalance-top.new.rows place c.args.i (Some c.rebalance-top.result)) (sym n.is)
    (record { there = omega (arith, d.there, o.whole.apart place); edit = taken_left o.whole place d.edit b d.there list a })

pub returns-in-Some-right : goal.returns-in-Some-right
returns-in-Some-right g t c = λ u v.
    let n = top_row u refl c.row_at-row.ensures v.whole.rooted in
    let o = subst (Remove c.args.rows.now (Some c.args.place) c.args.i) n.is v in
    let s : Rooted c.args.rows.now (Some c.in-Some-right.below) n.r = (sym c.in-Some-right.is ∙ n.right.0, n.right.1) in
    let j = c.args.i - c.count_of-before.result - 1 in
    let k = c.count_of-before.ensures n.l n.left in
    let h : j < count_of n.r = omega (arith, o.inside, c.if-i-before-2.true) in
    let d = c.remove-out-then-i-before-2.ensures n.r (record { whole = whole_right o.whole s; inside = h }) in
    let b = fewer_right o.whole _ d.edit n.left (count_removed n.r j h) in
    let a = c.rebalance-top-then-i-before-2.ensures n.l d.edit.t (ready_right b) in
    let place = c.remove-out-then-i-before-2.result.place in
    let list = ap (λ z. elements n.l ++ (z ∷ remove (elements n.r) j)) n.element ∙ sym (removed_right (elements n.l) (elements n.r) n.x.element c.args.i j (omega (arith, length_elements n.l, c.if-i-before-2.true))) in
    subst (Removed g.K.Kind.rule c.args.rows.now c.rebalance-top-then-i-before-2.new.rows place c.args.i (Some c.rebalance-top-then-i-before-2.result)) (sym n.is)
    (record { there = omega (arith, d.there, o.whole.apart place); edit = taken_right o.whole place d.edit b d.there list a })

pub returns-else-i-before-2 : goal.returns-else-i-before-2
returns-else-i-before-2 g t c = λ u v.
    let m = g.K.Kind.rule in
    let n = top_row u refl c.row_at-row.ensures v.whole.rooted in
    let o = subst (Remove c.args.rows.now (Some c.args.place) c.args.i) n.is v in
    let k = c.count_of-before.ensures n.l n.left in
    let me = same_self c.args.place in
    let list = removed_mid (elements n.l) (elements n.r) n.x.element c.args.i (omega (arith, length_elements n.l, c.if-i-before.false, c.if-i-before-2.false)) in
    let d = c.merge_sides-rest.ensures c.args.place n.x n.l n.r o.whole n.left n.right in
    subst (Removed m c.args.rows.now c.merge_sides-rest.new.rows c.args.place c.args.i c.merge_sides-rest.result) (sym n.is)
    (record {
      there = omega (arith, o.whole.apart c.args.place);
      edit = subst (λ z. Taken m c.args.rows.now c.merge_sides-rest.new.rows c.merge_sides-rest.result c.args.place z (node c.args.place n.x n.l n.r)) (sym list) d;
    })
