use Rattle.std.proofs.Common.{sym, ap, ◌∙◌, arith}
use Rattle.rows.specs.Shape.{depth_of}
use Rattle.rows.proofs.Nodes.{is_leaf}
use Rattle.rows.proofs.Rotations.{refreshed, too_deep}
use Rattle.rows.proofs.SideEdits.{mirrored}
use Rattle.rows.proofs.balance.rebalance.Goals as goal

pub rotate-requires : goal.rotate-requires
rotate-requires g c =
    let o = c.requires.2 in
    (_, _, too_deep o c.in-Some.is (omega (arith, c.depth_of-left_depth.ensures _ o.left_is, c.depth_of-right_depth.ensures _ o.right_is, c.if-left_depth-right_depth.true)))

pub unreachable-requires-in_default-right : goal.unreachable-requires-in_default-right
unreachable-requires-in_default-right g c =
    let o = c.requires.2 in
    let r = c.requires.1 in
    let none = ap depth_of (is_leaf r (sym c.in_default-right.is ∙ o.right_is.0)) in
    omega (arith, c.depth_of-right_depth.ensures r o.right_is)

pub rotate-requires-then-right_depth-left_depth : goal.rotate-requires-then-right_depth-left_depth
rotate-requires-then-right_depth-left_depth g c =
    let o = c.requires.2 in
    (_, _, too_deep (mirrored o) c.in-Some-right.is (omega (arith, c.depth_of-left_depth.ensures _ o.left_is, c.depth_of-right_depth.ensures _ o.right_is, c.if-right_depth-left_depth.true)))

pub returns-in-Some : goal.returns-in-Some
returns-in-Some g c = λ l r o.
    c.rotate.ensures l r (too_deep o c.in-Some.is (omega (arith, c.depth_of-left_depth.ensures l o.left_is, c.depth_of-right_depth.ensures r o.right_is, c.if-left_depth-right_depth.true)))

pub returns-in-Some-right : goal.returns-in-Some-right
returns-in-Some-right g c = λ l r o.
    c.rotate-then-right_depth-left_depth.ensures r l (too_deep (mirrored o) c.in-Some-right.is (omega (arith, c.depth_of-left_depth.ensures l o.left_is, c.depth_of-right_depth.ensures r o.right_is, c.if-right_depth-left_depth.true)))

pub returns-else-right_depth-left_depth : goal.returns-else-right_depth-left_depth
returns-else-right_depth-left_depth g c = λ l r o.
    let dl = c.depth_of-left_depth.ensures l o.left_is in
    let dr = c.depth_of-right_depth.ensures r o.right_is in
    refreshed o (c.refresh.ensures l r o.left_is o.right_is) (omega (arith, dl, dr, c.if-left_depth-right_depth.false)) (omega (arith, dl, dr, c.if-right_depth-left_depth.false))
