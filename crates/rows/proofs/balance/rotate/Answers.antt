use Rattle.std.proofs.Common.{refl, arith}
use Rattle.rows.proofs.Hands.{opened_by}
use Rattle.rows.proofs.Rotations.{single_sides, outer_stays, moved_is, single_top_sides, rotated, double_sides, double_near, double_q_sides, double_p, double_q, double_top_sides, twice_rotated}
use Rattle.rows.proofs.balance.rotate.Goals as goal

pub depth_of-requires : goal.depth_of-requires
depth_of-requires g c =
    let o = c.requires.2 in
    let n = opened_by c.args.hand c.requires.0 refl o.deep_is o.deep_balanced c.row_at-row.ensures c.order-outer.ensures in
    (n.u, n.near_is)

pub depth_of-requires-2 : goal.depth_of-requires-2
depth_of-requires-2 g c =
    let o = c.requires.2 in
    let n = opened_by c.args.hand c.requires.0 refl o.deep_is o.deep_balanced c.row_at-row.ensures c.order-outer.ensures in
    (n.v, n.far_is)

pub refresh_by-requires-clause-sides : goal.refresh_by-requires-clause-sides
refresh_by-requires-clause-sides g c =
    let o = c.requires.2 in
    single_sides o (opened_by c.args.hand c.requires.0 refl o.deep_is o.deep_balanced c.row_at-row.ensures c.order-outer.ensures)

pub refresh_by-requires-then-depth_of-clause-sides : goal.refresh_by-requires-then-depth_of-clause-sides
refresh_by-requires-then-depth_of-clause-sides g c =
    let o = c.requires.2 in
    let n = opened_by c.args.hand c.requires.0 refl o.deep_is o.deep_balanced c.row_at-row.ensures c.order-outer.ensures in
    single_top_sides o n (c.refresh_by.ensures n.v c.requires.1 n.far_is o.other_is)

pub returns-then-depth_of : goal.returns-then-depth_of
returns-then-depth_of g c = λ t r o.
    let n = opened_by c.args.hand t refl o.deep_is o.deep_balanced c.row_at-row.ensures c.order-outer.ensures in
    let w1 = c.refresh_by.ensures n.v r n.far_is o.other_is in
    rotated o n w1 (omega (arith, c.depth_of.ensures n.u n.near_is, c.depth_of-2.ensures n.v n.far_is, c.if-depth_of.true)) (c.refresh_by-then-depth_of.ensures n.u _ (outer_stays o n w1) (moved_is o n w1))

pub refresh_by-requires-2-clause-sides : goal.refresh_by-requires-2-clause-sides
refresh_by-requires-2-clause-sides g c =
    let o = c.requires.2 in
    let n = opened_by c.args.hand c.requires.0 refl o.deep_is o.deep_balanced c.row_at-row.ensures c.order-outer.ensures in
    double_sides o n (opened_by c.args.hand n.v c.in-Some.is n.far_is n.far_balanced c.row_at-top.ensures c.order-near.ensures)

pub refresh_by-requires-3-clause-sides : goal.refresh_by-requires-3-clause-sides
refresh_by-requires-3-clause-sides g c =
    let o = c.requires.2 in
    let n = opened_by c.args.hand c.requires.0 refl o.deep_is o.deep_balanced c.row_at-row.ensures c.order-outer.ensures in
    let i = opened_by c.args.hand n.v c.in-Some.is n.far_is n.far_balanced c.row_at-top.ensures c.order-near.ensures in
    double_q_sides o n i (c.refresh_by-2.ensures i.v c.requires.1 i.far_is o.other_is)

pub refresh_by-requires-4-clause-sides : goal.refresh_by-requires-4-clause-sides
refresh_by-requires-4-clause-sides g c =
    let o = c.requires.2 in
    let n = opened_by c.args.hand c.requires.0 refl o.deep_is o.deep_balanced c.row_at-row.ensures c.order-outer.ensures in
    let i = opened_by c.args.hand n.v c.in-Some.is n.far_is n.far_balanced c.row_at-top.ensures c.order-near.ensures in
    let w1 = c.refresh_by-2.ensures i.v c.requires.1 i.far_is o.other_is in
    double_top_sides o n i w1 (c.refresh_by-3.ensures n.u i.u (outer_stays o n w1) (double_near o n i w1))

pub returns : goal.returns
returns g c = λ t r o.
    let n = opened_by c.args.hand t refl o.deep_is o.deep_balanced c.row_at-row.ensures c.order-outer.ensures in
    let i = opened_by c.args.hand n.v c.in-Some.is n.far_is n.far_balanced c.row_at-top.ensures c.order-near.ensures in
    let w1 = c.refresh_by-2.ensures i.v r i.far_is o.other_is in
    let w2 = c.refresh_by-3.ensures n.u i.u (outer_stays o n w1) (double_near o n i w1) in
    twice_rotated o n i w1 w2 (omega (arith, c.depth_of.ensures n.u n.near_is, c.depth_of-2.ensures n.v n.far_is, c.if-depth_of.false)) (c.refresh_by-4.ensures _ _ (double_q o n i w1 w2) (double_p o n i w1 w2))
