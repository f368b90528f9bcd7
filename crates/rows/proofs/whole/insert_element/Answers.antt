use Rattle.std.proofs.Common.{arith}
use Rattle.rows.specs.Layouts.{shape_of}
use Rattle.rows.proofs.Nodes.{length_elements}
use Rattle.rows.proofs.WholeEdits.{insert_begins, insert_ends}
use Rattle.rows.proofs.whole.insert_element.Goals as goal

pub unreachable-requires : goal.unreachable-requires
unreachable-requires g c =
    let s = c.requires.laid in
    let h = c.in_default.ensures _ s.free_list in
    omega (arith, h.0, h.1, c.requires.room, s.many, length_elements (shape_of c.args.rows.now c.args.heads.top))

pub insert-top-requires : goal.insert-top-requires
insert-top-requires g c = (_, insert_begins c.requires (c.in-Some.ensures _ c.requires.laid.free_list))

pub returns : goal.returns
returns g c =
    let v = c.in-Some.ensures _ c.requires.laid.free_list in
    insert_ends c.requires v c.args.element (c.insert-top.ensures _ (insert_begins c.requires v))
