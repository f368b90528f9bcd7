use Rattle.std.proofs.Common.{arith}
use Rattle.tree.proofs.Trees.{sound_of, edited_sound}
use Rattle.tree.proofs.TreeSequence.insert.Goals as goal

pub insert_element-self-requires : goal.insert_element-self-requires
insert_element-self-requires g c = record { laid = (sound_of g.row.K-Element.coded g.row.K-Summary.coded c.args.self.now).laid; inside = omega (arith, c.len-count.ensures.value, c.if-i-count.false); room = grind (arith, c.len-count.ensures.value, c.len-count.ensures.within, c.room.ensures, c.if-count-room.false) }

pub invariant_of-self : goal.invariant_of-self
invariant_of-self g c = record { sound = edited_sound c.insert_element-self.ensures (sound_of g.row.K-Element.coded g.row.K-Summary.coded c.args.self.now) }
