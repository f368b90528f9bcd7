use Rattle.std.proofs.Common.{arith}
use Rattle.tree.proofs.Trees.{sound_of, edited_sound}
use Rattle.tree.proofs.TreeSequence.delete.Goals as goal

pub delete_element-self-requires : goal.delete_element-self-requires
delete_element-self-requires g c = record { laid = (sound_of g.row.K-Element.coded g.row.K-Summary.coded c.args.self.now).laid; inside = omega (arith, c.len.ensures.value, c.if-i-len.false) }

pub invariant_of-self : goal.invariant_of-self
invariant_of-self g c = record { sound = edited_sound c.delete_element-self.ensures (sound_of g.row.K-Element.coded g.row.K-Summary.coded c.args.self.now) }
