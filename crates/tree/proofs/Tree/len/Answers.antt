use Rattle.std.proofs.Common.{sym, ◌∙◌, arith}
use Rattle.rows.proofs.Nodes.{length_elements}
use Rattle.tree.proofs.Trees.{sound_of}
use Rattle.tree.proofs.Tree.len.Goals as goal

pub count_of-requires : goal.count_of-requires
count_of-requires g c = (_, (sound_of g.row.K-Element.coded g.row.K-Summary.coded c.args.self.now).laid.rooted)

pub returns : goal.returns
returns g c =
    let s = (sound_of g.row.K-Element.coded g.row.K-Summary.coded c.args.self.now).laid in
    let count = c.count_of.ensures _ s.rooted in
    record { value = count ∙ sym (length_elements _); within = omega (arith, s.many, s.small, s.within) }
