use Rattle.tree.proofs.Trees.{sound_of}
use Rattle.tree.proofs.Tree.get.Goals as goal

pub element_at-requires : goal.element_at-requires
element_at-requires g c = (_, (sound_of g.row.K-Element.coded g.row.K-Summary.coded c.args.self.now).laid.rooted)

pub returns : goal.returns
returns g c = c.element_at.ensures _ (sound_of g.row.K-Element.coded g.row.K-Summary.coded c.args.self.now).laid.rooted
