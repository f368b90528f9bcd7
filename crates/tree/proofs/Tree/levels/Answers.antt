use Rattle.tree.proofs.Trees.{sound_of}
use Rattle.tree.proofs.Tree.levels.Goals as goal

pub depth_of-requires : goal.depth_of-requires
depth_of-requires g c = (_, (sound_of g.row.K-Element.coded g.row.K-Summary.coded c.args.self.now).laid.rooted)

pub returns : goal.returns
returns g c = c.depth_of.ensures _ (sound_of g.row.K-Element.coded g.row.K-Summary.coded c.args.self.now).laid.rooted
