use Rattle.std.proofs.Common.{◌≤◌, subst}
use Rattle.rows.proofs.Nodes.{length_elements}
use Rattle.tree.proofs.Trees.{sound_of}
use Rattle.tree.proofs.Tree.range.Goals as goal

pub range_summary-requires : goal.range_summary-requires
range_summary-requires g c = (_, (sound_of g.row.K-Element.coded g.row.K-Summary.coded c.args.self.now).laid.rooted, c.requires.order, subst (λ z. c.args.j ≤ z) (length_elements _) c.requires.within)

pub returns : goal.returns
returns g c =
    let s = sound_of g.row.K-Element.coded g.row.K-Summary.coded c.args.self.now in
    c.range_summary.ensures _ s.laid.rooted c.requires.order (subst (λ z. c.args.j ≤ z) (length_elements _) c.requires.within) s.told
