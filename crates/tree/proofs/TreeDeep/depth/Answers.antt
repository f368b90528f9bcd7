use Rattle.std.proofs.Common.{◌-◌, ◌^◌, ◌≤◌, length, sym, refl, subst, arith}
use lib.Pow.{le_ones}
use Rattle.kinds.specs.Balance.{fewest}
use Rattle.rows.specs.Layouts.{shape_of}
use Rattle.rows.specs.Shape.{depth_of, elements}
use Rattle.rows.proofs.Depths.{at_least_fewest, below_power}
use Rattle.rows.proofs.Nodes.{length_elements}
use Rattle.rows.proofs.Ranges.{told_summed}
use Rattle.tree.proofs.Trees.{sound_of}
use Rattle.tree.proofs.TreeDeep.depth.Goals as goal

pub returns : goal.returns
returns g c =
    let s = sound_of g.row.K-Element.coded g.row.K-Summary.coded c.args.self.now in
    let t = shape_of c.args.self.now.rows.now c.args.self.now.heads.top in
    let d = c.levels.ensures in
    let n = length_elements t in
    record {
      value = d;
      least = subst (λ k. fewest k ≤ length (elements t)) (sym d) (omega (arith, at_least_fewest t s.laid.balanced));
      most = subst (λ k. length (elements t) ≤ 2 ^ k - 1) (sym d) (subst (λ k. k ≤ 2 ^ depth_of t - 1) (sym n) (le_ones (depth_of t) (below_power t)));
      stands = record { tree = t; reached = s.laid.rooted; apart = λ p. omega (arith, s.laid.apart p); balanced = s.laid.balanced; holds = refl; deep = refl; summed = told_summed g.K.Kind.laws t s.told };
      same = refl;
    }
