use Rattle.std.proofs.Common.{subst}
use Rattle.motion.specs.Figures.{apart, square_of}
use Rattle.motion.specs.Roots.{WholeRoot}
use Rattle.motion.proofs.Figures.{square_valid}
use Rattle.motion.proofs.Rooted.{rooted}
use Rattle.motion.proofs.blocks.length_between.Goals as goal

pub returns : goal.returns
returns c =
    let p = c.args.p in
    let q = c.args.q in
    let r = c.whole_root.result in
    let n = square_of (apart p q 0) (apart p q 1) in
    let root = rooted n c.square_between.result r c.square_between.ensures c.square_between.type_inv c.whole_root.ensures.fits c.whole_root.ensures.next in
    record { value = root.0; greatest = root.1; valid = λ v w. subst (λ m. WholeRoot m r) (square_valid p q v w) root.1 }
