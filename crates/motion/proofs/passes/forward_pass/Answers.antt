use Rattle.std.proofs.Common.{◌≡◌, ◌+◌, length, get_or, refl, ◌∙◌, arith}
use Rattle.motion.specs.Profiles.{forward_at, reverse_at}
use Rattle.motion.proofs.Passing.{filled_from, filled_all, split_up, forward_next}
use Rattle.motion.proofs.passes.forward_pass.Goals as goal

pub loop-j-init : goal.loop-j-init
loop-j-init c =
    let blocks = c.args.blocks.now in
    let f = filled_from (reverse_at blocks) (length blocks) c.args.speeds.now c.requires in
    split_up (forward_at blocks c.args.start) (reverse_at blocks) (length blocks) 0 c.args.start c.args.speeds.now (omega arith) (f.0, λ k l m. absurd (omega arith), λ k l m. f.1 k m) refl

pub loop-j-preserved : goal.loop-j-preserved
loop-j-preserved c =
    let blocks = c.args.blocks.now in
    let j = c.loop-j.j in
    let v = c.loop-j.speeds in
    let inv = c.loop-j.invariant in
    let least : c.next_speed.result ≡ forward_at blocks c.args.start (j + 1) =
    c.next_speed.ensures
    ∙ forward_next blocks j (omega arith) c.args.start (get_or v (j + 1) 0) (get_or v j 0) c.rise.result (inv.2 (j + 1) (omega arith) (omega arith)) (inv.1 j (omega arith) (omega arith)) c.rise.ensures in
    split_up (forward_at blocks c.args.start) (reverse_at blocks) (length blocks) (j + 1) c.next_speed.result v (omega arith) inv least

pub returns : goal.returns
returns c =
    let blocks = c.args.blocks.now in
    let inv = c.loop-j.invariant in
    filled_all (forward_at blocks c.args.start) (length blocks) c.loop-j.speeds (inv.0, λ k m. inv.1 k (omega arith) m)
