use Rattle.std.proofs.Common.{◌≡◌, vec_items, ◌∙◌, arith}
use Rattle.motion.specs.Profiles.{junction_caps}
use Rattle.motion.proofs.Passing.{cap_more, limit_more, caps_from, caps_end}
use Rattle.motion.proofs.passes.junction_caps.Goals as goal

pub loop-block-preserved : goal.loop-block-preserved
loop-block-preserved c =
    let blocks = c.args.blocks.now in
    let i = c.loop-block.block-index in
    let inv = c.loop-block.invariant in
    let h = c.loop-block-test.true in (
      omega arith,
      c.in_ok-push.ensures.items ∙ cap_more blocks i h (vec_items c.loop-block.caps) c.loop-block.before c.junction_cap.result inv.1 inv.2 c.junction_cap.ensures,
      c.min-before.ensures ∙ limit_more blocks i h c.own_cap.result c.corner_cap.result c.own_cap.ensures c.corner_cap.ensures,
    )

pub returns : goal.returns
returns c =
    let blocks = c.args.blocks.now in
    let all : vec_items c.push-2.new.self ≡ junction_caps blocks =
    c.in_ok-push-2.ensures.items ∙ caps_end blocks (vec_items c.loop-block.caps) c.loop-block.block-index (omega arith) c.loop-block.invariant.1 in
    record { value = all; cases = caps_from blocks (vec_items c.push-2.new.self) all }
