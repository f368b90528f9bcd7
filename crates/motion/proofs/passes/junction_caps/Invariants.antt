use Rattle.std.proofs.Common.{◌≡◌, ◌≤◌, map, length, vec_items}
use Rattle.std.specs.List.{range_with_len}
use Rattle.motion.specs.Profiles.{junction_cap}
use Rattle.motion.proofs.Passing.{limit}
use Rattle.motion.proofs.passes.junction_caps.Given as goal

abbrev pub invariant-loop-block : goal.invariant-loop-block
invariant-loop-block l =
    (l.block-index ≤ length l.blocks)
    × (vec_items l.caps ≡ map (junction_cap l.blocks) (range_with_len 0 l.block-index))
    × (l.before ≡ limit l.blocks l.block-index)
