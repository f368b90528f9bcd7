use Rattle.std.proofs.Common.{◌≡◌, List, ◌++◌, length}
use Rattle.std.specs.Slice.Iter.{iter_rest}
use Rattle.std.specs.Iterator.Adapters.{rev_source, enumerate_source, enumerate_count}
use Rattle.motion.specs.declared.blocks.Block.{Block}
use Rattle.motion.specs.Profiles.{junction_cap, reverse_at}
use Rattle.motion.proofs.Passing.{Split}
use Rattle.motion.proofs.passes.reverse_pass.Given as goal

abbrev pub invariant-loop-j : goal.invariant-loop-j
invariant-loop-j l =
    let left = iter_rest (enumerate_source (rev_source l.j-iterator)) in
    (enumerate_count (rev_source l.j-iterator) ≡ 0)
    × ((passed : List Block) × (l.blocks ≡ left ++ passed))
    × Split (junction_cap l.blocks) (reverse_at l.blocks) (length l.blocks) (length left) l.speeds
