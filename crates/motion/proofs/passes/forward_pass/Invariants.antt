use Rattle.std.proofs.Common.{◌+◌, length}
use Rattle.motion.specs.Profiles.{forward_at, reverse_at}
use Rattle.motion.proofs.Passing.{Split}
use Rattle.motion.proofs.passes.forward_pass.Given as goal

abbrev pub invariant-loop-j : goal.invariant-loop-j
invariant-loop-j l = Split (forward_at l.blocks l.start) (reverse_at l.blocks) (length l.blocks) (l.j + 1) l.speeds
