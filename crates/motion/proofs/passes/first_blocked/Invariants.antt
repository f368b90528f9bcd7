use Rattle.std.proofs.Common.{◌≡◌, ◌-◌, length, take}
use Rattle.kinds.specs.Rules.{summary}
use Rattle.motion.specs.Profiles.{blocked_from, first_blocked}
use Rattle.motion.specs.Runs.{run_down_rule}
use Rattle.motion.proofs.passes.first_blocked.Given as goal

abbrev pub invariant-loop-m : goal.invariant-loop-m
invariant-loop-m l =
    (l.run ≡ summary run_down_rule (take l.m l.blocks))
    × (blocked_from l.blocks l.start l.m (length l.blocks - l.m) ≡ first_blocked l.blocks l.start)
