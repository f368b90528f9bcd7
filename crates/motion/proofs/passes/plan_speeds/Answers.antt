use Rattle.std.proofs.Common.{Ok, sym, subst, arith}
use Rattle.std.proofs.lemmas.List.{take_at}
use Rattle.motion.specs.Profiles.{Greatest}
use Rattle.motion.proofs.Lawfulness.{passes}
use Rattle.motion.proofs.Blocking.{planned_then_right}
use Rattle.motion.proofs.passes.plan_speeds.Goals as goal

pub returns-in_err-speeds-clause-passes : goal.returns-in_err-speeds-clause-passes
returns-in_err-speeds-clause-passes c = passes c.args.blocks.now

pub returns-clause-right : goal.returns-clause-right
returns-clause-right c =
    let blocks = c.args.blocks.now in
    let s = c.args.start in
    let v = c.both_passes.new.speeds in
    subst (Greatest blocks s) (sym (take_at v _ c.in_ok-speeds.speeds.len (omega arith))) (planned_then_right (λ _. v) (Ok (tt {0})) blocks s c.in_ok-both_passes.ensures)
