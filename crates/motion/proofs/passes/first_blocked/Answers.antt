use Rattle.std.proofs.Common.{sym, ap, ◌∙◌, arith}
use Rattle.motion.specs.Runs.{run_down_rule}
use Rattle.motion.proofs.Passing.{blocked_here, blocked_on, run_more}
use Rattle.motion.proofs.passes.first_blocked.Goals as goal

pub returns-then-start-through : goal.returns-then-start-through
returns-then-start-through c =
    let inv = c.loop-m.invariant in
    sym (blocked_here c.args.blocks.now c.loop-m.m c.loop-m-test.true c.args.start c.own_cap.result c.loop-m.run inv.0 c.own_cap.ensures (omega (arith, c.through.ensures, c.if-start-through.true))) ∙ inv.1

pub loop-m-preserved : goal.loop-m-preserved
loop-m-preserved c =
    let blocks = c.args.blocks.now in
    let m = c.loop-m.m in
    let inv = c.loop-m.invariant in
    let h = c.loop-m-test.true in (
      c.join-run.ensures ∙ ap (run_down_rule.join c.loop-m.run) c.of.ensures ∙ run_more blocks m h c.loop-m.run inv.0,
      sym (blocked_on blocks m h c.args.start c.own_cap.result c.loop-m.run inv.0 c.own_cap.ensures (omega (arith, c.through.ensures, c.if-start-through.false))) ∙ inv.1,
    )
