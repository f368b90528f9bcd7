use Rattle.std.proofs.Common.{arith}
use Rattle.sequences.proofs.Runs.{ran_next}
use Rattle.sequences.proofs.answering.make_all.Goals as goal

pub loop-call-preserved : goal.loop-call-preserved
loop-call-preserved g c =
    let inv = c.loop-call.invariant in
    let pushed = c.push_reserved.ensures in (
      omega (arith, pushed.len, inv.0),
      omega (arith, pushed.capacity, inv.1),
      ran_next g.M.Answering.step c.args.machine.now c.args.calls.now c.loop-call.call-index _ _ c.loop-call.machine _ _ _
          c.loop-call-test.true c.call-item.is pushed.items inv.2 c.make.ensures,
    )
