use Rattle.plan.specs.Meaning.{model_of}
use Rattle.firmware.proofs.Working.{along_more}
use Rattle.firmware.proofs.workload.digest_calls.Goals as goal

pub loop-call-preserved : goal.loop-call-preserved
loop-call-preserved g c =
    let s = g.S.Sequence in
    let work = c.args.work in
    along_more (model_of s.list s.room c.args.plan.now) work.seed work.size work.mix c.loop-call.call c.loop-call.digest _ _ _ c.drawn_call.result c.apply.result c.loop-call.invariant c.drawn_call.ensures c.apply.ensures.value c.apply.ensures.after c.digested-digest.ensures
