use Rattle.plan.specs.Meaning.{model_of}
use Rattle.firmware.proofs.Working.{Along}
use Rattle.firmware.proofs.workload.digest_calls.Given as goal

abbrev pub invariant-loop-call : goal.invariant-loop-call
invariant-loop-call g l =
    let s = g.S.Sequence in
    Along (model_of s.list s.room l.initial.plan) l.work.seed l.work.size l.work.mix l.call l.digest (model_of s.list s.room l.plan)
