use Rattle.std.proofs.Common.{◌≡◌, ◌-◌, length}
use Rattle.plan.specs.Meaning.{model_of}
use Rattle.job.proofs.Goings.{Running}
use Rattle.job.proofs.running.run_fields.Given as goal

abbrev pub invariant-loop-written : goal.invariant-loop-written
invariant-loop-written g l =
    let model = model_of g.S.Sequence.list g.S.Sequence.room in
    (l.reader.job.now ≡ l.job) × Running l.reader.job.now (model l.initial.plan) l.reader.place l.at l.initial.text l.text (model l.plan)

abbrev pub decreases-loop-written : goal.decreases-loop-written
decreases-loop-written g l = length l.reader.job.now - l.reader.place
