use Rattle.std.proofs.Common.{◌≡◌, ℕ, ◌-◌, ◌*◌, ◌≤◌, length, vec_items, vec_len, vec_capacity}
use Rattle.plan.specs.Meaning.{model_of}
use Rattle.job.proofs.Goings.{Along}
use Rattle.job.proofs.running.add_fields.Given as goal

abbrev pub invariant-loop-written : goal.invariant-loop-written
invariant-loop-written g l =
    let model = model_of g.S.Sequence.list g.S.Sequence.room in
    (length l.line ≡ 64)
    × (l.reader.job.now ≡ l.job)
    × (vec_len l.text ≤ l.reader.place * 16)
    × (length l.job * 16 ≤ vec_capacity l.text)
    × ((n : ℕ) × Along l.reader.job.now (model l.initial.plan) n l.reader.place (vec_items l.text) (model l.plan))

abbrev pub decreases-loop-written : goal.decreases-loop-written
decreases-loop-written g l = length l.reader.job.now - l.reader.place
