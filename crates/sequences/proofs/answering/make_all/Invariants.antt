use Rattle.std.proofs.Common.{◌≡◌, ◌≤◌, length, take, vec_items, vec_len, vec_capacity}
use Rattle.sequences.specs.Runs.{Ran}
use Rattle.sequences.proofs.answering.make_all.Given as goal

abbrev pub invariant-loop-call : goal.invariant-loop-call
invariant-loop-call g l =
    (vec_len l.answers ≡ l.call-index)
    × (length l.calls ≤ vec_capacity l.answers)
    × Ran g.M.Answering.step l.initial.machine (take l.call-index l.calls) (vec_items l.answers) l.machine
