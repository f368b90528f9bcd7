-- A whole job: well-formed fields up to an end field with the right byte, and nothing after it.
use Rattle.std.specs.Prelude.{ℕ, zero, suc, cond, List, length, take, Ok, Err, fold, Result, ◌==◌, bit_xor, nat_lt}
use Rattle.refusals.specs.declared.Refusal.{Refusal}
use Rattle.refusals.specs.declared.Refusal.TheVariants.{Cut, EndByte, Trailing}
use Rattle.job.specs.Fields.{field_at, offset_of}
use Rattle.job.specs.declared.fields.Field.{Field}
use Rattle.job.specs.declared.fields.Field.TheVariants.{Call, End}
use Rattle.job.specs.declared.fields.Found.{Found}

-- the exclusive-or of bytes
abbrev pub xor_of : List ℕ → ℕ
xor_of bs = fold bit_xor 0 bs

-- an end field tells the exclusive-or of all bytes before it, and no byte follows it
abbrev pub end_checked : List ℕ → ℕ → ℕ → ℕ → Result (Unit {0}) Refusal
end_checked bs at byte next =
    cond (byte == xor_of (take at bs))
    (cond (nat_lt next (length bs)) (Err (Trailing (offset_of next))) (Ok tt))
    (Err (EndByte (offset_of at)))

abbrev pub field_checked : Field → List ℕ → ℕ → ℕ → Result (Unit {0}) Refusal
field_checked (Call call) bs at next = Ok tt
field_checked (End byte) bs at next = end_checked bs at byte next

abbrev pub passed : Found → Result (Unit {0}) Refusal → Result Found Refusal
passed f (Ok x) = Ok f
passed f (Err why) = Err why

abbrev pub found_checked : Result Found Refusal → List ℕ → ℕ → Result Found Refusal
found_checked (Ok f) bs at = passed f (field_checked f.field bs at f.next)
found_checked (Err why) bs at = Err why

-- the field that starts at a place, where it is well formed and, if it is the end, right and the last
abbrev pub checked_at : List ℕ → ℕ → Result Found Refusal
checked_at bs at = found_checked (field_at bs at) bs at

-- the end settles the verdict; any other field leaves it to those after it
abbrev pub field_verdict : Field → Result (Unit {0}) Refusal → Result (Unit {0}) Refusal
field_verdict (Call call) rest = rest
field_verdict (End byte) rest = Ok tt

abbrev pub found_verdict : Result Found Refusal → (ℕ → Result (Unit {0}) Refusal) → Result (Unit {0}) Refusal
found_verdict (Ok f) rest = field_verdict f.field (rest f.next)
found_verdict (Err why) rest = Err why

-- the verdict on at most n fields from a place on
abbrev pub verdict_from : ℕ → List ℕ → ℕ → Result (Unit {0}) Refusal
verdict_from zero bs at = Err (Cut (offset_of at))
verdict_from (suc n) bs at = found_verdict (checked_at bs at) (verdict_from n bs)

-- a job has fewer fields than bytes
abbrev pub verdict_of : List ℕ → Result (Unit {0}) Refusal
verdict_of bs = verdict_from (suc (length bs)) bs 0
