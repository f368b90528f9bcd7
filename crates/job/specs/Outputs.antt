-- What a whole job writes, and what it leaves of the model.
use Rattle.std.specs.Prelude.{ℕ, zero, suc, List, [], ◌∷◌, ◌++◌, map, length, Ok, Err, Result}
use Rattle.refusals.specs.declared.Refusal.{Refusal}
use Rattle.plan.specs.Calls.{answer, after, after_all}
use Rattle.plan.specs.Models.{Model}
use Rattle.plan.specs.declared.calls.Call as call
use Rattle.job.specs.Fields.{offset_of}
use Rattle.job.specs.Lines.{answer_line, refused_line}
use Rattle.job.specs.Verdicts.{checked_at, verdict_of}
use Rattle.job.specs.declared.fields.Field.{Field}
use Rattle.job.specs.declared.fields.Field.TheVariants.{Call, End}
use Rattle.job.specs.declared.fields.Found.{Found}

-- a call, and the place where its field starts
pub record Placed : Type 0 where
  pub at : ℕ
  pub call : call.Call

abbrev pub placed : ℕ → call.Call → Placed
placed at c = record { at = at; call = c }

abbrev pub field_calls : Field → ℕ → List Placed → List Placed
field_calls (Call c) at rest = placed at c ∷ rest
field_calls (End byte) at rest = []

abbrev pub found_calls : Result Found Refusal → ℕ → (ℕ → List Placed) → List Placed
found_calls (Ok f) at rest = field_calls f.field at (rest f.next)
found_calls (Err why) at rest = []

-- the calls of at most n fields from a place on
abbrev pub calls_from : ℕ → List ℕ → ℕ → List Placed
calls_from zero bs at = []
calls_from (suc n) bs at = found_calls (checked_at bs at) at (calls_from n bs)

-- the calls of a job in their order
abbrev pub placed_calls : List ℕ → List Placed
placed_calls bs = calls_from (suc (length bs)) bs 0

-- the lines of calls, each for what the model then holds
abbrev pub lines_of : Model → List Placed → List ℕ
lines_of b [] = []
lines_of b (p ∷ more) = answer_line (offset_of p.at) (answer b p.call) ++ lines_of (after b p.call) more

abbrev pub model_after : Model → List Placed → Model
model_after b calls = after_all b (map (λ p. p.call) calls)

-- a job that the verdict refuses is one line, and nothing of it is run
abbrev pub output_by : Result (Unit {0}) Refusal → Model → List ℕ → List ℕ
output_by (Ok x) b bs = lines_of b (placed_calls bs)
output_by (Err why) b bs = refused_line why 0

abbrev pub job_output : Model → List ℕ → List ℕ
job_output b bs = output_by (verdict_of bs) b bs

abbrev pub model_by : Result (Unit {0}) Refusal → Model → List ℕ → Model
model_by (Ok x) b bs = model_after b (placed_calls bs)
model_by (Err why) b bs = b

abbrev pub job_model : Model → List ℕ → Model
job_model b bs = model_by (verdict_of bs) b bs
