-- One step: the field at a place, run on the model.
use Rattle.std.specs.Prelude.{◌≡◌, ℕ, ◌+◌, ◌≤◌, cond, List, [], length, Some, None, Ok, Err, Option, Result, nat_lt}
use Rattle.refusals.specs.declared.Refusal.{Refusal}
use Rattle.refusals.specs.declared.Refusal.TheVariants.{Buffer}
use Rattle.plan.specs.Calls.{answer, after}
use Rattle.plan.specs.Models.{Model}
use Rattle.job.specs.Fields.{offset_of}
use Rattle.job.specs.Lines.{answer_line, over}
use Rattle.job.specs.Verdicts.{checked_at}
use Rattle.job.specs.declared.fields.Field.{Field}
use Rattle.job.specs.declared.fields.Field.TheVariants.{Call, End}
use Rattle.job.specs.declared.fields.Found.{Found}

abbrev pub refusal_of : {A : Type 0} → Result A Refusal → Option Refusal
refusal_of (Ok x) = None
refusal_of (Err why) = Some why

-- why a step refuses, whatever the plan: first a short buffer, then what the verdict would refuse
abbrev pub step_refusal : ℕ → List ℕ → ℕ → Option Refusal
step_refusal space bs at = cond (nat_lt space 64) (Some Buffer) (refusal_of (checked_at bs at))

-- the end stays where it is
abbrev pub field_place : Field → ℕ → ℕ → ℕ
field_place (Call call) at next = next
field_place (End byte) at next = at

abbrev pub found_place : Result Found Refusal → ℕ → ℕ
found_place (Ok f) at = field_place f.field at f.next
found_place (Err why) at = at

-- where the reader stands after a step; a refusal leaves it
abbrev pub step_place : ℕ → List ℕ → ℕ → ℕ
step_place space bs at = cond (nat_lt space 64) at (found_place (checked_at bs at) at)

-- what a field does to the model
abbrev pub field_model : Model → Field → Model
field_model b (Call call) = after b call
field_model b (End byte) = b

abbrev pub found_model : Model → Result Found Refusal → Model
found_model b (Ok f) = field_model b f.field
found_model b (Err why) = b

-- the model after a step; a refusal leaves it
abbrev pub step_model : Model → ℕ → List ℕ → ℕ → Model
step_model b space bs at = cond (nat_lt space 64) b (found_model b (checked_at bs at))

-- the line of a field at a place; the end has none
abbrev pub field_line : Model → ℕ → Field → List ℕ
field_line b at (Call call) = answer_line (offset_of at) (answer b call)
field_line b at (End byte) = []

abbrev pub found_line : Model → ℕ → Result Found Refusal → List ℕ
found_line b at (Ok f) = field_line b at f.field
found_line b at (Err why) = []

-- the line that a step writes; a refusal writes none
abbrev pub step_line : Model → ℕ → List ℕ → ℕ → List ℕ
step_line b space bs at = cond (nat_lt space 64) [] (found_line b at (checked_at bs at))

-- a field's line by its length; none at the end, where the job is over
abbrev pub field_told : Model → ℕ → Field → Option ℕ
field_told b at (Call call) = Some (length (answer_line (offset_of at) (answer b call)))
field_told b at (End byte) = None

abbrev pub found_told : Model → ℕ → Result Found Refusal → Result (Option ℕ) Refusal
found_told b at (Ok f) = Ok (field_told b at f.field)
found_told b at (Err why) = Err why

-- what a step tells
abbrev pub step_told : Model → ℕ → List ℕ → ℕ → Result (Option ℕ) Refusal
step_told b space bs at = cond (nat_lt space 64) (Err Buffer) (found_told b at (checked_at bs at))

-- a line fits the least buffer, and its field takes four bytes or more
abbrev pub Bounded : Result (Option ℕ) Refusal → ℕ → ℕ → Type 0
Bounded (Ok (Some written)) from to = (written ≤ 64) × (from + 4 ≤ to)
Bounded (Ok None) from to = Unit {0}
Bounded (Err why) from to = Unit {0}

-- a refusal and the end alter neither reader nor plan nor buffer
abbrev pub Unmoved : Result (Option ℕ) Refusal → Type 0 → Type 0 → Type 0 → Type 0
Unmoved (Ok (Some written)) reader plan line = Unit {0}
Unmoved (Ok None) reader plan line = reader × plan × line
Unmoved (Err why) reader plan line = reader × plan × line

-- from the model b, a step told r, laid its line over the front of the buffer, and left the model after it
pub record Stepped (b : Model) (bs : List ℕ) (at : ℕ) (r : Result (Option ℕ) Refusal) (before after : List ℕ) (left : Model) : Type 0 where
  pub tells : r ≡ step_told b (length before) bs at
  pub line : after ≡ over (step_line b (length before) bs at) before
  pub leaves : left ≡ step_model b (length before) bs at
