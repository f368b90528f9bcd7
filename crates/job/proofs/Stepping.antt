-- A step by its cases: a short buffer, and a field with a call.
use Rattle.std.proofs.Common.{◌≡◌, ℕ, ◌≤◌, cond, ltb, List, [], length, Some, Ok, Err, ap, ◌∙◌}
use Rattle.std.proofs.lemmas.Bool.{le-ltb}
use Rattle.refusals.specs.declared.Refusal.TheVariants.{Buffer}
use Rattle.plan.specs.Calls as calls
use Rattle.plan.specs.Models.{Model}
use Rattle.plan.specs.declared.calls.Call as call
use Rattle.job.specs.Fields.{offset_of}
use Rattle.job.specs.Lines.{answer_line}
use Rattle.job.specs.Steps.{field_model, found_model, step_model, field_line, found_line, step_line, field_told, found_told, step_told}
use Rattle.job.specs.Verdicts.{checked_at}
use Rattle.job.specs.declared.fields.Field.TheVariants.{Call}
use Rattle.job.specs.declared.fields.Found.{Found}

pub wide : {X : Type 0} (space : ℕ) (x y : X) → 64 ≤ space → cond (ltb space 64) x y ≡ y
wide space x y h = ap (λ t. cond t x y) (le-ltb space 64 h)

module _ (b : Model) (bs : List ℕ) (at : ℕ) (before : List ℕ) (f : Found) (c : call.Call) (h : 64 ≤ length before) (e : checked_at bs at ≡ Ok f) (field : f.field ≡ Call c) where
  pub model_call : step_model b (length before) bs at ≡ calls.after b c
  model_call = wide (length before) b (found_model b (checked_at bs at)) h ∙ ap (found_model b) e ∙ ap (field_model b) field

  pub line_call : step_line b (length before) bs at ≡ answer_line (offset_of at) (calls.answer b c)
  line_call = wide (length before) [] (found_line b at (checked_at bs at)) h ∙ ap (found_line b at) e ∙ ap (field_line b at) field

  pub told_call : step_told b (length before) bs at ≡ Ok (Some (length (answer_line (offset_of at) (calls.answer b c))))
  told_call = wide (length before) (Err Buffer) (found_told b at (checked_at bs at)) h ∙ ap (found_told b at) e ∙ ap (λ g. Ok (field_told b at g)) field
  -- the call was made, and its line written
