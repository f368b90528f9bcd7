-- What the verdict and a whole job come to as numbers.
use Rattle.std.specs.Prelude.{◌≡◌, ℕ, ◌+◌, ◌*◌, ◌<◌, ◌≤◌, List, length, Some, None, Ok, Err, Option, Result}
use Rattle.refusals.specs.Table.{number_of, named_of}
use Rattle.refusals.specs.declared.Named.{Named}
use Rattle.refusals.specs.declared.Named.TheVariants.{Junction, Offset}
use Rattle.refusals.specs.declared.Refusal.{Refusal}
use Rattle.plan.specs.Models.{Model}
use Rattle.job.specs.Lines.{over}
use Rattle.job.specs.Outputs.{job_output}
use Rattle.job.specs.Texts.{text_room}

abbrev pub offset_code : Option Named → ℕ
offset_code None = 0
offset_code (Some (Junction junction)) = 0
offset_code (Some (Offset offset)) = offset

-- the number of a fault, and the offset that it names in the lower 32 bits
abbrev pub fault_code : Refusal → ℕ
fault_code why = number_of why * 4294967296 + offset_code (named_of why)

-- no fault has the number 0
abbrev pub verdict_code : Result (Unit {0}) Refusal → ℕ
verdict_code (Ok x) = 0
verdict_code (Err why) = fault_code why

-- a job from the model b: a buffer that is too short is left as it was and answered with the greatest number; any other
-- has the text at its front, later bytes as they were, and its length is answered
pub record Ran (b : Model) (job before after : List ℕ) (r : ℕ) : Type 0 where
  pub short : length before < text_room (length job) → (r ≡ 18446744073709551615) × (after ≡ before)
  pub long : text_room (length job) ≤ length before → (r ≡ length (job_output b job)) × (after ≡ over (job_output b job) before)
