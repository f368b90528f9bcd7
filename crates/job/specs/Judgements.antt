-- What a verdict means: a way through the job, field by field, to its end or to its first fault.
use Rattle.std.specs.Prelude.{◌≡◌, ℕ, List, [], ◌∷◌, Ok, Err, Result}
use Rattle.refusals.specs.declared.Refusal.{Refusal}
use Rattle.job.specs.Outputs.{Placed, placed_calls}
use Rattle.job.specs.Verdicts.{checked_at}
use Rattle.job.specs.declared.fields.Field.TheVariants.{Call, End}
use Rattle.job.specs.declared.fields.Found.{Found}

-- fields with these calls lie side by side between two places
abbrev pub Reads : List ℕ → ℕ → List Placed → ℕ → Type 0
Reads bs from [] to = from ≡ to
Reads bs from (p ∷ more) to = (f : Found) × (p.at ≡ from) × (checked_at bs from ≡ Ok f) × (f.field ≡ Call p.call) × Reads bs f.next more to

-- a right end field lies at a place, and nothing after it
pub record EndsAt (bs : List ℕ) (at : ℕ) : Type 0 where
  pub f : Found
  pub byte : ℕ
  pub is : checked_at bs at ≡ Ok f
  pub field : f.field ≡ End byte

-- an accepted job is its calls and then the end; a refused one has its fault where the fields before it end
abbrev pub Judged : List ℕ → Result (Unit {0}) Refusal → Type 0
Judged bs (Ok x) = (at : ℕ) × Reads bs 0 (placed_calls bs) at × EndsAt bs at
Judged bs (Err why) = (calls : List Placed) × (at : ℕ) × Reads bs 0 calls at × (checked_at bs at ≡ Err why)
