-- The rules of an ice survey over its list of readings.
use Rattle.std.specs.Prelude.{◌≡◌, ℕ, suc, ◌<◌, ◌≤◌, cond, List, [], ◌∷◌, Some, None, Err, Option, Result, nat_lt, slice_index, slice_index_or}
use Rattle.std.specs.List.{between}
use Rattle.refusals.specs.declared.Layer.TheVariants.{Survey}
use Rattle.refusals.specs.declared.Refusal.{Refusal}
use Rattle.refusals.specs.declared.Refusal.TheVariants.{NoPlace, Reading}
use Rattle.sequences.specs.Lists.{insert_answer, insert_list, ranged}
use Rattle.survey.specs.declared.Spot.{Spot}
pub use Rattle.kinds.specs.Facts.{Sound}

abbrev pub note_answer : List ℕ → ℕ → ℕ → ℕ → Result (Unit {0}) Refusal
note_answer xs room i reading = cond (nat_lt 2000 reading) (Err Reading) (insert_answer xs room i)

abbrev pub note_list : List ℕ → ℕ → ℕ → ℕ → List ℕ
note_list xs room i reading = cond (nat_lt 2000 reading) xs (insert_list xs room i reading)

-- A reading of the range from i up to but without j, of which none is lesser, and none before it as small.
pub record IsThinnest (xs : List ℕ) (i j : ℕ) (spot : Spot) : Type 0 where
  pub from : i ≤ spot.place
  pub below : spot.place < j
  pub there : slice_index_or xs spot.place 0 ≡ spot.reading
  pub least : (k : ℕ) → i ≤ k → k < j → spot.reading ≤ slice_index xs k
  pub first : (k : ℕ) → i ≤ k → k < spot.place → spot.reading < slice_index xs k

abbrev pub spot_at : ℕ → ℕ → Spot
spot_at reading place = record { reading = reading; place = place }

-- the reading at a place, or the spot further on if that is lesser
abbrev pub lesser : ℕ → ℕ → Option Spot → Spot
lesser reading place None = spot_at reading place
lesser reading place (Some later) = cond (nat_lt later.reading reading) later (spot_at reading place)

-- the thinnest spot of readings of which the first stands at a place
abbrev pub thinnest_of : ℕ → List ℕ → Option Spot
thinnest_of place [] = None
thinnest_of place (x ∷ xs) = Some (lesser x place (thinnest_of (suc place) xs))

abbrev pub no_range : Refusal
no_range = NoPlace Survey

abbrev pub thinnest_answer : List ℕ → ℕ → ℕ → Result (Option Spot) Refusal
thinnest_answer xs i j = ranged no_range xs i j (thinnest_of i (between i j xs))
