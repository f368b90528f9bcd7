-- The rows that were given back, each with the next in its `left`.
use Rattle.std.specs.Prelude.{◌≡◌, ℕ, ◌+◌, ◌<◌, ◌≤◌, List, [], ◌∷◌, length, Some, None, Option, slice_index_or}
use Rattle.rows.specs.Shape.{same}
use Rattle.rows.specs.declared.Row.{Row}
use Rattle.rows.specs.declared.free_list.Fresh.{Fresh}

abbrev pub FreeList : {E S : Type 0} → List (Row E S) → Option ℕ → List ℕ → Type 0
FreeList rows free [] = free ≡ None
FreeList {E} {S} rows free (p ∷ ps) = (free ≡ Some p) × (p < length rows) × ((d : Row E S) → FreeList rows (slice_index_or rows p d).left ps)

-- how often a place occurs in a list
abbrev pub among : ℕ → List ℕ → ℕ
among k [] = 0
among k (p ∷ ps) = among k ps + same k p

-- a row was found: one of the free rows fs, or the first that was never used
pub record FreeTaken {E S : Type 0} (rows : List (Row E S)) (used : ℕ) (fs : List ℕ) (r : Fresh) : Type 0 where
  pub left : List ℕ
  pub free_list : FreeList rows r.free left
  pub within : r.place < length rows
  pub places : (k : ℕ) → among k left + same k r.place ≤ among k fs + same k used
  pub past : (k : ℕ) → r.used ≤ k → among k left + same k r.place ≤ among k fs
  pub fewer : length fs + r.used ≡ length left + used + 1
  pub more : used ≤ r.used
  pub small : used ≤ 4096 → r.used ≤ 4096
  pub inside : used ≤ length rows → r.used ≤ length rows
