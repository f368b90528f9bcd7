-- What the edits of a tree want, and what they make of the rows.
use Rattle.std.specs.Prelude.{◌≡◌, ℕ, ◌+◌, ◌-◌, ◌<◌, ◌≤◌, max, List, ◌∷◌, ◌++◌, length, Some, Option, slice_index_or, slice_set}
use Rattle.kinds.specs.Rules.{Rule}
use Rattle.rows.specs.Shape.{Shape, count_of, depth_of, elements, same, times, refreshed_row, Balanced, Rooted, Told}
use Rattle.rows.specs.declared.Row.{Row}
use Rattle.std.specs.List.{insert, remove}

-- two sides that a row can be written over
pub record Sides {E S : Type 0} (rows : List (Row E S)) (left right : Option ℕ) : Type 0 where
  pub l : Shape E S
  pub r : Shape E S
  pub left_is : Rooted rows left l
  pub right_is : Rooted rows right r
  pub few : count_of l + count_of r < 65535
  pub low : max (depth_of l) (depth_of r) < 255

-- the row at p was written over the trees l and r
pub record Refreshed {E S : Type 0} (m : Rule E S) (rows : List (Row E S)) (p : ℕ) (e : E) (l r : Shape E S) (more : List (Row E S)) : Type 0 where
  pub is : more ≡ slice_set rows p (refreshed_row m e l r)

-- An edit of `rows` gave `more`: `side` leads to a balanced tree of the elements xs, whose places `now-at` counts, and
-- every row whose place `was-at` does not count is as it was.
pub record Edit {E S : Type 0} (m : Rule E S) (rows more : List (Row E S)) (side : Option ℕ) (was-at now-at : ℕ → ℕ) (xs : List E) (least most : ℕ) (was : Type 0) : Type 0 where
  pub t : Shape E S
  pub rooted : Rooted more side t
  pub balanced : Balanced t
  pub at_least : least ≤ depth_of t
  pub at_most : depth_of t ≤ most
  pub places : (q : ℕ) → times q t ≡ now-at q
  pub holds : elements t ≡ xs
  pub long : length rows ≡ length more
  pub kept : (q : ℕ) (d : Row E S) → was-at q ≡ 0 → slice_index_or more q d ≡ slice_index_or rows q d
  pub told : was → Told m t

-- a row p to be put over two sides whose depths differ by at most two
pub record Rebalance {E S : Type 0} (rows : List (Row E S)) (p : ℕ) (left right : Option ℕ) (l r : Shape E S) : Type 0 where
  pub within : p < length rows
  pub left_is : Rooted rows left l
  pub right_is : Rooted rows right r
  pub left_balanced : Balanced l
  pub right_balanced : Balanced r
  pub near_left : depth_of l ≤ depth_of r + 2
  pub near_right : depth_of r ≤ depth_of l + 2
  pub places : (k : ℕ) → times k l + times k r + same k p ≤ 1
  pub few : count_of l + count_of r < 65530
  pub low : max (depth_of l) (depth_of r) < 250

-- such a row, where the side at `deep` is deeper by two than the one at `other`
pub record TooDeep {E S : Type 0} (rows : List (Row E S)) (p : ℕ) (deep other : Option ℕ) (t r : Shape E S) : Type 0 where
  pub within : p < length rows
  pub deep_is : Rooted rows deep t
  pub other_is : Rooted rows other r
  pub deep_balanced : Balanced t
  pub other_balanced : Balanced r
  pub tall : depth_of t ≡ depth_of r + 2
  pub places : (k : ℕ) → times k t + times k r + same k p ≤ 1
  pub few : count_of t + count_of r < 65530
  pub low : depth_of t < 250

pub record Rebalanced {E S : Type 0} (m : Rule E S) (rows more : List (Row E S)) (p : ℕ) (e : E) (top : ℕ) (l r : Shape E S) : Type 0 where
  pub edit : Edit m rows more (Some top) (λ k. times k l + times k r + same k p) (λ k. times k l + times k r + same k p) (elements l ++ (e ∷ elements r)) (max (depth_of l) (depth_of r)) (max (depth_of l) (depth_of r) + 1) (Told m l × Told m r)
  pub exact : depth_of l ≤ depth_of r + 1 → depth_of r ≤ depth_of l + 1 → max (depth_of l) (depth_of r) + 1 ≤ depth_of edit.t

-- a tree whose rows can be edited
pub record Whole {E S : Type 0} (rows : List (Row E S)) (top : Option ℕ) (t : Shape E S) : Type 0 where
  pub rooted : Rooted rows top t
  pub balanced : Balanced t
  pub apart : (k : ℕ) → times k t ≤ 1
  pub few : count_of t < 65530
  pub low : depth_of t < 250

-- a tree, a place i in its list and a row that is not in it
pub record Insert {E S : Type 0} (rows : List (Row E S)) (top : Option ℕ) (i fresh : ℕ) (t : Shape E S) : Type 0 where
  pub rooted : Rooted rows top t
  pub balanced : Balanced t
  pub inside : i ≤ count_of t
  pub within : fresh < length rows
  pub places : (k : ℕ) → times k t + same k fresh ≤ 1
  pub few : count_of t < 65529
  pub low : depth_of t < 249

abbrev pub Inserted : {E S : Type 0} (m : Rule E S) (rows more : List (Row E S)) (i fresh : ℕ) (e : E) (top : ℕ) → Shape E S → Type 0
Inserted m rows more i fresh e top t = Edit m rows more (Some top) (λ k. times k t + same k fresh) (λ k. times k t + same k fresh) (insert (elements t) i e) (depth_of t) (depth_of t + 1) (Told m t)

-- a row was taken from `place` in t, and the elements xs are left, at `rest`
abbrev pub Taken : {E S : Type 0} (m : Rule E S) (rows more : List (Row E S)) (rest : Option ℕ) (place : ℕ) (xs : List E) → Shape E S → Type 0
Taken m rows more rest place xs t = Edit m rows more rest (λ k. times k t) (λ k. times k t - same k place) xs (depth_of t - 1) (depth_of t) (Told m t)

-- the first row of t, which has the element e, is taken out from the place `place`, and `rest` is left
pub record RemovedFirst {E S : Type 0} (m : Rule E S) (rows more : List (Row E S)) (place : ℕ) (e : E) (rest : Option ℕ) (t : Shape E S) : Type 0 where
  pub xs : List E
  pub split : elements t ≡ e ∷ xs
  pub there : times place t ≡ 1
  pub edit : Taken m rows more rest place xs t

-- a tree and a place i in its list
pub record Remove {E S : Type 0} (rows : List (Row E S)) (top : Option ℕ) (i : ℕ) (t : Shape E S) : Type 0 where
  pub whole : Whole rows top t
  pub inside : i < count_of t

-- the i-th row of t is taken out from the place `place`, and `rest` is left
pub record Removed {E S : Type 0} (m : Rule E S) (rows more : List (Row E S)) (place i : ℕ) (rest : Option ℕ) (t : Shape E S) : Type 0 where
  pub there : times place t ≡ 1
  pub edit : Taken m rows more rest place (remove (elements t) i) t

-- the i-th element of t is exchanged
abbrev pub Replaced : {E S : Type 0} (m : Rule E S) (rows more : List (Row E S)) (i : ℕ) (e : E) (side : Option ℕ) → Shape E S → Type 0
Replaced m rows more i e side t = Edit m rows more side (λ k. times k t) (λ k. times k t) (slice_set (elements t) i e) (depth_of t) (depth_of t) (Told m t)
