-- What the rows of a whole tree hold.
use Rattle.std.specs.Prelude.{◌≡◌, ℕ, zero, suc, ◌+◌, ◌<◌, ◌≤◌, min, List, [], ◌∷◌, length, Some, None, Option}
use Rattle.kinds.specs.Rules.{Rule}
use Rattle.rows.specs.FreeList.{FreeList, among}
use Rattle.rows.specs.Shape.{Shape, leaf, node, count_of, depth_of, elements, times, Balanced, Rooted, Summed, Told}
use Rattle.rows.specs.declared.Heads.{Heads}
use Rattle.rows.specs.declared.Row.{Row}
use Rattle.std.specs.List.{slice_get}

-- the tree that a link leads to, read down to a depth
abbrev pub read_from : {E S : Type 0} → ℕ → Option (Row E S) → (Option ℕ → Shape E S) → Shape E S
read_from p None below = leaf
read_from p (Some row) below = node p (record { element = row.element; summary = row.summary }) (below row.left) (below row.right)

unfoldable pub read : {E S : Type 0} → List (Row E S) → ℕ → Option ℕ → Shape E S
read rows zero side = leaf
read rows (suc n) None = leaf
read rows (suc n) (Some p) = read_from p (slice_get rows p) (λ side. read rows n side)

-- a balanced tree of at most 4,096 rows is at most 16 deep
unfoldable pub shape_of : {E S : Type 0} → List (Row E S) → Option ℕ → Shape E S
shape_of rows top = read rows 16 top

-- the free rows that a link leads to
abbrev pub onward : {E S : Type 0} → Option (Row E S) → (Option ℕ → List ℕ) → List ℕ
onward None rest = []
onward (Some row) rest = rest row.left

unfoldable pub follow : {E S : Type 0} → List (Row E S) → ℕ → Option ℕ → List ℕ
follow rows zero free = []
follow rows (suc n) None = []
follow rows (suc n) (Some p) = p ∷ onward (slice_get rows p) (λ side. follow rows n side)

unfoldable pub free_of : {E S : Type 0} → List (Row E S) → Option ℕ → List ℕ
free_of rows free = follow rows 4096 free

-- the list that the rows hold
abbrev pub list_of : {E S : Type 0} → List (Row E S) → Option ℕ → List E
list_of rows top = elements (shape_of rows top)

-- how many elements rows can hold
abbrev pub room_of : {E S : Type 0} → List (Row E S) → ℕ
room_of rows = min (length rows) 4096

-- The tree t stands at the top, the rows fs are free, and no row from `used` on is in use. Every row before is in the
-- tree or free, so none is lost.
pub record Layout {E S : Type 0} (rows : List (Row E S)) (heads : Heads) (t : Shape E S) (fs : List ℕ) : Type 0 where
  pub rooted : Rooted rows heads.top t
  pub balanced : Balanced t
  pub free_list : FreeList rows heads.free fs
  pub apart : (k : ℕ) → times k t + among k fs ≤ 1
  pub unused : (k : ℕ) → heads.used ≤ k → times k t + among k fs ≡ 0
  pub many : count_of t + length fs ≡ heads.used
  pub small : heads.used ≤ 4096
  pub within : heads.used ≤ length rows

-- the rows lie as a tree and its free rows, where the heads lead
abbrev pub Laid : {E S : Type 0} → List (Row E S) → Heads → Type 0
Laid rows heads = Layout rows heads (shape_of rows heads.top) (free_of rows heads.free)

-- what the type of a tree says: besides, each row of the tree stores the join of what its sides store
pub record Sound {E S : Type 0} (m : Rule E S) (rows : List (Row E S)) (heads : Heads) : Type 0 where
  pub laid : Laid rows heads
  pub told : Told m (shape_of rows heads.top)

-- The rows that are reached from `top` stand as a balanced tree of that depth over the list xs: each has its own place,
-- links, depth and count that are those of what lies below it, and the summary of the elements from it down.
pub record Stands {E S : Type 0} (m : Rule E S) (rows : List (Row E S)) (top : Option ℕ) (xs : List E) (depth : ℕ) : Type 0 where
  pub tree : Shape E S
  pub reached : Rooted rows top tree
  pub apart : (p : ℕ) → times p tree ≤ 1
  pub balanced : Balanced tree
  pub holds : elements tree ≡ xs
  pub deep : depth_of tree ≡ depth
  pub summed : Summed m tree

-- a tree that has room, and a place to insert at
pub record HasRoom {E S : Type 0} (rows : List (Row E S)) (heads : Heads) (i : ℕ) : Type 0 where
  pub laid : Laid rows heads
  pub inside : i ≤ length (list_of rows heads.top)
  pub room : length (list_of rows heads.top) < room_of rows

-- a tree that has an element at i
pub record HasElement {E S : Type 0} (rows : List (Row E S)) (heads : Heads) (i : ℕ) : Type 0 where
  pub laid : Laid rows heads
  pub inside : i < length (list_of rows heads.top)

-- an edit of a whole tree has left the list xs, and the summaries are told if they were before
pub record Edited {E S : Type 0} (m : Rule E S) (rows more : List (Row E S)) (was heads : Heads) (xs : List E) : Type 0 where
  pub laid : Laid more heads
  pub holds : list_of more heads.top ≡ xs
  pub long : length rows ≡ length more
  pub told : Told m (shape_of rows was.top) → Told m (shape_of more heads.top)
