-- The tree that rows hold.
use Rattle.std.specs.Prelude.{◌≡◌, ℕ, ◌+◌, ◌<◌, ◌≤◌, max, cond, List, [], ◌∷◌, ◌++◌, length, Some, None, Option, ◌==◌, slice_index_or}
use Rattle.kinds.specs.Rules.{Rule, summary}
use Rattle.rows.specs.declared.Row.{Row}
use Rattle.std.specs.List.{slice_get}

-- what a row holds of its own: its element and the summary that it stores
pub record Cell (E S : Type 0) : Type 0 where
  pub element : E
  pub summary : S

-- a node has its place among the rows, what its row holds, and its two sides
pub data Shape (E S : Type 0) : Type 0 where
  leaf : Shape E S
  node : ℕ → Cell E S → Shape E S → Shape E S → Shape E S

abbrev pub link : {E S : Type 0} → Shape E S → Option ℕ
link leaf = None
link (node p x l r) = Some p

abbrev pub count_of : {E S : Type 0} → Shape E S → ℕ
count_of leaf = 0
count_of (node p x l r) = count_of l + count_of r + 1

-- An empty side has depth 0, and a row is one deeper than its deeper side.
abbrev pub depth_of : {E S : Type 0} → Shape E S → ℕ
depth_of leaf = 0
depth_of (node p x l r) = max (depth_of l) (depth_of r) + 1

-- the elements, read left, itself, right
abbrev pub elements : {E S : Type 0} → Shape E S → List E
elements leaf = []
elements (node p x l r) = elements l ++ (x.element ∷ elements r)

-- At each row the depths of the two sides differ by at most 1.
abbrev pub Balanced : {E S : Type 0} → Shape E S → Type 0
Balanced leaf = Unit {0}
Balanced (node p x l r) = (depth_of l ≤ depth_of r + 1) × (depth_of r ≤ depth_of l + 1) × Balanced l × Balanced r

-- Each row stores the summary of the elements from it down.
abbrev pub Summed : {E S : Type 0} → Rule E S → Shape E S → Type 0
Summed m leaf = Unit {0}
Summed m (node p x l r) = (x.summary ≡ summary m (elements l ++ (x.element ∷ elements r))) × Summed m l × Summed m r

-- the row of a node: its links, its depth and its count are those of its sides
abbrev pub row_of : {E S : Type 0} → Cell E S → Shape E S → Shape E S → Row E S
row_of x l r = record {
  element = x.element;
  summary = x.summary;
  left = link l;
  right = link r;
  depth = max (depth_of l) (depth_of r) + 1;
  count = count_of l + count_of r + 1;
}

-- the row at the top of a tree
abbrev pub top_of : {E S : Type 0} → Shape E S → Option (Row E S)
top_of leaf = None
top_of (node p x l r) = Some (row_of x l r)

-- each node of a tree has its row at its place
abbrev pub Lies : {E S : Type 0} → List (Row E S) → Shape E S → Type 0
Lies rows leaf = Unit {0}
Lies rows (node p x l r) = (p < length rows) × (slice_index_or rows p (row_of x l r) ≡ row_of x l r) × Lies rows l × Lies rows r

-- a link, and the tree of the rows that are reached from it
abbrev pub Rooted : {E S : Type 0} → List (Row E S) → Option ℕ → Shape E S → Type 0
Rooted rows side t = (side ≡ link t) × Lies rows t

-- the summary that the row of a tree stores
abbrev pub stored : {E S : Type 0} → Rule E S → Shape E S → S
stored m leaf = m.unit
stored m (node p x l r) = x.summary

-- Each row stores the join of what its sides store: by the laws of a kind, this is the summary of its elements.
abbrev pub Told : {E S : Type 0} → Rule E S → Shape E S → Type 0
Told m leaf = Unit {0}
Told m (node p x l r) = (x.summary ≡ m.join (stored m l) (m.join (m.one x.element) (stored m r))) × Told m l × Told m r

-- an element over two sides, its summary joined from theirs
abbrev pub cell_of : {E S : Type 0} → Rule E S → E → Shape E S → Shape E S → Cell E S
cell_of m e l r = record { element = e; summary = m.join (stored m l) (m.join (m.one e) (stored m r)) }

abbrev pub node_of : {E S : Type 0} → Rule E S → ℕ → E → Shape E S → Shape E S → Shape E S
node_of m p e l r = node p (cell_of m e l r) l r

abbrev pub refreshed_row : {E S : Type 0} → Rule E S → E → Shape E S → Shape E S → Row E S
refreshed_row m e l r = row_of (cell_of m e l r) l r

-- a row that stands for nothing
abbrev pub idle_row : {E S : Type 0} → Rule E S → E → Row E S
idle_row m e = record { element = e; summary = m.unit; left = None; right = None; depth = 0; count = 0 }

abbrev pub same : ℕ → ℕ → ℕ
same p q = cond (p == q) 1 0

-- how often a place occurs in a tree: that no row is reached twice is then a matter of sums
abbrev pub times : {E S : Type 0} → ℕ → Shape E S → ℕ
times q leaf = 0
times q (node p x l r) = times q l + times q r + same q p

-- the depth of a side as its row has it, which falls with each step down a tree
abbrev pub depth_in : {E S : Type 0} → Option (Row E S) → ℕ
depth_in None = 0
depth_in (Some row) = row.depth

abbrev pub depth_at : {E S : Type 0} → List (Row E S) → Option ℕ → ℕ
depth_at rows None = 0
depth_at rows (Some p) = depth_in (slice_get rows p)
