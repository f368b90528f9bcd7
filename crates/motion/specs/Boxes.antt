-- What the reach and the span of a list of blocks mean: the box of their targets, and the sum of their lengths.
use Rattle.std.specs.Prelude.{◌≡◌, ℕ, ◌+◌, ◌<◌, min, List, [], ◌∷◌, map, length, ℤ, pos, ◌≤ℤ◌, slice_index_or}
use Rattle.kinds.specs.Rules.{summary}
use Rattle.kinds.specs.Sums.{top}
use Rattle.motion.specs.declared.blocks.Block.{Block}
use Rattle.motion.specs.declared.extents.Extent.{Extent}
use Rattle.motion.specs.Extents.{signed32, reach_rule, span_rule}

abbrev pub coordinate : List ℤ → ℕ → ℤ
coordinate zs j = slice_index_or zs j (pos 0)

-- every number of the list lies between the two, and each of the two is one of the list
pub record Between (zs : List ℤ) (least greatest : ℤ) : Type 0 where
  pub above : (j : ℕ) → j < length zs → least ≤ℤ coordinate zs j
  pub below : (j : ℕ) → j < length zs → coordinate zs j ≤ℤ greatest
  pub least_met : 0 < length zs → (j : ℕ) × (j < length zs) × (coordinate zs j ≡ least)
  pub greatest_met : 0 < length zs → (j : ℕ) × (j < length zs) × (coordinate zs j ≡ greatest)

pub record Box (blocks : List Block) (e : Extent) : Type 0 where
  pub x : Between (map (λ b. b.x) blocks) e.x.least e.x.greatest
  pub y : Between (map (λ b. b.y) blocks) e.y.least e.y.greatest
  pub z : Between (map (λ b. b.z) blocks) e.z.least e.z.greatest

-- numbers of the code, which fit 32 bits
abbrev pub Fit : List ℤ → Type 0
Fit zs = (j : ℕ) → j < length zs → signed32 (coordinate zs j)

abbrev pub ReachIsBox : Type 0
ReachIsBox = (blocks : List Block) → Fit (map (λ b. b.x) blocks) → Fit (map (λ b. b.y) blocks) → Fit (map (λ b. b.z) blocks) → Box blocks (summary reach_rule blocks)

abbrev pub total_length : List Block → ℕ
total_length [] = 0
total_length (b ∷ bs) = b.length + total_length bs

abbrev pub SpanIsSum : Type 0
SpanIsSum = (blocks : List Block) → summary span_rule blocks ≡ min (total_length blocks) top
