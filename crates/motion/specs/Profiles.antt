-- The caps of the junctions of a list of blocks, its lawful profiles, and the two passes that give the greatest.
-- Block j joins junction j to junction j + 1; every speed here is a squared one.
use Rattle.std.specs.Prelude.{◌≡◌, ℕ, zero, suc, ◌+◌, ◌-◌, ◌<◌, ◌≤◌, min, cond, ◌↔◌, List, map, length, nat_le, slice_index}
use Rattle.std.specs.List.{range_with_len}
use Rattle.motion.specs.declared.blocks.Block.{Block}
use Rattle.motion.specs.Figures.{own_cap, corner_cap, rise_of, fall_of}

-- the figures of block j, and 0 past the last block, where nothing moves
abbrev pub own_at : List Block → ℕ → ℕ
own_at blocks j = slice_index (map own_cap blocks) j

abbrev pub corner_at : List Block → ℕ → ℕ
corner_at blocks j = slice_index (map corner_cap blocks) j

abbrev pub rise_at : List Block → ℕ → ℕ
rise_at blocks j = slice_index (map rise_of blocks) j

abbrev pub fall_at : List Block → ℕ → ℕ
fall_at blocks j = slice_index (map fall_of blocks) j

-- the cap of junction j; as no block follows the last junction, its cap is 0
abbrev pub junction_cap : List Block → ℕ → ℕ
junction_cap blocks zero = own_at blocks 0
junction_cap blocks (suc j) = min (min (own_at blocks j) (corner_at blocks j)) (own_at blocks (suc j))

abbrev pub junction_caps : List Block → List ℕ
junction_caps blocks = map (junction_cap blocks) (range_with_len 0 (suc (length blocks)))

-- the caps by cases: the last, the first, and those between
pub record Caps (blocks : List Block) (cap : ℕ → ℕ) : Type 0 where
  pub last : cap (length blocks) ≡ 0
  pub first : 0 < length blocks → cap 0 ≡ own_at blocks 0
  pub between : (j : ℕ) → suc j < length blocks → cap (suc j) ≡ min (min (own_at blocks j) (corner_at blocks j)) (own_at blocks (suc j))

-- the speed of a profile at junction j
abbrev pub at : List ℕ → ℕ → ℕ
at v j = slice_index v j

-- v is a lawful profile up to junction m with start s
pub record Lawful (blocks : List Block) (m s : ℕ) (v : List ℕ) : Type 0 where
  pub long : length v ≡ suc m
  pub starts : at v 0 ≡ s
  pub under : (j : ℕ) → j ≤ m → at v j ≤ junction_cap blocks j
  pub rising : (j : ℕ) → j < m → at v (suc j) ≤ at v j + rise_at blocks j
  pub falling : (j : ℕ) → j < m → at v j ≤ at v (suc j) + fall_at blocks j

-- some lawful profile up to junction m starts at s
abbrev pub Starts : List Block → ℕ → ℕ → Type 0
Starts blocks m s = (v : List ℕ) × Lawful blocks m s v

-- v is a lawful profile of the whole list, and no lawful profile with its start is above it at any junction
pub record Greatest (blocks : List Block) (s : ℕ) (v : List ℕ) : Type 0 where
  pub lawful : Lawful blocks (length blocks) s v
  pub above : (w : List ℕ) → Lawful blocks (length blocks) s w → (j : ℕ) → j ≤ length blocks → at w j ≤ at v j

-- m is the least junction up to which no lawful profile starts at s
pub record FirstBlocked (blocks : List Block) (s m : ℕ) : Type 0 where
  pub within : m ≤ length blocks
  pub blocked : Starts blocks m s → ⊥
  pub open_before : (k : ℕ) → k < m → Starts blocks k s

-- the reverse pass over the blocks up to junction j + d: the greatest speed at junction j
abbrev pub reverse_from : List Block → ℕ → ℕ → ℕ
reverse_from blocks j zero = junction_cap blocks j
reverse_from blocks j (suc d) = min (junction_cap blocks j) (reverse_from blocks (suc j) d + fall_at blocks j)

-- the reverse pass of the whole list
abbrev pub reverse_at : List Block → ℕ → ℕ
reverse_at blocks j = reverse_from blocks j (length blocks - j)

-- the greatest start of a lawful profile up to junction m
abbrev pub greatest_start : List Block → ℕ → ℕ
greatest_start blocks m = reverse_from blocks 0 m

-- the forward pass of the blocks up to junction m
abbrev pub forward_from : List Block → ℕ → ℕ → ℕ → ℕ
forward_from blocks m s zero = s
forward_from blocks m s (suc j) = min (reverse_from blocks (suc j) (m - suc j)) (forward_from blocks m s j + rise_at blocks j)

-- the forward pass of the whole list
abbrev pub forward_at : List Block → ℕ → ℕ → ℕ
forward_at blocks s j = forward_from blocks (length blocks) s j

abbrev pub speeds_to : List Block → ℕ → ℕ → List ℕ
speeds_to blocks m s = map (forward_from blocks m s) (range_with_len 0 (suc m))

abbrev pub speeds_of : List Block → ℕ → List ℕ
speeds_of blocks s = speeds_to blocks (length blocks) s

-- the first of the junctions m, m + 1, .. m + d - 1 up to which no lawful profile starts at s, else m + d
abbrev pub blocked_from : List Block → ℕ → ℕ → ℕ → ℕ
blocked_from blocks s m zero = m
blocked_from blocks s m (suc d) = cond (nat_le s (greatest_start blocks m)) (blocked_from blocks s (suc m) d) m

-- where no lawful profile of the whole list starts at s: the least junction up to which none does
abbrev pub first_blocked : List Block → ℕ → ℕ
first_blocked blocks s = blocked_from blocks s 0 (length blocks)

-- what planning comes to: the speed at each junction, or the junction up to which there is none
pub data Outcome : Type 0 where
  driven : List ℕ → Outcome
  refused : ℕ → Outcome

abbrev pub planned : List Block → ℕ → Outcome
planned blocks s = cond (nat_le s (reverse_at blocks 0)) (driven (speeds_of blocks s)) (refused (first_blocked blocks s))

-- the greatest profile; or where there is no lawful one, the first junction that shows it
abbrev pub Right : List Block → ℕ → Outcome → Type 0
Right blocks s (driven v) = Greatest blocks s v
Right blocks s (refused m) = FirstBlocked blocks s m

-- the passes: their steps, what they say of starts, and that they give the greatest profile
pub record Passes (blocks : List Block) : Type 0 where
  pub reverse_last : reverse_at blocks (length blocks) ≡ junction_cap blocks (length blocks)
  pub reverse_step : (j : ℕ) → j < length blocks → reverse_at blocks j ≡ min (junction_cap blocks j) (reverse_at blocks (suc j) + fall_at blocks j)
  pub forward_first : (s : ℕ) → forward_at blocks s 0 ≡ s
  pub forward_step : (s j : ℕ) → forward_at blocks s (suc j) ≡ min (reverse_at blocks (suc j)) (forward_at blocks s j + rise_at blocks j)
  pub starts : (s : ℕ) → Starts blocks (length blocks) s ↔ (s ≤ reverse_at blocks 0)
  pub greatest : (s : ℕ) → Starts blocks (length blocks) s → Greatest blocks s (speeds_of blocks s)
  pub one_greatest : (s : ℕ) (v : List ℕ) → Greatest blocks s v → v ≡ speeds_of blocks s

-- which starts each prefix allows: none that a longer prefix allows is lost by a shorter one
pub record Prefixes (blocks : List Block) : Type 0 where
  pub starts : (m s : ℕ) → Starts blocks m s ↔ (s ≤ greatest_start blocks m)
  pub falls : (k m : ℕ) → k ≤ m → greatest_start blocks m ≤ greatest_start blocks k
  pub blocked : (s : ℕ) → (Starts blocks (length blocks) s → ⊥) → FirstBlocked blocks s (first_blocked blocks s)
