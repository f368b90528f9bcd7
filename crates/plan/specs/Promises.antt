-- What the answers of a plan mean, in the words of its subject.
use Rattle.std.specs.Prelude.{◌≡◌, ℕ, ◌<◌, ◌≤◌, min, List, length, Some, None, Ok, Err, Option, Result}
use Rattle.std.specs.List.{between}
use Rattle.refusals.specs.declared.Refusal.{Refusal}
use Rattle.refusals.specs.declared.Refusal.TheVariants.{Speed, Blocked}
use Rattle.kinds.specs.Sums.{top}
use Rattle.motion.specs.declared.blocks.Block.{Block}
use Rattle.motion.specs.declared.extents.Extent.{Extent}
use Rattle.motion.specs.Boxes.{Box, total_length}
use Rattle.motion.specs.Profiles.{at, Starts, Greatest, FirstBlocked}
use Rattle.plan.specs.Models.{no_range}

-- what is told of junction j for a start s: the speed of the greatest lawful profile there, or refusal 8 exactly where
-- there is no lawful profile, with the first junction up to which there is none
pub record JunctionRight (blocks : List Block) (j s : ℕ) (r : Result ℕ Refusal) : Type 0 where
  pub too_fast : 100000000 < s → r ≡ Err Speed
  pub too_far : s ≤ 100000000 → length blocks < j → r ≡ Err no_range
  pub driven : s ≤ 100000000 → j ≤ length blocks → Starts blocks (length blocks) s → (v : List ℕ) × Greatest blocks s v × (r ≡ Ok (at v j))
  pub one_greatest : (v : List ℕ) (x : ℕ) → Greatest blocks s v → r ≡ Ok x → x ≡ at v j
  pub blocked : s ≤ 100000000 → j ≤ length blocks → (Starts blocks (length blocks) s → ⊥) → (m : ℕ) × FirstBlocked blocks s m × (r ≡ Err (Blocked m))
  pub only_blocked : (m : ℕ) → r ≡ Err (Blocked m) → FirstBlocked blocks s m × (Starts blocks (length blocks) s → ⊥)

-- what is told of the reach of a range: the box of the targets of its blocks, and none of an empty range
pub record ReachRight (blocks : List Block) (i j : ℕ) (r : Result (Option Extent) Refusal) : Type 0 where
  pub nowhere : (i ≤ j → j ≤ length blocks → ⊥) → r ≡ Err no_range
  pub empty : i ≡ j → j ≤ length blocks → r ≡ Ok None
  pub boxed : i < j → j ≤ length blocks → (e : Extent) × Box (between i j blocks) e × (r ≡ Ok (Some e))

-- what is told of the span of a range: the sum of the lengths of its blocks, as far as 32 bits go
pub record SpanRight (blocks : List Block) (i j : ℕ) (r : Result ℕ Refusal) : Type 0 where
  pub nowhere : (i ≤ j → j ≤ length blocks → ⊥) → r ≡ Err no_range
  pub summed : i ≤ j → j ≤ length blocks → r ≡ Ok (min (total_length (between i j blocks)) top)
