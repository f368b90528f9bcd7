-- The passes from summaries of ranges of blocks.
use Rattle.std.specs.Prelude.{◌≡◌, ℕ, ◌<◌, ◌≤◌, min, ◌↔◌, List, length, take, drop}
use Rattle.kinds.specs.Rules.{summary}
use Rattle.motion.specs.declared.blocks.Block.{Block}
use Rattle.motion.specs.Profiles.{own_at, at, Starts, Greatest, reverse_at, forward_at, greatest_start, first_blocked}
use Rattle.motion.specs.Runs.{through, run_up_rule, run_down_rule}

-- the greatest speed after the first j blocks from s, whatever comes
abbrev pub run_up_to : List Block → ℕ → ℕ → ℕ
run_up_to blocks j s = through (summary run_up_rule (take j blocks)) s

-- the greatest speed before block j from which the rest of the list can come to rest
abbrev pub run_down_from : List Block → ℕ → ℕ
run_down_from blocks j = through (summary run_down_rule (drop j blocks)) 0

-- the greatest start by the first m blocks and the own cap of the block after them, which is 0 past the last
abbrev pub run_down_to : List Block → ℕ → ℕ
run_down_to blocks m = through (summary run_down_rule (take m blocks)) (own_at blocks m)

pub record ByParts (blocks : List Block) : Type 0 where
  pub start : reverse_at blocks 0 ≡ through (summary run_down_rule blocks) 0
  pub speed : (s j : ℕ) → s ≤ reverse_at blocks 0 → j ≤ length blocks → forward_at blocks s j ≡ min (run_up_to blocks j s) (run_down_from blocks j)
  pub greatest : (s j : ℕ) (v : List ℕ) → Greatest blocks s v → j ≤ length blocks → at v j ≡ min (run_up_to blocks j s) (run_down_from blocks j)
  pub prefix : (m : ℕ) → m ≤ length blocks → greatest_start blocks m ≡ run_down_to blocks m
  pub starts : (m s : ℕ) → m ≤ length blocks → Starts blocks m s ↔ (s ≤ run_down_to blocks m)
  pub blocked : (s k : ℕ) → (Starts blocks (length blocks) s → ⊥) → k ≤ length blocks → (k < first_blocked blocks s) ↔ (s ≤ run_down_to blocks k)
