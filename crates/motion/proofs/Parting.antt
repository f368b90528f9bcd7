-- The passes by parts: first by plain recursions over the index, and these then as summaries of ranges.
use Rattle.std.proofs.Common.{◌≡◌, ℕ, zero, suc, ◌+◌, ◌-◌, ◌<◌, ◌≤◌, min, ◌↔◌, List, [], ◌∷◌, map, length, get_or, take, drop, sym, refl, ap, ◌∙◌, inl, inr, arith, drop-cons, take-suc}
use Rattle.std.proofs.lemmas.List.{take_rest, get_or-map}
use Rattle.std.proofs.lemmas.Bool.{cases_lt}
use Rattle.kinds.specs.Rules.{summary}
use Rattle.kinds.specs.Sums.{top, ◌⊕◌}
use Rattle.kinds.proofs.Summaries.{summary_append, summary_cons, summary_one}
use Rattle.motion.specs.declared.blocks.Block.{Block}
use Rattle.motion.specs.Figures.{own_cap, corner_cap, rise_of, fall_of}
use Rattle.motion.specs.Profiles.{own_at, corner_at, rise_at, fall_at, at, Starts, Greatest, reverse_from, reverse_at, forward_from, forward_at, greatest_start, speeds_of, first_blocked}
use Rattle.motion.specs.Laid.{idle}
use Rattle.motion.specs.Runs.{through, through_followed, through_unit, run_up_rule, run_down_rule, run_up_laws, run_down_laws}
use Rattle.motion.specs.ByParts.{run_up_to, run_down_from, run_down_to, ByParts}
use Rattle.motion.proofs.Lawfulness.{own_past, start_under, starts_at, at_speeds, greatest, one_greatest, falls, passes}
use Rattle.motion.proofs.Blocking.{first_blocked_first}

-- the greatest speed before block j from what it and the d - 1 blocks after it ask, with block j + d to come
abbrev down : List Block → ℕ → ℕ → ℕ
down blocks j zero = own_at blocks j
down blocks j (suc d) = min (own_at blocks j) (min (corner_at blocks j) (down blocks (suc j) d) + fall_at blocks j)

-- the speed after j blocks from s, whatever comes
abbrev up : List Block → ℕ → ℕ → ℕ
up blocks s zero = s
up blocks s (suc j) = min (min (own_at blocks j) (corner_at blocks j)) (up blocks s j + rise_at blocks j)

-- one block, by its figures o, c and f
down_one : (own corner fall o c f r : ℕ) → o ≤ top → own ≡ o → corner ≡ c → fall ≡ f → min (min o (c ⊕ f)) (r ⊕ f) ≡ min own (min corner r + fall)
down_one own corner fall o c f r h p q s = omega arith

up_one : (own corner rise o c f r : ℕ) → o ≤ top → own ≡ o → corner ≡ c → rise ≡ f → min (min o c) (r ⊕ f) ≡ min (min own corner) (r + rise)
up_one own corner rise o c f r h p q s = omega arith

module _ (blocks : List Block) where
  down_own : (j d : ℕ) → down blocks j d ≤ own_at blocks j
  down_own j zero = omega arith
  down_own j (suc d) = omega arith

  -- past the first junction the block before has its say too
  reverse_inner : (d j : ℕ) → reverse_from blocks (suc j) d ≡ min (min (own_at blocks j) (corner_at blocks j)) (down blocks (suc j) d)
  reverse_inner zero j = refl
  reverse_inner (suc d) j = omega (arith, reverse_inner d (suc j))

  reverse_first : (d : ℕ) → greatest_start blocks d ≡ down blocks 0 d
  reverse_first zero = refl
  reverse_first (suc d) = omega (arith, reverse_inner d 0)

  down_step : (j m : ℕ) → j < m → down blocks j (m - j) ≡ min (own_at blocks j) (min (corner_at blocks j) (down blocks (suc j) (m - suc j)) + fall_at blocks j)
  down_step j m h = let e : m - j ≡ suc (m - suc j) = omega arith in ap (down blocks j) e

  forward_parts : (m s : ℕ) → s ≤ greatest_start blocks m → (j : ℕ) → j ≤ m → forward_from blocks m s j ≡ min (up blocks s j) (down blocks j (m - j))
  forward_parts m s h zero k = let e : m - 0 ≡ m = omega arith in omega (arith, ap (down blocks 0) e, reverse_first m)
  forward_parts m s h (suc j) k =
      omega (arith, forward_parts m s h j (omega arith), down_step j m k, reverse_inner (m - suc j) j)

  -- figures fit 32 bits, so a sum under an own cap never stops short
  pub own_fits : (j : ℕ) → own_at blocks j ≤ top
  own_fits j = elim (cases_lt j (length blocks)) [
    | inl l ↦ elim blocks as (λ bs. j < length bs → own_at bs j ≤ top) [ [] ↦ λ k. omega arith | b ∷ bs ↦ λ k. omega (arith, get_or-map own_cap (b ∷ bs) j b 0 k) ] l
    | inr l ↦ omega (arith, own_past blocks j l)
  ]

  abbrev block : ℕ → Block
  block j = get_or blocks j idle

  figure : (f : Block → ℕ) (j : ℕ) → j < length blocks → get_or (map f blocks) j 0 ≡ f (block j)
  figure f j h = get_or-map f blocks j idle 0 h

  down_block : (j r : ℕ) → j < length blocks → through (run_down_rule.one (block j)) r ≡ min (own_at blocks j) (min (corner_at blocks j) r + fall_at blocks j)
  down_block j r h = down_one _ _ _ _ _ _ r (omega arith) (figure own_cap j h) (figure corner_cap j h) (figure fall_of j h)

  up_block : (j r : ℕ) → j < length blocks → through (run_up_rule.one (block j)) r ≡ min (min (own_at blocks j) (corner_at blocks j)) (r + rise_at blocks j)
  up_block j r h = up_one _ _ _ _ _ _ r (omega arith) (figure own_cap j h) (figure corner_cap j h) (figure rise_of j h)

  down_is : (d j : ℕ) → j + d ≤ length blocks → through (summary run_down_rule (take d (drop j blocks))) (own_at blocks (j + d)) ≡ down blocks j d
  down_is zero j h = let e : j + 0 ≡ j = omega arith in ap (λ i. through run_down_rule.unit (own_at blocks i)) e ∙ through_unit (own_at blocks j) (own_fits j)
  down_is (suc d) j h =
      let e : j + suc d ≡ suc j + d = omega arith in
      let b = block j in
      let xs = take d (drop (suc j) blocks) in
      ap (λ xs. through (summary run_down_rule (take (suc d) xs)) (own_at blocks (j + suc d))) (drop-cons blocks j idle (omega arith))
      ∙ ap (λ x. through x (own_at blocks (j + suc d))) (summary_cons run_down_laws b xs)
      ∙ through_followed (summary run_down_rule xs) (run_down_rule.one b) (own_at blocks (j + suc d))
      ∙ ap (through (run_down_rule.one b)) (ap (λ i. through (summary run_down_rule xs) (own_at blocks i)) e ∙ down_is d (suc j) (omega arith))
      ∙ down_block j (down blocks (suc j) d) (omega arith)

  up_is : (s j : ℕ) → s ≤ top → j ≤ length blocks → run_up_to blocks j s ≡ up blocks s j
  up_is s zero h k = through_unit s h
  up_is s (suc j) h k =
      let b = block j in
      let xs = take j blocks in
      ap (λ ys. through (summary run_up_rule ys) s) (take-suc blocks j idle k)
      ∙ ap (λ x. through x s) (summary_append run_up_laws xs (b ∷ []) ∙ ap (run_up_rule.join (summary run_up_rule xs)) (summary_one run_up_laws b))
      ∙ through_followed (summary run_up_rule xs) (run_up_rule.one b) s
      ∙ ap (through (run_up_rule.one b)) (up_is s j h (omega arith))
      ∙ up_block j (up blocks s j) k

  down_rest : (j : ℕ) → j ≤ length blocks → run_down_from blocks j ≡ down blocks j (length blocks - j)
  down_rest j h =
      let e : j + (length blocks - j) ≡ length blocks = omega arith in
      ap (λ xs. through (summary run_down_rule xs) 0) (sym (take_rest blocks j))
      ∙ ap (through (summary run_down_rule (take (length blocks - j) (drop j blocks)))) (sym (ap (own_at blocks) e ∙ own_past blocks (length blocks) (omega arith)))
      ∙ down_is (length blocks - j) j (omega arith)

  -- whether the whole list allows a start: one range
  pub start_by_parts : reverse_at blocks 0 ≡ through (summary run_down_rule blocks) 0
  start_by_parts =
      let e : length blocks - 0 ≡ length blocks = omega arith in
      ap (reverse_from blocks 0) e ∙ reverse_first (length blocks) ∙ ap (down blocks 0) (sym e) ∙ sym (down_rest 0 (omega arith))

  pub none_starts : (s : ℕ) → through (summary run_down_rule blocks) 0 < s → Starts blocks (length blocks) s → ⊥
  none_starts s h v = omega (arith, start_by_parts, ((passes blocks).starts s).0 v)

  -- the speed at a junction: what the blocks before it give, and what those after it allow
  pub speed_by_parts : (s j : ℕ) → s ≤ reverse_at blocks 0 → j ≤ length blocks → forward_at blocks s j ≡ min (run_up_to blocks j s) (run_down_from blocks j)
  speed_by_parts s j k l =
      let e : length blocks - 0 ≡ length blocks = omega arith in
      let start : s ≤ greatest_start blocks (length blocks) = omega (arith, ap (reverse_from blocks 0) e) in
      let fits : s ≤ top = omega (arith, start, reverse_first (length blocks), down_own 0 (length blocks), own_fits 0) in
      forward_parts (length blocks) s start j l
      ∙ ap (min (up blocks s j)) (sym (down_rest j l))
      ∙ ap (λ c. min c (run_down_from blocks j)) (sym (up_is s j fits l))

  -- the greatest start of a prefix: one range and one own cap
  pub prefix_by_parts : (m : ℕ) → m ≤ length blocks → greatest_start blocks m ≡ run_down_to blocks m
  prefix_by_parts m h =
      let e : 0 + m ≡ m = omega arith in
      reverse_first m ∙ sym (down_is m 0 (omega arith)) ∙ ap (λ i. through (summary run_down_rule (take m blocks)) (own_at blocks i)) e

  greatest_by_parts : (s j : ℕ) (v : List ℕ) → Greatest blocks s v → j ≤ length blocks → at v j ≡ min (run_up_to blocks j s) (run_down_from blocks j)
  greatest_by_parts s j v g h =
      let starts : Starts blocks (length blocks) s = (v, g.lawful) in
      ap (λ w. at w j) (one_greatest blocks s v (speeds_of blocks s) g (greatest blocks s starts))
      ∙ at_speeds blocks (length blocks) s j h
      ∙ speed_by_parts s j (((passes blocks).starts s).0 starts) h

  starts_by_parts : (m s : ℕ) → m ≤ length blocks → Starts blocks m s ↔ (s ≤ run_down_to blocks m)
  starts_by_parts m s h =
      let cut = prefix_by_parts m h in
      (λ v. omega (arith, cut, start_under blocks m s v), λ l. starts_at blocks m s (omega (arith, cut, l)))

  -- one test of a binary search for the first blocked junction
  pub blocked_by_parts : (s k : ℕ) → (Starts blocks (length blocks) s → ⊥) → k ≤ length blocks → (k < first_blocked blocks s) ↔ (s ≤ run_down_to blocks k)
  blocked_by_parts s k none h =
      let f = first_blocked_first blocks s none in
      let m = first_blocked blocks s in (
        λ l. (starts_by_parts k s h).0 (f.open_before k l),
        λ l. elim (cases_lt k m) [
          | inl i ↦ i
          | inr i ↦ absurd (f.blocked (starts_at blocks m s (omega (arith, falls blocks m k i, prefix_by_parts k h))))
        ],
      )

  pub by_parts : ByParts blocks
  by_parts = record {
    start = start_by_parts;
    speed = speed_by_parts;
    greatest = greatest_by_parts;
    prefix = prefix_by_parts;
    starts = starts_by_parts;
    blocked = blocked_by_parts;
  }
