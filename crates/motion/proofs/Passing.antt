-- The steps of the loops that run the passes.
use Rattle.std.proofs.Common.{◌≡◌, ℕ, zero, suc, ◌+◌, ◌-◌, ◌<◌, ◌≤◌, min, cond, leb, ◌≢◌, List, [], ◌∷◌, ◌++◌, map, length, get_or, take, set, sym, refl, ap, ◌∙◌, inl, inr, append_assoc, add-one, length-append, arith}
use Rattle.std.specs.List.{range_with_len}
use Rattle.std.proofs.Math.Seq.{get_or-append_seam}
use Rattle.std.proofs.lemmas.List.FromFn.{length-map-range_with_len, get_or-map-range_with_len, map-range_with_len_more, fill_by_all}
use Rattle.std.proofs.lemmas.Grind.{get_or-set_at}
use Rattle.std.proofs.lemmas.List.{get_or-map, length-set, get_or-set_other, take_more}
use Rattle.std.proofs.lemmas.Bool.{cases_lt, cond-true, cond-false, le-leb, lt-leb}
use Rattle.kinds.specs.Rules.{summary}
use Rattle.kinds.specs.Sums.{top, ◌⊕◌}
use Rattle.kinds.proofs.Summaries.{summary_append, summary_one}
use Rattle.motion.specs.declared.blocks.Block.{Block}
use Rattle.motion.specs.declared.runs.Run.{Run}
use Rattle.motion.specs.Figures.{own_cap, corner_cap, rise_of, fall_of}
use Rattle.motion.specs.Laid.{idle}
use Rattle.motion.specs.Runs.{through, run_down_rule, run_down_laws}
use Rattle.motion.specs.Profiles.{own_at, corner_at, junction_cap, Caps, at, reverse_from, reverse_at, forward_at, greatest_start, blocked_from}
use Rattle.motion.proofs.Lawfulness.{caps, reverse_step, reverse_cap}
use Rattle.motion.proofs.Parting.{own_fits, prefix_by_parts}

-- a list of speeds that has f at each junction up to n
abbrev pub Filled : (ℕ → ℕ) → ℕ → List ℕ → Type 0
Filled f n v = (length v ≡ suc n) × ((k : ℕ) → k ≤ n → get_or v k 0 ≡ f k)

pub filled_from : (f : ℕ → ℕ) (n : ℕ) (v : List ℕ) → v ≡ map f (range_with_len 0 (suc n)) → Filled f n v
filled_from f n v e = (
  ap length e ∙ length-map-range_with_len f 0 (suc n),
  λ k h. ap (λ w. get_or w k 0) e ∙ get_or-map-range_with_len f 0 (suc n) k k 0 (omega arith) (omega arith),
)

pub filled_all : (f : ℕ → ℕ) (n : ℕ) (v : List ℕ) → Filled f n v → v ≡ map f (range_with_len 0 (suc n))
filled_all f n v h = fill_by_all f v (suc n) 0 h.0 (λ k l. h.1 k (omega arith))

-- f before junction j, and g from there up to n
abbrev pub Split : (ℕ → ℕ) → (ℕ → ℕ) → ℕ → ℕ → List ℕ → Type 0
Split f g n j v = (length v ≡ suc n) × ((k : ℕ) → k < j → k ≤ n → get_or v k 0 ≡ f k) × ((k : ℕ) → j ≤ k → k ≤ n → get_or v k 0 ≡ g k)

module _ (f g : ℕ → ℕ) (n j y : ℕ) (v : List ℕ) (h : j ≤ n) where
  other : (k : ℕ) → k ≢ j → get_or (set v j y) k 0 ≡ get_or v k 0
  other k p = get_or-set_other v j k y 0 p

  written : (k : ℕ) → k ≡ j → length v ≡ suc n → get_or (set v j y) k 0 ≡ y
  written k p l = get_or-set_at v j k y 0 p (omega arith)

  pub split_down : Split f g n (j + 1) v → y ≡ g j → Split f g n j (set v j y)
  split_down s e = (
    length-set v j y ∙ s.0,
    λ k l m. other k (omega arith) ∙ s.1 k (omega arith) m,
    λ k l m. elim (cases_lt j k) [
      | inl i ↦ other k (omega arith) ∙ s.2 k (omega arith) m
      | inr i ↦ (let same : k ≡ j = omega arith in written k same s.0 ∙ e ∙ ap g (sym same))
    ],
  )

  pub split_up : Split f g n j v → y ≡ f j → Split f g n (j + 1) (set v j y)
  split_up s e = (
    length-set v j y ∙ s.0,
    λ k l m. elim (cases_lt k j) [
      | inl i ↦ other k (omega arith) ∙ s.1 k i m
      | inr i ↦ (let same : k ≡ j = omega arith in written k same s.0 ∙ e ∙ ap f (sym same))
    ],
    λ k l m. other k (omega arith) ∙ s.2 k (omega arith) m,
  )

-- the last of the blocks that are left
pub last_left : (blocks left more passed : List Block) (b : Block) → blocks ≡ left ++ passed → left ≡ more ++ b ∷ [] → (blocks ≡ more ++ b ∷ passed) × (length left ≡ length more + 1) × (length more < length blocks) × (b ≡ get_or blocks (length more) idle)
last_left blocks left more passed b e f =
    let all : blocks ≡ more ++ b ∷ passed = e ∙ ap (λ xs. xs ++ passed) f ∙ append_assoc more (b ∷ []) passed in (
      all,
      omega (arith, ap length f, length-append more (b ∷ [])),
      omega (arith, ap length all, length-append more (b ∷ passed)),
      sym (ap (λ xs. get_or xs (length more) idle) all ∙ get_or-append_seam more b passed idle),
    )

-- what the block before a junction allows there
abbrev pub limit : List Block → ℕ → ℕ
limit blocks zero = top
limit blocks (suc j) = min (own_at blocks j) (corner_at blocks j)

module _ (blocks : List Block) where
  limit_cap : (j : ℕ) → min (limit blocks j) (own_at blocks j) ≡ junction_cap blocks j
  limit_cap zero = omega (arith, own_fits blocks 0)
  limit_cap (suc j) = refl

  cap_fits : (j : ℕ) → junction_cap blocks j ≤ top
  cap_fits zero = own_fits blocks 0
  cap_fits (suc j) = omega (arith, own_fits blocks (suc j))

  pub caps_from : (v : List ℕ) → v ≡ map (junction_cap blocks) (range_with_len 0 (suc (length blocks))) → Caps blocks (at v)
  caps_from v e =
      let f = filled_from (junction_cap blocks) (length blocks) v e in
      let c = caps blocks in
      record {
        last = f.1 (length blocks) (omega arith) ∙ c.last;
        first = λ h. f.1 0 (omega arith);
        between = λ j h. f.1 (suc j) (omega arith);
      }

  -- the last cap is 0
  pub caps_end : (v : List ℕ) (i : ℕ) → i ≡ length blocks → v ≡ map (junction_cap blocks) (range_with_len 0 i) → v ++ 0 ∷ [] ≡ map (junction_cap blocks) (range_with_len 0 (suc (length blocks)))
  caps_end v i e f =
      let n = length blocks in
      let long : n + 1 ≡ suc n = add-one n in
      ap (λ w. w ++ 0 ∷ []) (f ∙ ap (λ k. map (junction_cap blocks) (range_with_len 0 k)) e)
      ∙ ap (λ x. map (junction_cap blocks) (range_with_len 0 n) ++ x ∷ []) (sym (caps blocks).last)
      ∙ sym (map-range_with_len_more (junction_cap blocks) 0 n n (omega arith))
      ∙ ap (λ k. map (junction_cap blocks) (range_with_len 0 k)) long

  module _ (i : ℕ) (h : i < length blocks) where
    abbrev here : Block
    here = get_or blocks i idle

    figure_here : (f : Block → ℕ) → f here ≡ get_or (map f blocks) i 0
    figure_here f = sym (get_or-map f blocks i idle 0 h)

    pub cap_more : (v : List ℕ) (before cap : ℕ) → v ≡ map (junction_cap blocks) (range_with_len 0 i) → before ≡ limit blocks i → cap ≡ min before (own_cap here) → v ++ cap ∷ [] ≡ map (junction_cap blocks) (range_with_len 0 (i + 1))
    cap_more v before cap e l o =
        let same : cap ≡ junction_cap blocks i = o ∙ ap (λ x. min x (own_cap here)) l ∙ ap (min (limit blocks i)) (figure_here own_cap) ∙ limit_cap i in
        ap (λ w. w ++ cap ∷ []) e
        ∙ ap (λ x. map (junction_cap blocks) (range_with_len 0 i) ++ x ∷ []) same
        ∙ sym (map-range_with_len_more (junction_cap blocks) 0 i i (omega arith))

    pub limit_more : (own corner : ℕ) → own ≡ own_cap here → corner ≡ corner_cap here → min own corner ≡ limit blocks (i + 1)
    limit_more own corner o q = rw add-one (ap (λ x. min x corner) (o ∙ figure_here own_cap) ∙ ap (min (own_at blocks i)) (q ∙ figure_here corner_cap))

    -- a sum under a cap never stops short
    pub reverse_next : (x y fall : ℕ) → x ≡ junction_cap blocks i → y ≡ reverse_at blocks (i + 1) → fall ≡ fall_of here → min x (y ⊕ fall) ≡ reverse_at blocks i
    reverse_next x y fall p q f =
        let after : y ≡ reverse_from blocks (suc i) (length blocks - suc i) = rw add-one at q in
        let change = f ∙ figure_here fall_of in
        omega (arith, p, cap_fits i, after, change, reverse_step blocks i (length blocks) h)

    pub forward_next : (s x y rise : ℕ) → x ≡ reverse_at blocks (i + 1) → y ≡ forward_at blocks s i → rise ≡ rise_of here → min x (y ⊕ rise) ≡ forward_at blocks s (i + 1)
    forward_next s x y rise p q f =
        let bound = reverse_cap blocks (i + 1) (length blocks - (i + 1)) in
        let after : x ≡ reverse_from blocks (suc i) (length blocks - suc i) = rw add-one at p in
        let change = f ∙ figure_here rise_of in
        let next : min x (y ⊕ rise) ≡ forward_at blocks s (suc i) = omega (arith, p, bound, cap_fits (i + 1), after, q, change) in
        next ∙ rw add-one

    module _ (s own : ℕ) (r : Run) (run : r ≡ summary run_down_rule (take i blocks)) (o : own ≡ own_cap here) where
      tested : through r own ≡ greatest_start blocks i
      tested = ap (λ x. through x own) run ∙ ap (through (summary run_down_rule (take i blocks))) (o ∙ figure_here own_cap) ∙ sym (prefix_by_parts blocks i (omega arith))

      more : length blocks - i ≡ suc (length blocks - (i + 1))
      more = omega arith

      scanned : blocked_from blocks s i (length blocks - i) ≡ cond (leb s (greatest_start blocks i)) (blocked_from blocks s (i + 1) (length blocks - (i + 1))) i
      scanned = ap (blocked_from blocks s i) more ∙ rw add-one

      pub blocked_here : through r own < s → blocked_from blocks s i (length blocks - i) ≡ i
      blocked_here l = scanned ∙ cond-false _ _ _ (lt-leb s (greatest_start blocks i) (omega (arith, tested)))

      pub blocked_on : s ≤ through r own → blocked_from blocks s i (length blocks - i) ≡ blocked_from blocks s (i + 1) (length blocks - (i + 1))
      blocked_on l = scanned ∙ cond-true _ _ _ (le-leb s (greatest_start blocks i) (omega (arith, tested)))

    pub run_more : (r : Run) → r ≡ summary run_down_rule (take i blocks) → run_down_rule.join r (run_down_rule.one here) ≡ summary run_down_rule (take (i + 1) blocks)
    run_more r e =
        let xs = take i blocks in
        ap (λ x. run_down_rule.join x (run_down_rule.one here)) e
        ∙ ap (run_down_rule.join (summary run_down_rule xs)) (sym (summary_one run_down_laws here))
        ∙ sym (summary_append run_down_laws xs (here ∷ []))
        ∙ ap (summary run_down_rule) (sym (take_more blocks i idle h))
