-- The reach of blocks is the box of their targets, and their span the sum of their lengths.
use Rattle.std.proofs.Common.{◌≡◌, ℕ, zero, suc, ◌+◌, ◌<◌, min, ◌⊎◌, List, [], ◌∷◌, map, length, ℤ, ◌≤ℤ◌, sym, refl, ap, ◌∙◌, subst, inl, inr, arith}
use lib.Signed.{lt_z}
use Rattle.std.specs.Int.{int_min, int_max}
use Rattle.std.proofs.lemmas.Int.{ints, clamps}
use Rattle.std.proofs.lemmas.Bool.{cases_cond}
use Rattle.kinds.specs.Rules.{joined_on, summary}
use Rattle.kinds.specs.Sums.{◌⊕◌, top}
use Rattle.kinds.proofs.Summaries.{summary_cons}
use Rattle.motion.specs.declared.blocks.Block.{Block}
use Rattle.motion.specs.declared.extents.Bounds.{Bounds}
use Rattle.motion.specs.Extents.{greatest32, least32, signed32, clamped, bounds, bounds_rule, bounds_laws, extent, reach_rule, span_laws}
use Rattle.motion.specs.Boxes.{coordinate, Between, Box, Fit, ReachIsBox, total_length, SpanIsSum}

clamped_same : (z : ℤ) → signed32 z → clamped z ≡ z
clamped_same z h = omega (arith, ints, clamps)

-- one of the two bounds of a list, from what it is of none
module _ (pick : ℤ → ℤ → ℤ) (none : ℤ) where
  abbrev picked : List ℤ → ℤ
  picked [] = none
  picked (z ∷ zs) = pick (clamped z) (picked zs)

  module _ (R : ℤ → ℤ → Type 0) (left : (a b c : ℤ) → R a c → R (pick a b) c) (right : (a b c : ℤ) → R b c → R (pick a b) c) (same : (a : ℤ) → R a a) where
    picked_all : (zs : List ℤ) → Fit zs → (j : ℕ) → j < length zs → R (picked zs) (coordinate zs j)
    picked_all [] fit j h = absurd (omega arith)
    picked_all (z ∷ zs) fit zero h = left (clamped z) (picked zs) z (subst (λ w. R w z) (sym (clamped_same z (fit 0 h))) (same z))
    picked_all (z ∷ zs) fit (suc j) h =
        right (clamped z) (picked zs) (coordinate zs j) (picked_all zs (λ k l. fit (suc k) (omega arith)) j (omega arith))

  module _ (either : (a b : ℤ) → (pick a b ≡ a) ⊎ (pick a b ≡ b)) (alone : (a : ℤ) → signed32 a → pick a none ≡ a) where
    picked_met : (zs : List ℤ) → Fit zs → 0 < length zs → (j : ℕ) × (j < length zs) × (coordinate zs j ≡ picked zs)
    picked_met [] fit h = absurd (omega arith)
    picked_met (z ∷ []) fit h =
        let f = fit 0 h in
        let c = clamped_same z f in
        (0, h, sym (ap (λ w. pick w none) c ∙ alone z f))
    picked_met (z ∷ (y ∷ ys)) fit h =
        let rest = picked_met (y ∷ ys) (λ k l. fit (suc k) (omega arith)) (omega arith) in
        elim (either (clamped z) (picked (y ∷ ys))) [
          | inl e ↦ (0, h, sym (e ∙ clamped_same z (fit 0 h)))
          | inr e ↦ (suc rest.0, omega (arith, rest.1), rest.2 ∙ sym e)
        ]

either_least : (a b : ℤ) → (int_min a b ≡ a) ⊎ (int_min a b ≡ b)
either_least a b = elim (cases_cond (lt_z b a) b a (int_min a b) refl) [ inl e ↦ inr e | inr e ↦ inl e ]

either_greatest : (a b : ℤ) → (int_max a b ≡ a) ⊎ (int_max a b ≡ b)
either_greatest a b = cases_cond (lt_z b a) a b (int_max a b) refl

bounds_picked : (zs : List ℤ) → summary bounds_rule zs ≡ bounds (picked int_min greatest32 zs) (picked int_max least32 zs)
bounds_picked [] = refl
bounds_picked (z ∷ zs) = summary_cons bounds_laws z zs ∙ ap (bounds_rule.join (bounds_rule.one z)) (bounds_picked zs)

between : (zs : List ℤ) → Fit zs → Between zs (summary bounds_rule zs).least (summary bounds_rule zs).greatest
between zs fit = subst (λ b. Between zs b.least b.greatest) (sym (bounds_picked zs)) (record {
  above = picked_all int_min greatest32 (λ a b. a ≤ℤ b) (λ a b c h. omega (arith, ints, clamps)) (λ a b c h. omega (arith, ints, clamps)) (λ a. omega (arith, ints)) zs fit;
  below = picked_all int_max least32 (λ a b. b ≤ℤ a) (λ a b c h. omega (arith, ints, clamps)) (λ a b c h. omega (arith, ints, clamps)) (λ a. omega (arith, ints)) zs fit;
  least_met = picked_met int_min greatest32 either_least (λ a h. omega (arith, ints, clamps)) zs fit;
  greatest_met = picked_met int_max least32 either_greatest (λ a h. omega (arith, ints, clamps)) zs fit;
})

-- the reach is the bounds of each axis by itself
by_axis : (a b c : Bounds) (blocks : List Block) → joined_on reach_rule (extent a b c) blocks ≡ extent (joined_on bounds_rule a (map (λ b. b.x) blocks)) (joined_on bounds_rule b (map (λ b. b.y) blocks)) (joined_on bounds_rule c (map (λ b. b.z) blocks))
by_axis a b c [] = refl
by_axis a b c (block ∷ blocks) = by_axis (bounds_rule.join a (bounds_rule.one block.x)) (bounds_rule.join b (bounds_rule.one block.y)) (bounds_rule.join c (bounds_rule.one block.z)) blocks

pub reach_is_box : ReachIsBox
reach_is_box blocks fit_x fit_y fit_z =
    let none = bounds_rule.unit in
    subst (Box blocks) (sym (by_axis none none none blocks)) (record {
      x = between (map (λ b. b.x) blocks) fit_x;
      y = between (map (λ b. b.y) blocks) fit_y;
      z = between (map (λ b. b.z) blocks) fit_z;
    })

stops : (a b : ℕ) → (min a top ⊕ min b top) ≡ min (a + b) top
stops a b = omega arith

pub span_is_sum : SpanIsSum
span_is_sum [] = refl
span_is_sum (b ∷ bs) = summary_cons span_laws b bs ∙ ap (λ n. min b.length top ⊕ n) (span_is_sum bs) ∙ stops b.length (total_length bs)
