-- Slots whose elements are moved by one, and the list that they then hold.
use Rattle.std.proofs.Common.{◌≡◌, ℕ, zero, suc, ◌+◌, ◌-◌, ◌<◌, ◌≤◌, List, [], ◌∷◌, ◌++◌, length, take, drop, set, sym, refl, ap, ◌∙◌, arith}
use Rattle.std.specs.List.{copy_within, insert, remove}
use Rattle.std.proofs.lemmas.List.{take-take, drop-take, length-drop}
use Rattle.std.proofs.lemmas.List.Edits.{take-paste}

-- a write among the first n slots
pub take_set_inside : {E : Type 0} (n : ℕ) (xs : List E) (i : ℕ) (e : E) → take n (set xs i e) ≡ set (take n xs) i e
take_set_inside zero xs i e = refl
take_set_inside (suc n) [] i e = refl
take_set_inside (suc n) (x ∷ xs) zero e = refl
take_set_inside (suc n) (x ∷ xs) (suc i) e = ap (λ ys. x ∷ ys) (take_set_inside n xs i e)

-- a write to the last of the first slots
set_last : {E : Type 0} (xs ys : List E) (i : ℕ) (e : E) → i < length xs → set (take (suc i) xs ++ ys) i e ≡ take i xs ++ (e ∷ ys)
set_last [] ys i e h = absurd (omega arith)
set_last (x ∷ xs) ys zero e h = refl
set_last (x ∷ xs) ys (suc i) e h = ap (λ zs. x ∷ zs) (set_last xs ys i e (omega arith))

module _ {E : Type 0} (xs : List E) (used i : ℕ) where
  -- the elements from i on moved up, and e written before them
  pub slots_inserted : (e : E) → used < length xs → i ≤ used → take (used + 1) (set (copy_within xs i used (i + 1)) i e) ≡ insert (take used xs) i e
  slots_inserted e free within =
      let n = used - i in
      let rest = take n (drop i xs) in
      let next : i + 1 ≡ suc i = omega arith in
      let up : used + 1 ≡ suc i + n = omega arith in
      let all : used ≡ i + n = omega arith in
      take_set_inside (used + 1) (copy_within xs i used (i + 1)) i e
      ∙ ap (λ k. set (take (used + 1) (copy_within xs i used k)) i e) next
      ∙ ap (λ k. set (take k (copy_within xs i used (suc i))) i e) up
      ∙ ap (λ ys. set ys i e) (take-paste xs (suc i) (drop i xs) n (omega arith) (omega (arith, length-drop i xs)))
      ∙ set_last xs rest i e (omega arith)
      ∙ ap (λ zs. zs ++ (e ∷ rest)) (sym (take-take i used xs within))
      ∙ ap (λ zs. take i (take used xs) ++ (e ∷ zs)) (sym (ap (λ k. drop i (take k xs)) all ∙ drop-take i n xs))

  -- the elements after i moved down over it
  pub slots_deleted : used ≤ length xs → i < used → take (used - 1) (copy_within xs (i + 1) used i) ≡ remove (take used xs) i
  slots_deleted full within =
      let n = used - suc i in
      let rest = take n (drop (suc i) xs) in
      let next : i + 1 ≡ suc i = omega arith in
      let down : used - 1 ≡ i + n = omega arith in
      let all : used ≡ suc i + n = omega arith in
      ap (λ k. take (used - 1) (copy_within xs k used i)) next
      ∙ ap (λ k. take k (copy_within xs (suc i) used i)) down
      ∙ take-paste xs i (drop (suc i) xs) n (omega arith) (omega (arith, length-drop (suc i) xs))
      ∙ ap (λ zs. zs ++ rest) (sym (take-take i used xs (omega arith)))
      ∙ ap (λ zs. take i (take used xs) ++ zs) (sym (ap (λ k. drop (suc i) (take k xs)) all ∙ drop-take (suc i) n xs))
