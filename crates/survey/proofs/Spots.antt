-- The thinnest spot of a range is the one that the walk over the readings finds.
use Rattle.std.proofs.Common.{◌≡◌, ℕ, zero, suc, ◌+◌, ◌-◌, ◌<◌, ◌≤◌, cond, ltb, List, [], ◌∷◌, length, get_or, IfSome, Some, None, Option, sym, refl, ap, ◌∙◌, subst, suc-le-suc, zero-le, add-zero, add-suc, suc-add, arith}
use Rattle.std.specs.List.{between}
use Rattle.std.proofs.lemmas.Bool.{lt-ltb, le-ltb, cond_both}
use Rattle.std.proofs.lemmas.List.Edits.{length-between, get_or-between}
use Rattle.survey.specs.Readings.{IsThinnest, spot_at, lesser, thinnest_of}
use Rattle.survey.specs.declared.Spot.{Spot}

-- no reading of ys is below x
abbrev Above : ℕ → List ℕ → Type 0
Above x ys = (k : ℕ) → k < length ys → x ≤ get_or ys k 0

above_rest : (x y : ℕ) (ys : List ℕ) → Above x (y ∷ ys) → Above x ys
above_rest x y ys all k h = all (suc k) (suc-le-suc h)

-- the walk finds no lesser reading than there is
lesser_above : (x y place : ℕ) (o : Option Spot) → x ≤ y → IfSome o (λ s. x ≤ s.reading) → x ≤ (lesser y place o).reading
lesser_above x y place None le rest = le
lesser_above x y place (Some s) le rest = cond_both (ltb s.reading y) s (spot_at y place) (λ z. x ≤ z.reading) (λ _. rest) (λ _. le)

found_above : (x place : ℕ) (ys : List ℕ) → Above x ys → IfSome (thinnest_of place ys) (λ s. x ≤ s.reading)
found_above x place [] all = tt
found_above x place (y ∷ ys) all = lesser_above x y place (thinnest_of (suc place) ys) (all zero (suc-le-suc zero-le)) (found_above x (suc place) ys (above_rest x y ys all))

lesser_first : (x place : ℕ) (o : Option Spot) → IfSome o (λ s. x ≤ s.reading) → lesser x place o ≡ spot_at x place
lesser_first x place None rest = refl
lesser_first x place (Some s) rest = ap (λ t. cond t s (spot_at x place)) (le-ltb s.reading x rest)

-- a reading that is the first of the least is the one that the walk finds
walk_finds : (place : ℕ) (ys : List ℕ) (k : ℕ) → k < length ys → Above (get_or ys k 0) ys → ((n : ℕ) → n < k → get_or ys k 0 < get_or ys n 0) → thinnest_of place ys ≡ Some (spot_at (get_or ys k 0) (place + k))
walk_finds place [] k h least first = absurd (omega arith)
walk_finds place (y ∷ ys) zero h least first =
    ap Some (lesser_first y place (thinnest_of (suc place) ys) (found_above y (suc place) ys (above_rest y y ys least)) ∙ ap (spot_at y) (sym (add-zero place)))
walk_finds place (y ∷ ys) (suc k) h least first =
    let later : thinnest_of (suc place) ys ≡ Some (spot_at (get_or ys k 0) (suc place + k)) = walk_finds (suc place) ys k (omega arith) (above_rest (get_or ys k 0) y ys least) (λ n lt. first (suc n) (suc-le-suc lt)) in
    let s = spot_at (get_or ys k 0) (suc place + k) in
    ap (λ o. Some (lesser y place o)) later
    ∙ ap (λ t. Some (cond t s (spot_at y place))) (lt-ltb (get_or ys k 0) y (first zero (suc-le-suc zero-le)))
    ∙ ap (λ p. Some (spot_at (get_or ys k 0) p)) (suc-add place k ∙ sym (add-suc place k))

pub thinnest_found : (xs : List ℕ) (i j : ℕ) (s : Spot) → j ≤ length xs → IsThinnest xs i j s → thinnest_of i (between i j xs) ≡ Some s
thinnest_found xs i j s within t =
    let k = s.place - i in
    let up : i + k ≡ s.place = omega (arith, t.from) in
    let long = length-between xs i j within in
    let at : (n : ℕ) → i + n < j → get_or (between i j xs) n 0 ≡ get_or xs (i + n) 0 = λ n h. get_or-between xs i j n 0 h in
    let here : get_or (between i j xs) k 0 ≡ s.reading = at k (omega (arith, t.below)) ∙ ap (λ p. get_or xs p 0) up ∙ t.there in
    walk_finds i (between i j xs) k (omega (arith, t.below, t.from))
    (λ n h. let inside : i + n < j = omega arith in subst (λ z. z ≤ get_or (between i j xs) n 0) (sym here) (subst (λ z. s.reading ≤ z) (sym (at n inside)) (t.least (i + n) (omega arith) inside)))
    (λ n h. let inside : i + n < j = omega (arith, t.below) in subst (λ z. z < get_or (between i j xs) n 0) (sym here) (subst (λ z. s.reading < z) (sym (at n inside)) (t.first (i + n) (omega arith) (omega arith))))
    ∙ ap (λ r. Some (spot_at r (i + k))) here ∙ ap (λ p. Some (spot_at s.reading p)) up
