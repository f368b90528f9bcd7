-- A binary search for the first of the least readings, by the least readings of ranges.
use Rattle.std.proofs.Common.{◌≡◌, ℕ, zero, suc, ◌+◌, ◌-◌, ◌<◌, ◌≤◌, min, Bool, false, eqb, List, [], ◌∷◌, length, get_or, Ok, Result, sym, ap, ◌∙◌, subst, ⊎_elim, arith}
use Rattle.std.specs.List.{between}
use Rattle.std.specs.Result.{result_eq}
use Rattle.std.proofs.lemmas.Bool.Decides.{nat_tests}
use Rattle.refusals.specs.declared.Refusal.{Refusal}
use Rattle.std.proofs.lemmas.Bool.{cases_lt}
use Rattle.std.proofs.lemmas.List.Edits.{length-between, get_or-between}
use Rattle.kinds.specs.Models.{thinnest, thinnest_laws}
use Rattle.kinds.specs.Rules.{summary}
use Rattle.kinds.proofs.Summaries.{summary_append, summary_cons, summary_one}
use Rattle.sequences.proofs.Rulings.{between_split, between_one}
use Rattle.survey.specs.Readings.{Sound, IsThinnest, spot_at}

-- an answer that differs from a number does not tell it
pub told_other : (f : Refusal → Refusal → Bool) (told : Result ℕ Refusal) (n : ℕ) → result_eq eqb f told (Ok n) ≡ false → told ≡ Ok n → ⊥
told_other f told n differs is =
    let other : eqb n n ≡ false = ap (λ z. result_eq eqb f z (Ok n)) (sym is) ∙ differs in
    grind (arith, nat_tests)

-- the least is at most each reading
least_below : (ys : List ℕ) (k : ℕ) → k < length ys → summary thinnest ys ≤ get_or ys k 0
least_below [] k h = absurd (omega arith)
least_below (y ∷ ys) zero h = subst (λ z. z ≤ y) (sym (summary_cons thinnest_laws y ys)) (omega arith)
least_below (y ∷ ys) (suc k) h =
    let rest : summary thinnest ys ≤ get_or ys k 0 = least_below ys k (omega arith) in
    subst (λ z. z ≤ get_or ys k 0) (sym (summary_cons thinnest_laws y ys)) (omega arith)

module _ (xs : List ℕ) (sound : Sound xs) where
  abbrev pub least : ℕ → ℕ → ℕ
  least i j = summary thinnest (between i j xs)

  least_at : (i j k : ℕ) → j ≤ length xs → i ≤ k → k < j → least i j ≤ get_or xs k 0
  least_at i j k within low high =
      let up : i + (k - i) ≡ k = omega arith in
      let long = length-between xs i j within in
      subst (λ z. least i j ≤ z) (get_or-between xs i j (k - i) 0 (omega arith) ∙ ap (λ p. get_or xs p 0) up) (least_below (between i j xs) (k - i) (omega arith))

  least_split : (i k j : ℕ) → i ≤ k → k ≤ j → least i j ≡ min (least i k) (least k j)
  least_split i k j low high = ap (summary thinnest) (between_split xs i k j low high) ∙ summary_append thinnest_laws (between i k xs) (between k j xs)

  least_one : (i : ℕ) → i < length xs → least i (i + 1) ≡ get_or xs i 0
  least_one i within = ap (summary thinnest) (between_one xs i 0 within) ∙ summary_one thinnest_laws (get_or xs i 0) ∙ omega (arith, sound i within)

  -- the least reading of the whole range stands between low and high, and not before
  pub record Searching (i j reading low high : ℕ) : Type 0 where
    pub from : i ≤ low
    pub order : low < high
    pub within : high ≤ j
    pub holds : least low high ≡ reading
    pub before : (k : ℕ) → i ≤ k → k < low → reading < get_or xs k 0

  module _ (i j reading low high : ℕ) (inside : j ≤ length xs) (s : Searching i j reading low high) where
    pub go_right : (middle : ℕ) → low ≤ middle → middle < high → (least low middle ≡ reading → ⊥) → Searching i j reading middle high
    go_right middle lo hi ne =
        let parts : reading ≡ min (least low middle) (least middle high) = sym s.holds ∙ least_split low middle high lo (omega arith) in
        let over : reading < least low middle = omega arith in
        record {
          from = omega (arith, s.from);
          order = hi;
          within = s.within;
          holds = omega arith;
          before = λ k h u. ⊎_elim (λ lt. s.before k h lt) (λ ge. let here = least_at low middle k (omega (arith, s.within)) ge u in omega arith) (cases_lt k low);
        }

    pub one_left : high ≤ low + 1 → reading ≡ least i j → IsThinnest xs i j (spot_at reading low)
    one_left last whole =
        let one : high ≡ low + 1 = omega (arith, s.order) in
        record {
          from = s.from;
          below = omega (arith, s.order, s.within);
          there = sym (least_one low (omega (arith, s.order, s.within))) ∙ ap (least low) (sym one) ∙ s.holds;
          least = λ k h u. let all = least_at i j k inside h u in omega arith;
          first = s.before;
        }
