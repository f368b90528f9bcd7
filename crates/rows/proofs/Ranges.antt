-- Parts of the list of a tree, and what they come to.
use Rattle.std.proofs.Common.{◌≡◌, ℕ, zero, suc, ◌+◌, ◌-◌, ◌<◌, ◌≤◌, List, [], ◌∷◌, ◌++◌, length, drop, sym, refl, ap, ◌∙◌, arith, length-drop, take_all}
use lib.Seq.{take-append-le, drop-append-le, take-append-add, drop-append-add}
use Rattle.std.specs.List.{slice_get, between}
use Rattle.std.proofs.lemmas.Slice.{between_to_end}
use Rattle.kinds.specs.Rules.{Rule, Laws, summary}
use Rattle.kinds.proofs.Summaries.{summary_append, summary_cons}
use Rattle.rows.specs.Shape.{Shape, leaf, node, stored, elements, Told, Summed}

module _ {E S : Type 0} {valid : S → Type 0} {m : Rule E S} (laws : Laws valid m) where
  -- what an element joins to between two lists
  pub summary_around : (xs ys : List E) (x : E) → summary m (xs ++ (x ∷ ys)) ≡ m.join (summary m xs) (m.join (m.one x) (summary m ys))
  summary_around xs ys x = summary_append laws xs (x ∷ ys) ∙ ap (m.join (summary m xs)) (summary_cons laws x ys)

  pub told_summary : (t : Shape E S) → Told m t → stored m t ≡ summary m (elements t)
  told_summary leaf h = refl
  told_summary (node p x l r) h =
      h.0 ∙ ap (λ z. m.join z (m.join (m.one x.element) (stored m r))) (told_summary l h.1)
      ∙ ap (λ z. m.join (summary m (elements l)) (m.join (m.one x.element) z)) (told_summary r h.2) ∙ sym (summary_around (elements l) (elements r) x.element)

  -- by the laws, the join of what its sides store is the summary of a row's elements, and the other way round
  pub told_summed : (t : Shape E S) → Told m t → Summed m t
  told_summed leaf h = tt
  told_summed (node p x l r) h = (told_summary (node p x l r) h, told_summed l h.1, told_summed r h.2)

  pub summed_told : (t : Shape E S) → Summed m t → Told m t
  summed_told leaf h = tt
  summed_told (node p x l r) h =
      let tl = summed_told l h.1 in
      let tr = summed_told r h.2 in (
        h.0 ∙ summary_around (elements l) (elements r) x.element ∙ ap (λ z. m.join z (m.join (m.one x.element) (summary m (elements r)))) (sym (told_summary l tl))
            ∙ ap (λ z. m.join (stored m l) (m.join (m.one x.element) z)) (sym (told_summary r tr)),
        tl,
        tr,
      )

module _ {E : Type 0} (xs ys : List E) (x : E) (i j : ℕ) where
  pub between_left : i ≤ j → j ≤ length xs → between i j (xs ++ (x ∷ ys)) ≡ between i j xs
  between_left h k =
      let a : i ≤ length xs = omega arith in
      let b : j - i ≤ length (drop i xs) = omega (arith, length-drop i xs) in
      rw (drop-append-le i xs (x ∷ ys) a, take-append-le (j - i) (drop i xs) (x ∷ ys) b)

  pub between_right : (u v : ℕ) → i ≡ length xs + suc u → j ≡ length xs + suc v → between i j (xs ++ (x ∷ ys)) ≡ between u v ys
  between_right u v h k = let a : j - i ≡ v - u = omega arith in rw (a, h, drop-append-add xs (x ∷ ys) (suc u))

  pub between_both : (v : ℕ) → i ≤ length xs → j ≡ length xs + suc v → between i j (xs ++ (x ∷ ys)) ≡ between i (length xs) xs ++ (x ∷ between 0 v ys)
  between_both v h k =
      let a : j - i ≡ length (drop i xs) + suc v = omega (arith, length-drop i xs) in
      let b : length (drop i xs) ≤ length xs - i = omega (arith, length-drop i xs) in
      let c : v - 0 ≡ v = omega arith in
      rw (a, drop-append-le i xs (x ∷ ys) h, take-append-add (drop i xs) (x ∷ ys) (suc v), take_all (length xs - i) (drop i xs) b, c)

pub between_all : {E : Type 0} (xs : List E) (i j : ℕ) → i ≡ 0 → j ≡ length xs → between i j xs ≡ xs
between_all xs i j h k = between_to_end xs i j (omega arith) ∙ ap (λ z. drop z xs) h

pub nth_left : {E : Type 0} (xs ys : List E) (i : ℕ) → i < length xs → slice_get (xs ++ ys) i ≡ slice_get xs i
nth_left [] ys i h = absurd (omega arith)
nth_left (x ∷ xs) ys zero h = refl
nth_left (x ∷ xs) ys (suc i) h = nth_left xs ys i (omega arith)

pub nth_right : {E : Type 0} (xs ys : List E) (i j : ℕ) → i ≡ length xs + j → slice_get (xs ++ ys) i ≡ slice_get ys j
nth_right [] ys i j h = let z : i ≡ j = omega arith in ap (slice_get ys) z
nth_right (x ∷ xs) ys zero j h = absurd (omega arith)
nth_right (x ∷ xs) ys (suc i) j h = nth_right xs ys i j (omega arith)
