-- How the summary of a list is made of the summaries of its parts.
use Rattle.std.proofs.Common.{◌≡◌, ℕ, ◌+◌, ◌<◌, ◌≤◌, List, [], ◌∷◌, ◌++◌, length, get_or, drop, sym, refl, ap, ◌∙◌}
use Rattle.std.proofs.lemmas.List.{at_drop_more, at_drop_all}
use Rattle.kinds.specs.Models.{pair, both}
use Rattle.kinds.specs.Rules.{Rule, Laws, joined_on, summary}

module _ {E S : Type 0} (m : Rule E S) where
  pub joined_on_append : (s : S) (xs ys : List E) → joined_on m s (xs ++ ys) ≡ joined_on m (joined_on m s xs) ys
  joined_on_append s [] ys = refl
  joined_on_append s (x ∷ xs) ys = joined_on_append (m.join s (m.one x)) xs ys

  -- one element more of xs
  pub joined_on_more : (s : S) (xs : List E) (i : ℕ) (x : E) → i < length xs → x ≡ get_or xs i x → joined_on m (m.join s (m.one x)) (drop (i + 1) xs) ≡ joined_on m s (drop i xs)
  joined_on_more s xs i x within read =
      let stepped : joined_on m s (drop i xs) ≡ joined_on m (m.join s (m.one (get_or xs i x))) (drop (i + 1) xs) = at_drop_more (joined_on m s) xs i x within in
      ap (λ y. joined_on m (m.join s (m.one y)) (drop (i + 1) xs)) read ∙ sym stepped

  pub joined_on_all : (s : S) (xs : List E) (i : ℕ) → length xs ≤ i → joined_on m s (drop i xs) ≡ s
  joined_on_all s xs i past = at_drop_all (joined_on m s) xs i past

module _ {E S : Type 0} {valid : S → Type 0} {m : Rule E S} (laws : Laws valid m) where
  joined_on_valid : (s : S) (xs : List E) → valid s → valid (joined_on m s xs)
  joined_on_valid s [] v = v
  joined_on_valid s (x ∷ xs) v = joined_on_valid (m.join s (m.one x)) xs (laws.join_valid s (m.one x) v (laws.one_valid x))

  pub summary_valid : (xs : List E) → valid (summary m xs)
  summary_valid xs = joined_on_valid m.unit xs laws.unit_valid

  pub summary_one : (x : E) → summary m (x ∷ []) ≡ m.one x
  summary_one x = laws.unit_left (m.one x) (laws.one_valid x)

  -- what is joined on may be summed up first
  pub joined_on_from : (s : S) (xs : List E) → valid s → joined_on m s xs ≡ m.join s (summary m xs)
  joined_on_from s [] v = sym (laws.unit_right s v)
  joined_on_from s (x ∷ xs) v =
      let o = laws.one_valid x in
      joined_on_from (m.join s (m.one x)) xs (laws.join_valid s (m.one x) v o)
      ∙ laws.assoc s (m.one x) (summary m xs) v o (summary_valid xs)
      ∙ ap (m.join s) (sym (ap (λ z. joined_on m z xs) (laws.unit_left (m.one x) o) ∙ joined_on_from (m.one x) xs o))

  pub summary_append : (xs ys : List E) → summary m (xs ++ ys) ≡ m.join (summary m xs) (summary m ys)
  summary_append xs ys = joined_on_append m m.unit xs ys ∙ joined_on_from (summary m xs) ys (summary_valid xs)

  pub summary_cons : (x : E) (xs : List E) → summary m (x ∷ xs) ≡ m.join (m.one x) (summary m xs)
  summary_cons x xs = summary_append (x ∷ []) xs ∙ ap (λ z. m.join z (summary m xs)) (summary_one x)

-- a part of a summary by two kinds is the summary by one of them
module _ {E S T : Type 0} (m : Rule E S) (n : Rule E T) where
  joined_on_both : (s : S) (t : T) (xs : List E) → joined_on (both m n) (pair s t) xs ≡ pair (joined_on m s xs) (joined_on n t xs)
  joined_on_both s t [] = refl
  joined_on_both s t (x ∷ xs) = joined_on_both (m.join s (m.one x)) (n.join t (n.one x)) xs

  pub summary_both : (xs : List E) → summary (both m n) xs ≡ pair (summary m xs) (summary n xs)
  summary_both xs = joined_on_both m.unit n.unit xs
