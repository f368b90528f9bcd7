-- What the rules of a list come to once it is known which case there is.
use Rattle.std.proofs.Common.{◌≡◌, ℕ, zero, suc, ◌+◌, ◌-◌, ◌<◌, ◌≤◌, cond, eqb, ltb, List, [], ◌∷◌, ◌++◌, length, get_or, take, drop, set, Ok, Err, Result, sym, ap, ◌∙◌, ⊎_elim, suc-le-suc, zero-le, arith}
use Rattle.std.specs.List.{between, insert, remove}
use Rattle.std.proofs.lemmas.List.{take-take, take-append-drop, drop-take, drop-drop}
use Rattle.std.proofs.lemmas.List.Edits.{between_none, between_more}
use Rattle.std.proofs.lemmas.Option.{slice_get_past}
use Rattle.std.proofs.lemmas.Slice.{between_is}
use Rattle.std.proofs.lemmas.Bool.Decides.{nat_tests}
use Rattle.std.proofs.lemmas.Bool.{lt-ltb, le-ltb, ltb-false, cases_Bool, cases_lt}
use Rattle.refusals.specs.declared.Refusal.{Refusal}
use Rattle.refusals.specs.declared.Refusal.TheVariants.{Full}
use Rattle.sequences.specs.Lists.{no_place, found, insert_answer, insert_list, place_answer, delete_list, replace_list, element_answer, ranged}

module _ {E : Type 0} (xs : List E) (i : ℕ) where
  pub element_none : length xs ≤ i → element_answer xs i ≡ Err no_place
  element_none past = ap found (slice_get_past xs i past)

  pub place_none : length xs ≤ i → place_answer xs i ≡ Err no_place
  place_none past = ap (λ t. cond t (Ok tt) (Err no_place)) (le-ltb i (length xs) past)

  pub replaced : (e : E) → i < length xs → replace_list xs i e ≡ set xs i e
  replaced e within = ap (λ t. cond t (set xs i e) xs) (lt-ltb i (length xs) within)

  pub deleted : i < length xs → delete_list xs i ≡ remove xs i
  deleted within = ap (λ t. cond t (remove xs i) xs) (lt-ltb i (length xs) within)

-- an insertion that is not refused
module _ {E : Type 0} (xs : List E) (room i : ℕ) where
  pub inserted : (e : E) → i ≤ length xs → length xs < room → insert_list xs room i e ≡ insert xs i e
  inserted e within free = grind (arith, nat_tests)

pub range_there : {E X : Type 0} (why : Refusal) (xs : List E) (i j : ℕ) (x : X) → i ≤ j → j ≤ length xs → ranged why xs i j x ≡ Ok x
range_there why xs i j x order within =
    ap (λ t. cond t (Err why) (cond (ltb (length xs) j) (Err why) (Ok x))) (le-ltb j i order)
    ∙ ap (λ t. cond t (Err why) (Ok x)) (le-ltb (length xs) j within)

-- a range of a front part is one of the whole
pub between_take : {E : Type 0} (xs : List E) (i j n : ℕ) → j ≤ n → between i j (take n xs) ≡ between i j xs
between_take xs i j n le = between_is (take n xs) i j ∙ ap (drop i) (take-take j n xs le) ∙ sym (between_is xs i j)

-- a range is its two parts on either side of a place between its ends
pub between_split : {E : Type 0} (xs : List E) (i k j : ℕ) → i ≤ k → k ≤ j → between i j xs ≡ between i k xs ++ between k j xs
between_split xs i k j low high =
    let ys = drop i xs in
    let n = k - i in
    let m = j - k in
    let wide : j - i ≡ n + m = omega arith in
    let place : i + n ≡ k = omega arith in
    ap (λ w. take w ys) wide
    ∙ sym (take-append-drop n (take (n + m) ys))
    ∙ ap (λ front. front ++ drop n (take (n + m) ys)) (take-take n (n + m) ys (omega arith))
    ∙ ap (λ back. take n ys ++ back) (drop-take n m ys ∙ ap (take m) (drop-drop n i xs ∙ ap (λ p. drop p xs) place))

-- a range of one element
pub between_one : {E : Type 0} (xs : List E) (i : ℕ) (d : E) → i < length xs → between i (i + 1) xs ≡ get_or xs i d ∷ []
between_one xs i d within =
    between_more xs i i d (omega arith) within ∙ ap (λ none. none ++ (get_or xs i d ∷ [])) (between_none xs i)

-- back from the answer to the case
pub element_found : {E : Type 0} (xs : List E) (i : ℕ) (x : E) → element_answer xs i ≡ Ok x → (i < length xs) × ((d : E) → x ≡ get_or xs i d)
element_found [] i x told = let z : ◌≡◌ {A = ℕ} 0 1 = cc in absurd (omega arith)
element_found (y ∷ ys) zero x told = let same : x ≡ y = cc in (suc-le-suc zero-le, λ d. same)
element_found (y ∷ ys) (suc i) x told = let rest = element_found ys i x told in (suc-le-suc rest.0, rest.1)

pub element_missing : {E : Type 0} (xs : List E) (i : ℕ) (why : Refusal) → element_answer xs i ≡ Err why → (length xs ≤ i) × (why ≡ no_place)
element_missing [] i why told = let same : why ≡ no_place = cc in (zero-le, same)
element_missing (y ∷ ys) zero why told = let z : ◌≡◌ {A = ℕ} 0 1 = cc in absurd (omega arith)
element_missing (y ∷ ys) (suc i) why told = let rest = element_missing ys i why told in (suc-le-suc rest.0, rest.1)

-- the answers of edits depend on the length of the list alone
pub insert_by_length : {E F : Type 0} (xs : List E) (ys : List F) (room i : ℕ) → length xs ≡ length ys → insert_answer xs room i ≡ insert_answer ys room i
insert_by_length xs ys room i same = ap (λ n. cond (ltb n i) (Err no_place) (cond (eqb n room) (Err Full) (Ok tt))) same

pub place_by_length : {E F : Type 0} (xs : List E) (ys : List F) (i : ℕ) → length xs ≡ length ys → place_answer xs i ≡ place_answer ys i
place_by_length xs ys i same = ap (λ n. cond (ltb i n) (Ok tt) (Err no_place)) same

pub ranged_by_length : {E F X : Type 0} (why : Refusal) (xs : List E) (ys : List F) (i j : ℕ) (x : X) → length xs ≡ length ys → ranged why xs i j x ≡ ranged why ys i j x
ranged_by_length why xs ys i j x same = ap (λ n. cond (ltb j i) (Err why) (cond (ltb n j) (Err why) (Ok x))) same

-- an answer is no refusal
pub not_both : {T : Type 0} {x : T} {why : Refusal} → ◌≡◌ {A = Result T Refusal} (Ok x) (Err why) → ⊥
not_both e = let z : ◌≡◌ {A = ℕ} 0 1 = cc in omega arith

-- an accepted insert was within the list, and made the list that it should
pub insert_accepted : {E : Type 0} (xs : List E) (room i : ℕ) (e : E) → insert_answer xs room i ≡ Ok tt → (i ≤ length xs) × (insert_list xs room i e ≡ insert xs i e)
insert_accepted xs room i e told =
    ⊎_elim
    (λ past. absurd (not_both (sym told ∙ ap (λ t. cond t (Err no_place) (cond (eqb (length xs) room) (Err Full) (Ok tt))) past)))
    (λ within.
    let told-on = sym (ap (λ t. cond t (Err no_place) (cond (eqb (length xs) room) (Err Full) (Ok tt))) within) ∙ told in
    ⊎_elim
    (λ full. absurd (not_both (sym told-on ∙ ap (λ t. cond t (Err Full) (Ok tt)) full)))
    (λ free. (ltb-false (length xs) i within, ap (λ t. cond t xs (cond (eqb (length xs) room) xs (insert xs i e))) within ∙ ap (λ t. cond t xs (insert xs i e)) free))
    (cases_Bool (eqb (length xs) room)))
    (cases_Bool (ltb (length xs) i))

pub place_accepted : {E : Type 0} (xs : List E) (i : ℕ) → place_answer xs i ≡ Ok tt → i < length xs
place_accepted xs i told =
    ⊎_elim
    (λ within. within)
    (λ past. absurd (not_both (sym told ∙ place_none xs i past)))
    (cases_lt i (length xs))

-- a range of which something is told is there, and one that is refused is refused whatever would be told of it
module _ {E : Type 0} (why : Refusal) (xs : List E) (i j : ℕ) where
  pub range_told : {X : Type 0} (x y : X) → ranged why xs i j x ≡ Ok y → (i ≤ j) × (j ≤ length xs) × (y ≡ x)
  range_told x y told = grind (arith, nat_tests)

  pub range_nowhere : {X : Type 0} (x : X) → (i ≤ j → j ≤ length xs → ⊥) → ranged why xs i j x ≡ Err why
  range_nowhere x never =
      ⊎_elim
      (λ back. ap (λ t. cond t (Err why) (cond (ltb (length xs) j) (Err why) (Ok x))) (lt-ltb j i back))
      (λ order. ⊎_elim
      (λ past. ap (λ t. cond t (Err why) (cond (ltb (length xs) j) (Err why) (Ok x))) (le-ltb j i order) ∙ ap (λ t. cond t (Err why) (Ok x)) (lt-ltb (length xs) j past))
      (λ within. absurd (never order within))
      (cases_lt (length xs) j))
      (cases_lt j i)
