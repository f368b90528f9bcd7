-- One element more of a range that is changed element by element, and the blocks of moves that are overridden so.
use Rattle.std.proofs.Common.{◌≡◌, ℕ, zero, suc, ◌+◌, ◌-◌, ◌<◌, ◌≤◌, true, cond, List, [], ◌∷◌, ◌++◌, map, length, get_or, take, drop, set, ℤ, Ok, Err, sym, refl, ap, ◌∙◌, subst, add-zero, arith}
use Rattle.std.specs.List.{between}
use Rattle.std.proofs.lemmas.List.Edits.{between_none, map_over_more}
use Rattle.std.proofs.lemmas.List.{take-append-drop, drop-drop, length-drop, length-take-le, set-append_right, get_or-append_right}
use Rattle.std.proofs.lemmas.Bool.Decides.{nat_tests}
use Rattle.refusals.specs.declared.Refusal.TheVariants.{Override}
use Rattle.sequences.specs.Lists.{ranged}
use Rattle.sequences.proofs.Rulings.{range_told}
use Rattle.motion.specs.declared.blocks.Block.{Block}
use Rattle.motion.specs.Figures.{at_percent}
use Rattle.motion.specs.Laid.{Entry, laid, overridden, idle}
use Rattle.motion.proofs.Laying.{laid_length, laid_override}
use Rattle.plan.specs.Keeping.{Lie, entry_of, modelled}
use Rattle.plan.specs.Models.{no_range, percent_fits, override_told, changed_in}
use Rattle.plan.proofs.Accepted.{all_changed}
use Rattle.plan.proofs.Editing.{as_many, ranged_answered, lie_along}
use Rattle.plan.proofs.Entries.{entries_overridden}

-- what is read may as well be the default
get_or_again : {E : Type 0} (xs : List E) (n : ℕ) (d : E) → get_or xs n (get_or xs n d) ≡ get_or xs n d
get_or_again [] n d = refl
get_or_again (x ∷ xs) zero d = refl
get_or_again (x ∷ xs) (suc n) d = get_or_again xs n d

module _ {E : Type 0} (f : E → E) (xs : List E) (i : ℕ) where
  pub changed_none : changed_in f xs i i ≡ xs
  changed_none = ap (λ none. take i xs ++ (map f none ++ drop i xs)) (between_none xs i) ∙ take-append-drop i xs

  -- the range by how far it goes
  abbrev tail : ℕ → List E
  tail n = map f (take n (drop i xs)) ++ drop n (drop i xs)

  changed_tail : (k : ℕ) → i ≤ k → changed_in f xs i k ≡ take i xs ++ tail (k - i)
  changed_tail k low =
      let up : i + (k - i) ≡ k = omega arith in
      ap (λ rest. take i xs ++ (map f (between i k xs) ++ rest)) (ap (λ n. drop n xs) (sym up) ∙ sym (drop-drop (k - i) i xs))

  pub changed_more : (k : ℕ) (d : E) → i ≤ k → k < length xs → set (changed_in f xs i k) k (f (get_or (changed_in f xs i k) k d)) ≡ changed_in f xs i (k + 1)
  changed_more k d low high =
      let n = k - i in
      let ys = tail n in
      let x = get_or ys n d in
      let front : length (take i xs) ≡ i = length-take-le i xs (omega arith) in
      let inside : n < length (drop i xs) = subst (λ z. n < z) (sym (length-drop i xs)) (omega arith) in
      let read : get_or (changed_in f xs i k) k d ≡ x = ap (λ zs. get_or zs k d) (changed_tail k low) ∙ get_or-append_right (take i xs) ys i k d front low in
      let self : x ≡ get_or ys n x = sym (get_or_again ys n d) in
      let next : (k + 1) - i ≡ n + 1 = omega arith in
      ap (λ z. set (changed_in f xs i k) k (f z)) read
      ∙ ap (λ zs. set zs k (f x)) (changed_tail k low)
      ∙ set-append_right (take i xs) ys i k (f x) front low
      ∙ ap (λ zs. take i xs ++ zs) (map_over_more f (drop i xs) ys n x inside refl self)
      ∙ ap (λ m. take i xs ++ tail m) (sym next)
      ∙ sym (changed_tail (k + 1) (omega arith))

-- an entry to read past the last
abbrev none : Entry
none = record { move = record { target = []; acceleration = 0; feed = 0; corner = 0 }; percent = 0 }

-- the blocks of overridden moves are those blocks at that override
module _ (start : List ℤ) (es : List Entry) (i percent : ℕ) where
  laid_by : (n : ℕ) → i + n ≤ length es → laid start (changed_in (λ e. overridden e percent) es i (i + n)) ≡ changed_in (λ b. at_percent b percent) (laid start es) i (i + n)
  laid_by zero within =
      ap (λ k. laid start (changed_in (λ e. overridden e percent) es i k)) (add-zero i)
      ∙ ap (laid start) (changed_none (λ e. overridden e percent) es i)
      ∙ sym (changed_none (λ b. at_percent b percent) (laid start es) i)
      ∙ ap (changed_in (λ b. at_percent b percent) (laid start es) i) (sym (add-zero i))
  laid_by (suc n) within =
      let k = i + n in
      let next : i + suc n ≡ k + 1 = omega arith in
      let before = changed_in (λ e. overridden e percent) es i k in
      let after = changed_in (λ b. at_percent b percent) (laid start es) i k in
      let here : laid start before ≡ after = laid_by n (omega arith) in
      let some = get_or es 0 none in
      ap (λ m. laid start (changed_in (λ e. overridden e percent) es i m)) next
      ∙ ap (laid start) (sym (changed_more (λ e. overridden e percent) es i k some (omega arith) (omega arith)))
      ∙ laid_override start before k percent some
      ∙ ap (λ bs. set bs k (at_percent (get_or bs k idle) percent)) here
      ∙ changed_more (λ b. at_percent b percent) (laid start es) i k idle (omega arith) (omega (arith, laid_length start es))
      ∙ ap (changed_in (λ b. at_percent b percent) (laid start es) i) (sym next)

  pub laid_changed : (j : ℕ) → i ≤ j → j ≤ length es → laid start (changed_in (λ e. overridden e percent) es i j) ≡ changed_in (λ b. at_percent b percent) (laid start es) i j
  laid_changed j low high =
      let up : i + (j - i) ≡ j = omega arith in
      subst (λ k. laid start (changed_in (λ e. overridden e percent) es i k) ≡ changed_in (λ b. at_percent b percent) (laid start es) i k) up (laid_by (j - i) (omega arith))

module _ (start : List ℤ) (xs : List Block) (i j percent : ℕ) (fit : percent_fits percent ≡ true) where
  pub override_answered : (room : ℕ) → override_told (modelled start room xs) i j percent ≡ ranged no_range xs i j tt
  override_answered room = ap (λ t. cond t (ranged no_range (map entry_of xs) i j tt) (Err Override)) fit ∙ ranged_answered xs i j tt

  pub overridden_there : (ys : List Block) → Lie start xs → ranged {X = Unit {0}} no_range xs i j tt ≡ Ok tt → ys ≡ changed_in (λ x. at_percent x percent) xs i j → (map entry_of ys ≡ changed_in (λ e. overridden e percent) (map entry_of xs) i j) × Lie start ys
  overridden_there ys lie told made =
      let es = map entry_of xs in
      let there = range_told no_range xs i j tt tt told in
      let low : 10 ≤ percent = grind (arith, nat_tests) in
      let high : percent ≤ 200 = grind (arith, nat_tests) in
      let entries = ap (map entry_of) made ∙ entries_overridden xs i j percent in
      let along : ys ≡ laid start (changed_in (λ e. overridden e percent) es i j) =
      made ∙ ap (λ zs. changed_in (λ x. at_percent x percent) zs i j) lie.along ∙ sym (laid_changed start es i percent j there.0 (omega (arith, there.1, as_many xs))) in
      (entries, lie_along start xs lie ys _ (all_changed es i lie.entries (λ e. overridden e percent) (λ e v. record { move = v.move; least = low; most = high }) j) along entries)
