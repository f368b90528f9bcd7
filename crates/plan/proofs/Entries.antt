-- The entries of blocks that were edited: an edit of the blocks is that edit of their entries.
use Rattle.std.proofs.Common.{◌≡◌, ℕ, suc, ◌-◌, List, [], ◌∷◌, ◌++◌, map, length, get_or, take, drop, set, ℤ, sym, refl, ap, ◌∙◌, arith}
use Rattle.std.specs.List.{insert, remove, between}
use Rattle.std.proofs.Math.Seq.{map-set_same}
use Rattle.std.proofs.lemmas.List.{map-append, map-set, take-map, drop-map}
use mathlib.Core.List.{map-map}
use Rattle.motion.specs.declared.blocks.Block.{Block}
use Rattle.motion.specs.declared.moves.Move.{Move}
use Rattle.motion.specs.Figures.{block_of, begun_at, at_percent}
use Rattle.motion.specs.Laid.{overridden, idle, begun_again}
use Rattle.motion.specs.Ranges.{axis}
use Rattle.plan.specs.Keeping.{entry_of}
use Rattle.plan.specs.Models.{place, at_full, changed_in}

-- what is read off each element of a list that was edited
module _ {X Y : Type 0} (f : X → Y) (xs : List X) (i : ℕ) where
  map-front : map f (take i xs) ≡ take i (map f xs)
  map-front = sym (take-map f i xs)

  map-back : (j : ℕ) → map f (drop j xs) ≡ drop j (map f xs)
  map-back j = sym (drop-map f j xs)

  pub map-insert : (x : X) → map f (insert xs i x) ≡ insert (map f xs) i (f x)
  map-insert x = map-append f (take i xs) (x ∷ drop i xs) ∙ (λ k. map-front k ++ (f x ∷ map-back i k))

  pub map-remove : map f (remove xs i) ≡ remove (map f xs) i
  map-remove = map-append f (take i xs) (drop (suc i) xs) ∙ (λ k. map-front k ++ map-back (suc i) k)

  map-between : (j : ℕ) → map f (between i j xs) ≡ between i j (map f xs)
  map-between j = sym (take-map f (j - i) (drop i xs)) ∙ ap (take (j - i)) (map-back i)

  -- where g and h change an element alike
  pub map-changed : (g : X → X) (h : Y → Y) → ((x : X) → f (g x) ≡ h (f x)) → (j : ℕ) → map f (changed_in g xs i j) ≡ changed_in h (map f xs) i j
  map-changed g h same j =
      let part = between i j xs in
      let each = map-map f g part ∙ (λ k. map (λ x. same x k) part) ∙ sym (map-map h f part) ∙ ap (map h) (map-between j) in
      map-append f (take i xs) (map g part ++ drop j xs)
      ∙ ap (λ ys. map f (take i xs) ++ ys) (map-append f (map g part) (drop j xs))
      ∙ (λ k. map-front k ++ (each k ++ map-back j k))

-- a position is its three coordinates
three_axes : (p : List ℤ) → length p ≡ 3 → place (axis p 0) (axis p 1) (axis p 2) ≡ p
three_axes [] long = absurd (omega arith)
three_axes (x ∷ []) long = absurd (omega arith)
three_axes (x ∷ y ∷ []) long = absurd (omega arith)
three_axes (x ∷ y ∷ z ∷ []) long = refl
three_axes (x ∷ y ∷ z ∷ w ∷ more) long = absurd (omega arith)

-- the entry of a block is the move that it was made from
entry_made : (begin : List ℤ) (m : Move) → length m.target ≡ 3 → entry_of (block_of begin m 100) ≡ at_full m
entry_made begin m long = ap (λ p. at_full (record { target = p; acceleration = m.acceleration; feed = m.feed; corner = m.corner })) (three_axes m.target long)

-- where a block begins is no part of its entry
pub entries_begun : (xs : List Block) (i : ℕ) (p : List ℤ) → map entry_of (begun_again xs i p) ≡ map entry_of xs
entries_begun xs i p = map-set_same entry_of xs i (begun_at (get_or xs i idle) p) idle refl

module _ (xs : List Block) (i : ℕ) where
  module _ (begin : List ℤ) (m : Move) (long : length m.target ≡ 3) where
    pub entries_inserted : map entry_of (begun_again (insert xs i (block_of begin m 100)) (suc i) m.target) ≡ insert (map entry_of xs) i (at_full m)
    entries_inserted = entries_begun (insert xs i (block_of begin m 100)) (suc i) m.target ∙ map-insert entry_of xs i (block_of begin m 100) ∙ ap (insert (map entry_of xs) i) (entry_made begin m long)

    pub entries_replaced : map entry_of (begun_again (set xs i (block_of begin m 100)) (suc i) m.target) ≡ set (map entry_of xs) i (at_full m)
    entries_replaced = entries_begun (set xs i (block_of begin m 100)) (suc i) m.target ∙ map-set entry_of xs i (block_of begin m 100) ∙ ap (set (map entry_of xs) i) (entry_made begin m long)

  pub entries_removed : (p : List ℤ) → map entry_of (begun_again (remove xs i) i p) ≡ remove (map entry_of xs) i
  entries_removed p = entries_begun (remove xs i) i p ∙ map-remove entry_of xs i

pub entries_overridden : (xs : List Block) (i j percent : ℕ) → map entry_of (changed_in (λ b. at_percent b percent) xs i j) ≡ changed_in (λ e. overridden e percent) (map entry_of xs) i j
entries_overridden xs i j percent = map-changed entry_of xs i (λ b. at_percent b percent) (λ e. overridden e percent) (λ b. refl) j
