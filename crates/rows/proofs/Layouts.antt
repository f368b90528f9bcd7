-- From what the type of a tree says to its layout, and back.
use Rattle.std.proofs.Common.{◌≡◌, ℕ, zero, suc, ◌<◌, ◌≤◌, List, [], ◌∷◌, length, get_or, Some, None, Option, sym, refl, ap, ◌∙◌, ap₂, subst₂, arith}
use mathlib.Core.Logic.{∥∥₁_elim, ∥∥₁_map}
use native.Mathlib.Nat.{ℕ_set}
use native.Mathlib.Bridge.{le_prop}
use Rattle.std.specs.List.{slice_get}
use Rattle.std.proofs.lemmas.Option.{slice_get_read, slice_get-get_or}
use Rattle.kinds.specs.Rules.{Rule}
use Rattle.rows.specs.FreeList.{FreeList}
use Rattle.rows.specs.Layouts.{read_from, read, shape_of, onward, follow, free_of, Layout, Laid, Sound}
use Rattle.rows.specs.Shape.{Shape, leaf, node, link, count_of, depth_of, row_of, Lies, Balanced, Rooted, Told}
use Rattle.rows.specs.declared.Heads.{Heads}
use Rattle.rows.specs.declared.Row.{Row}
use Rattle.rows.proofs.Depths.{shallow}

module _ {E S : Type 0} (rows : List (Row E S)) where
  -- the tree that is read is the one that lies there
  read_is : (n : ℕ) (side : Option ℕ) (t : Shape E S) → Rooted rows side t → depth_of t ≤ n → read rows n side ≡ t
  unfolding read
  read_is zero side leaf s h = refl
  read_is (suc n) side leaf s h = ap (read rows (suc n)) s.0
  read_is zero side (node p x l r) s h = absurd (omega arith)
  read_is (suc n) side (node p x l r) s h =
      let k = s.1 in
      let row : slice_get rows p ≡ Some (row_of x l r) = slice_get_read rows (length rows) p (row_of x l r) refl k.0 (sym k.1) in
      ap (read rows (suc n)) s.0 ∙ ap (λ z. read_from p z (λ v. read rows n v)) row
      ∙ ap₂ (λ a b. node p x a b) (read_is n (link l) l (refl, k.2) (omega arith)) (read_is n (link r) r (refl, k.3) (omega arith))

some_row : {E S : Type 0} (rows : List (Row E S)) (p : ℕ) → p < length rows → Row E S
some_row [] p h = absurd (omega arith)
some_row (r ∷ rs) p h = r

module _ {E S : Type 0} (rows : List (Row E S)) where
  follow_is : (n : ℕ) (free : Option ℕ) (fs : List ℕ) → FreeList rows free fs → length fs ≤ n → follow rows n free ≡ fs
  unfolding follow
  follow_is zero free [] c h = refl
  follow_is (suc n) free [] c h = ap (follow rows (suc n)) c
  follow_is zero free (p ∷ ps) c h = absurd (omega arith)
  follow_is (suc n) free (p ∷ ps) c h =
      let d = some_row rows p c.1 in
      ap (follow rows (suc n)) c.0 ∙ ap (λ z. p ∷ onward z (λ v. follow rows n v)) (slice_get-get_or rows p d c.1)
      ∙ ap (λ z. p ∷ z) (follow_is n (get_or rows p d).left ps (c.2 d) (omega arith))

pub shape_none : {E S : Type 0} (rows : List (Row E S)) → shape_of rows None ≡ leaf
unfolding shape_of read
shape_none rows = refl

module _ {E S : Type 0} {rows : List (Row E S)} {heads : Heads} {t : Shape E S} {fs : List ℕ} (s : Layout rows heads t fs) where
  pub few : count_of t ≤ 4096
  few =
      omega arith

  pub shape_is : shape_of rows heads.top ≡ t
  unfolding shape_of
  shape_is = read_is rows 16 heads.top t s.rooted (shallow t s.balanced few)

  free_is : free_of rows heads.free ≡ fs
  unfolding free_of
  free_is =
      follow_is rows 4096 heads.free fs s.free_list (omega arith)

  pub laid : Laid rows heads
  laid = subst₂ (λ a b. Layout rows heads a b) (sym shape_is) (sym free_is) s

-- what holds under a truncation
code : Option ℕ → ℕ
code None = 0
code (Some p) = suc p

code_inj : (a b : Option ℕ) → code a ≡ code b → a ≡ b
unfolding code
code_inj None None e = refl
code_inj None (Some q) e = absurd (omega arith)
code_inj (Some p) None e = absurd (omega arith)
code_inj (Some p) (Some q) e = let z : p ≡ q = omega arith in ap Some z

out_option : {A : Type 0} → ∥ A ∥₁ → (a b : Option ℕ) → (A → a ≡ b) → a ≡ b
out_option h a b f = code_inj a b (∥∥₁_elim h (ℕ_set (code a) (code b)) (λ k. ap code (f k)))

row_path : {E S : Type 0} (a b : Row E S) → a.element ≡ b.element → a.summary ≡ b.summary → a.left ≡ b.left → a.right ≡ b.right → a.depth ≡ b.depth → a.count ≡ b.count → a ≡ b
row_path a b e s l r d c = λ i. record { element = e i; summary = s i; left = l i; right = r i; depth = d i; count = c i }

module _ {E S : Type 0} (se : IsSet E) (ss : IsSet S) (rows : List (Row E S)) where
  lies_out : (t : Shape E S) → ∥ Lies rows t ∥₁ → Lies rows t
  lies_out leaf h = tt
  lies_out (node p x l r) h =
      let a = get_or rows p (row_of x l r) in
      let b = row_of x l r in (
        ∥∥₁_elim h le_prop (λ k. k.0),
        row_path a b (∥∥₁_elim h (se a.element b.element) (λ k. ap (λ z. z.element) k.1)) (∥∥₁_elim h (ss a.summary b.summary) (λ k. ap (λ z. z.summary) k.1))
            (out_option h a.left b.left (λ k. ap (λ z. z.left) k.1)) (out_option h a.right b.right (λ k. ap (λ z. z.right) k.1))
            (∥∥₁_elim h (ℕ_set a.depth b.depth) (λ k. ap (λ z. z.depth) k.1)) (∥∥₁_elim h (ℕ_set a.count b.count) (λ k. ap (λ z. z.count) k.1)),
        lies_out l (∥∥₁_map h (λ k. k.2)),
        lies_out r (∥∥₁_map h (λ k. k.3)),
      )

  balanced_out : (t : Shape E S) → ∥ Balanced t ∥₁ → Balanced t
  balanced_out leaf h = tt
  balanced_out (node p x l r) h = (∥∥₁_elim h le_prop (λ k. k.0), ∥∥₁_elim h le_prop (λ k. k.1), balanced_out l (∥∥₁_map h (λ k. k.2)), balanced_out r (∥∥₁_map h (λ k. k.3)))

  free_out : (free : Option ℕ) (fs : List ℕ) → ∥ FreeList rows free fs ∥₁ → FreeList rows free fs
  free_out free [] h = out_option h free None (λ k. k)
  free_out free (p ∷ ps) h = (out_option h free (Some p) (λ k. k.0), ∥∥₁_elim h le_prop (λ k. k.1), λ d. free_out (get_or rows p d).left ps (∥∥₁_map h (λ k. k.2 d)))

  layout_out : (heads : Heads) (t : Shape E S) (fs : List ℕ) → ∥ Layout rows heads t fs ∥₁ → Layout rows heads t fs
  layout_out heads t fs h =
      record {
        rooted = (out_option h heads.top (link t) (λ k. k.rooted.0), lies_out t (∥∥₁_map h (λ k. k.rooted.1)));
        balanced = balanced_out t (∥∥₁_map h (λ k. k.balanced));
        free_list = free_out heads.free fs (∥∥₁_map h (λ k. k.free_list));
        apart = λ q. ∥∥₁_elim h le_prop (λ k. k.apart q);
        unused = λ q z. ∥∥₁_elim h (ℕ_set _ _) (λ k. k.unused q z);
        many = ∥∥₁_elim h (ℕ_set _ _) (λ k. k.many);
        small = ∥∥₁_elim h le_prop (λ k. k.small);
        within = ∥∥₁_elim h le_prop (λ k. k.within);
      }

  told_out : (m : Rule E S) (t : Shape E S) → ∥ Told m t ∥₁ → Told m t
  told_out m leaf h = tt
  told_out m (node p x l r) h = (∥∥₁_elim h (ss _ _) (λ k. k.0), told_out m l (∥∥₁_map h (λ k. k.1)), told_out m r (∥∥₁_map h (λ k. k.2)))

  pub sound_out : {m : Rule E S} {heads : Heads} → ∥ Sound m rows heads ∥₁ → Sound m rows heads
  sound_out {m} {heads} h = record { laid = layout_out heads (shape_of rows heads.top) (free_of rows heads.free) (∥∥₁_map h (λ k. k.laid)); told = told_out m (shape_of rows heads.top) (∥∥₁_map h (λ k. k.told)) }
