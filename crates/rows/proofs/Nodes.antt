-- A tree, and the row at its top.
use Rattle.std.proofs.Common.{◌≡◌, ℕ, ◌<◌, List, ◌∷◌, length, get_or, Some, None, Option, sym, refl, ap, ◌∙◌, subst, arith, length-append}
use Rattle.std.proofs.lemmas.Option.{slice_get_read}
use Rattle.rows.specs.Shape.{Shape, Cell, leaf, node, link, count_of, depth_of, elements, row_of, Rooted, depth_at, depth_in}
use Rattle.rows.specs.declared.Row.{Row}

pub length_elements : {E S : Type 0} (t : Shape E S) → length (elements t) ≡ count_of t
length_elements leaf = refl
length_elements (node p x l r) =
    let a = length_elements l in
    let b = length_elements r in
    length-append (elements l) (x.element ∷ elements r) ∙ omega arith

pub is_leaf : {E S : Type 0} (t : Shape E S) → None ≡ link t → t ≡ leaf
is_leaf leaf h = refl
is_leaf (node q x l r) h = let z : ◌≡◌ {A = ℕ} 0 1 = cc in absurd (omega arith)

-- a tree that a link leads to
pub record Node {E S : Type 0} (t : Shape E S) (p : ℕ) : Type 0 where
  pub x : Cell E S
  pub l : Shape E S
  pub r : Shape E S
  pub is : t ≡ node p x l r

pub opened : {E S : Type 0} (t : Shape E S) (p : ℕ) → Some p ≡ link t → Node t p
opened leaf p h = let z : ◌≡◌ {A = ℕ} 0 1 = cc in absurd (omega arith)
opened (node q x l r) p h = let z : q ≡ p = cc in record { x = x; l = l; r = r; is = ap (λ k. node k x l r) z }

-- the depth that the rows have is the tree's
pub depth_is : {E S : Type 0} (rows : List (Row E S)) (side : Option ℕ) (t : Shape E S) → Rooted rows side t → depth_at rows side ≡ depth_of t
depth_is rows side leaf s = ap (depth_at rows) s.0
depth_is rows side (node p x l r) s =
    let k = s.1 in
    ap (depth_at rows) s.0 ∙ ap depth_in (slice_get_read rows (length rows) p (row_of x l r) refl k.0 (sym k.1))

-- the row that was read at the top of a tree, with the tree's sides
pub record TopRow {E S : Type 0} (rows : List (Row E S)) (side : Option ℕ) (row : Row E S) (p : ℕ) (t : Shape E S) : Type 0 where
  pub x : Cell E S
  pub l : Shape E S
  pub r : Shape E S
  pub is : t ≡ node p x l r
  pub rooted : Rooted rows side (node p x l r)
  pub row_is : row ≡ row_of x l r
  pub left : Rooted rows row.left l
  pub right : Rooted rows row.right r
  pub element : row.element ≡ x.element

pub top_row : {E S : Type 0} {rows : List (Row E S)} {side : Option ℕ} {row : Row E S} {p : ℕ} (t : Shape E S) → side ≡ Some p → ((d : Row E S) → row ≡ get_or rows p d) → Rooted rows side t → TopRow rows side row p t
top_row {rows} {side} {row} {p} t at read s =
    let n = opened t p (sym at ∙ s.0) in
    let o = subst (Rooted rows side) n.is s in
    let row_is = read (row_of n.x n.l n.r) ∙ o.1.1 in
    record {
      x = n.x;
      l = n.l;
      r = n.r;
      is = n.is;
      rooted = o;
      row_is = row_is;
      left = (ap (λ z. z.left) row_is, o.1.2);
      right = (ap (λ z. z.right) row_is, o.1.3);
      element = ap (λ z. z.element) row_is;
    }

-- the depth falls with each step down
module _ {E S : Type 0} {rows : List (Row E S)} {side : Option ℕ} {row : Row E S} {p : ℕ} {t : Shape E S} (n : TopRow rows side row p t) {k : ℕ} (measured : depth_at rows side ≡ k) (below : Option ℕ) where
  pub falls_left : Rooted rows below n.l → depth_at rows below < k
  falls_left s =
      let a = depth_is rows below n.l s in
      let b = depth_is rows side (node p n.x n.l n.r) n.rooted in
      omega arith

  pub falls_right : Rooted rows below n.r → depth_at rows below < k
  falls_right s =
      let a = depth_is rows below n.r s in
      let b = depth_is rows side (node p n.x n.l n.r) n.rooted in
      omega arith
