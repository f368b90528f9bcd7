-- A node over two sides, told by what is on a hand of it and what is on the other.
use Rattle.std.proofs.Common.{◌≡◌, ℕ, ◌+◌, ◌<◌, ◌≤◌, max, List, ◌∷◌, ◌++◌, length, get_or, Some, Option, sym, refl, subst, subst₂, append_assoc, arith}
use Rattle.kinds.specs.Rules.{Rule}
use Rattle.rows.specs.Edits.{Refreshed, Sides}
use Rattle.rows.specs.Hands.{left_by, right_by}
use Rattle.rows.specs.Shape.{Shape, Cell, node, count_of, depth_of, elements, same, times, node_of, Balanced, Lies, Rooted, Told}
use Rattle.rows.specs.declared.Row.{Row}
use Rattle.rows.specs.declared.balance.Hand.{Hand}
use Rattle.rows.specs.declared.balance.Hand.TheVariants.{Left, Right}
use Rattle.rows.proofs.Frames.{put_node}
use Rattle.rows.proofs.Nodes.{top_row}

abbrev pub list_by : {E : Type 0} → Hand → List E → E → List E → List E
list_by h near x far = left_by h near far ++ (x ∷ right_by h near far)

-- what a rotation leaves as it is
pub regrouped : {E : Type 0} (h : Hand) (xs : List E) (x : E) (ys : List E) (y : E) (zs : List E) → list_by h xs x (list_by h ys y zs) ≡ list_by h (list_by h xs x ys) y zs
regrouped Left xs x ys y zs = sym (append_assoc xs (x ∷ ys) (y ∷ zs))
regrouped Right xs x ys y zs = append_assoc zs (y ∷ ys) (x ∷ xs)

module _ {E S : Type 0} where
  abbrev pub over : Hand → Rule E S → ℕ → E → Shape E S → Shape E S → Shape E S
  over h m p e u v = node_of m p e (left_by h u v) (right_by h u v)

  pub record Comes (h : Hand) (t : Shape E S) (p : ℕ) (e : E) (u v : Shape E S) : Type 0 where
    pub depth : depth_of t ≡ max (depth_of u) (depth_of v) + 1
    pub count : count_of t ≡ count_of u + count_of v + 1
    pub places : (k : ℕ) → times k t ≡ times k u + times k v + same k p
    pub list : elements t ≡ list_by h (elements u) e (elements v)

  comes : (h : Hand) (p : ℕ) (x : Cell E S) (u v : Shape E S) → Comes h (node p x (left_by h u v) (right_by h u v)) p x.element u v
  comes Left p x u v = record { depth = refl; count = refl; places = λ k. refl; list = refl }
  comes Right p x u v = record { depth = omega arith; count = omega arith; places = λ k. omega arith; list = refl }

  pub comes_over : (h : Hand) (m : Rule E S) (p : ℕ) (e : E) (u v : Shape E S) → Comes h (over h m p e u v) p e u v
  comes_over Left m p e u v = comes Left p _ u v
  comes_over Right m p e u v = comes Right p _ u v

  pub balanced_over : (h : Hand) (m : Rule E S) (p : ℕ) (e : E) (u v : Shape E S) → depth_of u ≤ depth_of v + 1 → depth_of v ≤ depth_of u + 1 → Balanced u → Balanced v → Balanced (over h m p e u v)
  balanced_over Left m p e u v a b bu bv = (a, b, bu, bv)
  balanced_over Right m p e u v a b bu bv = (b, a, bv, bu)

  pub told_over : (h : Hand) (m : Rule E S) (p : ℕ) (e : E) (u v : Shape E S) → Told m u → Told m v → Told m (over h m p e u v)
  told_over Left m p e u v tu tv = (refl, tu, tv)
  told_over Right m p e u v tu tv = (refl, tv, tu)

  pub put_over : (h : Hand) {m : Rule E S} {rows more : List (Row E S)} {p : ℕ} {e : E} (u v : Shape E S) → Refreshed m rows p e (left_by h u v) (right_by h u v) more → p < length rows → times p u + times p v ≡ 0 → Lies rows u → Lies rows v → Lies more (over h m p e u v)
  put_over Left u v w within apart ku kv = put_node w within apart ku kv
  put_over Right u v w within apart ku kv = put_node w within (omega arith) kv ku

  -- a balanced tree, taken apart by a hand at the row that was read at its top
  pub record Opened (h : Hand) (rows : List (Row E S)) (q : ℕ) (f : E) (near far : Option ℕ) (t : Shape E S) : Type 0 where
    pub u : Shape E S
    pub v : Shape E S
    pub comes : Comes h t q f u v
    pub within : q < length rows
    pub near_is : Rooted rows near u
    pub far_is : Rooted rows far v
    pub near_low : depth_of u ≤ depth_of v + 1
    pub far_low : depth_of v ≤ depth_of u + 1
    pub near_balanced : Balanced u
    pub far_balanced : Balanced v
    pub told : (m : Rule E S) → Told m t → Told m u × Told m v

  open_node : (h : Hand) {rows : List (Row E S)} {q : ℕ} {x : Cell E S} {left right : Option ℕ} (l r : Shape E S) → q < length rows → Rooted rows left l → Rooted rows right r → Balanced (node q x l r) → Opened h rows q x.element (left_by h left right) (right_by h left right) (node q x l r)
  open_node Left {q} {x} l r within sl sr b = record { u = l; v = r; comes = comes Left q x l r; within = within; near_is = sl; far_is = sr; near_low = b.0; far_low = b.1; near_balanced = b.2; far_balanced = b.3; told = λ m t. (t.1, t.2) }
  open_node Right {q} {x} l r within sl sr b = record { u = r; v = l; comes = comes Right q x r l; within = within; near_is = sr; far_is = sl; near_low = b.1; far_low = b.0; near_balanced = b.3; far_balanced = b.2; told = λ m t. (t.2, t.1) }

  pub opened_by : (h : Hand) {rows : List (Row E S)} {row : Row E S} {side : Option ℕ} {sides : Option ℕ × Option ℕ} {q : ℕ} (t : Shape E S) → side ≡ Some q → Rooted rows side t → Balanced t → ((d : Row E S) → row ≡ get_or rows q d) → sides ≡ (left_by h row.left row.right, right_by h row.left row.right) → Opened h rows q row.element sides.0 sides.1 t
  opened_by h {rows} {row} {sides} {q} t at s b read order =
      let n = top_row t at read s in
      let o = open_node h n.l n.r n.rooted.1.0 n.left n.right (subst Balanced n.is b) in
      subst (λ z. Opened h rows q row.element sides.0 sides.1 z) (sym n.is)
      (subst₂ (λ z (y : Option ℕ × Option ℕ). Opened h rows q z y.0 y.1 (node q n.x n.l n.r)) (sym n.element) (sym order) o)

  pub sides_by : (h : Hand) {rows : List (Row E S)} (near far : Option ℕ) → Sides rows near far → Sides rows (left_by h near far) (right_by h near far)
  sides_by Left near far s = s
  sides_by Right near far s = record { l = s.r; r = s.l; left_is = s.right_is; right_is = s.left_is; few = omega (arith, s.few); low = omega (arith, s.low) }
