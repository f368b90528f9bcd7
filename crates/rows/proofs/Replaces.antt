-- A row that is written again over its sides, with another element or over a side that was edited.
use Rattle.std.proofs.Common.{◌≡◌, ℕ, suc, ◌+◌, ◌-◌, ◌<◌, List, ◌∷◌, ◌++◌, length, get_or, set, Option, sym, refl, ap, ◌∙◌, subst, arith, length-set}
use Rattle.std.proofs.lemmas.List.{set-append_left, set-append_right, set_at}
use Rattle.kinds.specs.Rules.{Rule}
use Rattle.rows.specs.Edits.{Refreshed, Sides, Edit, Whole, Replaced}
use Rattle.rows.specs.Shape.{Shape, Cell, node, count_of, depth_of, elements, times, node_of, Balanced, Rooted, Told}
use Rattle.rows.specs.declared.Row.{Row}
use Rattle.rows.proofs.Frames.{same_self, lies_kept, put_node, long_put, kept_put}
use Rattle.rows.proofs.Nodes.{length_elements}

-- the trees s and t stand where l and r stood, with their depths, counts and places
pub record Alike {E S : Type 0} (rows more : List (Row E S)) (left right : Option ℕ) (l r s t : Shape E S) : Type 0 where
  pub long : length rows ≡ length more
  pub kept : (k : ℕ) (z : Row E S) → times k l + times k r ≡ 0 → get_or more k z ≡ get_or rows k z
  pub left_is : Rooted more left s
  pub right_is : Rooted more right t
  pub left_balanced : Balanced s
  pub right_balanced : Balanced t
  pub left_depth : depth_of s ≡ depth_of l
  pub right_depth : depth_of t ≡ depth_of r
  pub left_count : count_of s ≡ count_of l
  pub right_count : count_of t ≡ count_of r
  pub left_places : (k : ℕ) → times k s ≡ times k l
  pub right_places : (k : ℕ) → times k t ≡ times k r

module _ {E S : Type 0} {rows : List (Row E S)} {top : Option ℕ} {p : ℕ} {x : Cell E S} {l r : Shape E S} (o : Whole rows top (node p x l r)) where
  module _ {more : List (Row E S)} {left right : Option ℕ} {s t : Shape E S} (b : Alike rows more left right l r s t) where
    pub alike_within : p < length more
    alike_within = subst (λ z. p < z) b.long o.rooted.1.0

    pub alike_sides : Sides more left right
    alike_sides =
        record { l = s; r = t; left_is = b.left_is; right_is = b.right_is; few = omega (arith, b.left_count, b.right_count); low = omega (arith, b.left_depth, b.right_depth) }

    pub rewritten : {m : Rule E S} {e : E} {last : List (Row E S)} → Refreshed m more p e s t last → {xs : List E} → elements s ++ (e ∷ elements t) ≡ xs → (Told m (node p x l r) → Told m s × Told m t)
        → Edit m rows last top (λ k. times k (node p x l r)) (λ k. times k (node p x l r)) xs (depth_of (node p x l r)) (depth_of (node p x l r)) (Told m (node p x l r))
    rewritten {m} {e} w holds told =
        let h = o.apart p in
        let z = same_self p in
        record {
          t = node_of m p e s t;
          rooted = (o.rooted.0, put_node w alike_within (omega (arith, b.left_places p, b.right_places p)) b.left_is.1 b.right_is.1);
          balanced = (omega arith, omega arith, b.left_balanced, b.right_balanced);
          at_least = omega arith;
          at_most = omega arith;
          places = λ k. omega (arith, b.left_places k, b.right_places k);
          holds = holds;
          long = b.long ∙ long_put w;
          kept = λ k d y. kept_put w k d (omega arith) ∙ b.kept k d (omega arith);
          told = λ q. let u = told q in (refl, u.0, u.1);
        }

  module _ {left right : Option ℕ} (sl : Rooted rows left l) (sr : Rooted rows right r) where
    -- the element is p's
    pub alike_here : Alike rows rows left right l r l r
    alike_here =
        record {
          long = refl;
          kept = λ k z h. refl;
          left_is = sl;
          right_is = sr;
          left_balanced = o.balanced.2;
          right_balanced = o.balanced.3;
          left_depth = refl;
          right_depth = refl;
          left_count = refl;
          right_count = refl;
          left_places = λ k. refl;
          right_places = λ k. refl;
        }

    module _ {m : Rule E S} (e : E) {more : List (Row E S)} where
      -- the element is on the left
      pub alike_left : (i : ℕ) (d : Replaced m rows more i e left l) → Alike rows more left right l r d.t r
      alike_left i d =
          record {
            long = d.long;
            kept = λ k z h. d.kept k z (omega arith);
            left_is = d.rooted;
            right_is = (sr.0, lies_kept rows more r d.long (λ k z pos. d.kept k z (omega (arith, o.apart k))) sr.1);
            left_balanced = d.balanced;
            right_balanced = o.balanced.3;
            left_depth = omega (arith, d.at_least, d.at_most);
            right_depth = refl;
            left_count = sym (length_elements d.t) ∙ ap length d.holds ∙ length-set (elements l) i e ∙ length_elements l;
            right_count = refl;
            left_places = d.places;
            right_places = λ k. refl;
          }

      -- the element is on the right
      pub alike_right : (j : ℕ) (d : Replaced m rows more j e right r) → Alike rows more left right l r l d.t
      alike_right j d =
          record {
            long = d.long;
            kept = λ k z h. d.kept k z (omega arith);
            left_is = (sl.0, lies_kept rows more l d.long (λ k z pos. d.kept k z (omega (arith, o.apart k))) sl.1);
            right_is = d.rooted;
            left_balanced = o.balanced.2;
            right_balanced = d.balanced;
            left_depth = refl;
            right_depth = omega (arith, d.at_least, d.at_most);
            left_count = refl;
            right_count = sym (length_elements d.t) ∙ ap length d.holds ∙ length-set (elements r) j e ∙ length_elements r;
            left_places = λ k. refl;
            right_places = d.places;
          }

  module _ {m : Rule E S} (i : ℕ) (e : E) {last : List (Row E S)} where
    pub replaced_here : {left right : Option ℕ} → Alike rows rows left right l r l r → Refreshed m rows p e l r last → i ≡ count_of l → Replaced m rows last i e top (node p x l r)
    replaced_here b w h = rewritten b w (sym (set_at (elements l) x.element (elements r) e i (length_elements l ∙ sym h))) (λ t. (t.1, t.2))

    module _ {more : List (Row E S)} {left right : Option ℕ} {y : E} (y-is : y ≡ x.element) where
      pub replaced_left : (d : Replaced m rows more i e left l) → Alike rows more left right l r d.t r → Refreshed m more p y d.t r last → i < count_of l → Replaced m rows last i e top (node p x l r)
      replaced_left d b w h =
          rewritten b w
          (ap (λ z. z ++ (y ∷ elements r)) d.holds ∙ ap (λ z. set (elements l) i e ++ (z ∷ elements r)) y-is ∙ sym (set-append_left (elements l) (x.element ∷ elements r) i e (omega (arith, length_elements l))))
          (λ t. (d.told t.1, t.2))

      pub replaced_right : (j : ℕ) (d : Replaced m rows more j e right r) → Alike rows more left right l r l d.t → Refreshed m more p y l d.t last → i ≡ count_of l + suc j → Replaced m rows last i e top (node p x l r)
      replaced_right j d b w h =
          let n : i - length (elements l) ≡ suc j = omega (arith, length_elements l) in
          rewritten b w
          (ap (λ z. elements l ++ (y ∷ z)) d.holds ∙ ap (λ z. elements l ++ (z ∷ set (elements r) j e)) y-is ∙ ap (λ z. elements l ++ set (x.element ∷ elements r) z e) (sym n)
          ∙ sym (set-append_right (elements l) (x.element ∷ elements r) (length (elements l)) i e refl (omega (arith, length_elements l))))
          (λ t. (t.1, d.told t.2))
