-- One side of a row was edited: the row is put over it again.
use Rattle.std.proofs.Common.{◌≡◌, ℕ, ◌+◌, ◌<◌, ◌≤◌, max, List, ◌∷◌, ◌++◌, length, Some, Option, refl, ap, ◌∙◌, subst, arith}
use Rattle.kinds.specs.Rules.{Rule}
use Rattle.rows.specs.Edits.{Edit, Rebalance, Rebalanced}
use Rattle.rows.specs.Shape.{Shape, count_of, depth_of, elements, same, times, Balanced, Rooted, Told}
use Rattle.rows.specs.declared.Row.{Row}
use Rattle.rows.proofs.Frames.{lies_kept}

pub mirrored : {E S : Type 0} {rows : List (Row E S)} {p : ℕ} {left right : Option ℕ} {l r : Shape E S} → Rebalance rows p left right l r → Rebalance rows p right left r l
mirrored o = record {
  within = o.within;
  left_is = o.right_is;
  right_is = o.left_is;
  left_balanced = o.right_balanced;
  right_balanced = o.left_balanced;
  near_left = o.near_right;
  near_right = o.near_left;
  places = λ k. omega (arith, o.places k);
  few = omega (arith, o.few);
  low = omega (arith, o.low);
}

-- u is the edit, and the tree s at `other` the other side of the row p
module _ {E S : Type 0} {m : Rule E S} {rows more : List (Row E S)} {side : Option ℕ} {was now : ℕ → ℕ} {xs : List E} {lo hi : ℕ} {T : Type 0} (u : Edit m rows more side was now xs lo hi T) (p : ℕ) (other : Option ℕ) (s : Shape E S) where
  pub record Beside : Type 0 where
    pub within : p < length rows
    pub rooted : Rooted rows other s
    pub balanced : Balanced s
    pub frame : (k : ℕ) → was k + times k s ≤ 1
    pub apart : (k : ℕ) → now k + times k s + same k p ≤ 1
    pub few : count_of u.t + count_of s < 65530
    pub low : max (depth_of u.t) (depth_of s) < 250
    pub near : depth_of u.t ≤ depth_of s + 2
    pub near_s : depth_of s ≤ depth_of u.t + 2

module _ {E S : Type 0} {m : Rule E S} {rows more : List (Row E S)} {side : Option ℕ} {was now : ℕ → ℕ} {xs : List E} {lo hi : ℕ} {T : Type 0} {u : Edit m rows more side was now xs lo hi T} {p : ℕ} {other : Option ℕ} {s : Shape E S} (b : Beside u p other s) where
  still : Rooted more other s
  still = (b.rooted.0, lies_kept rows more s u.long (λ k z pos. u.kept k z (omega (arith, b.frame k))) b.rooted.1)

  here : p < length more
  here = subst (λ n. p < n) u.long b.within

  pub ready_left : Rebalance more p side other u.t s
  ready_left =
      record {
        within = here;
        left_is = u.rooted;
        right_is = still;
        left_balanced = u.balanced;
        right_balanced = b.balanced;
        near_left = b.near;
        near_right = b.near_s;
        places = λ k. omega (arith, b.apart k, u.places k);
        few = b.few;
        low = b.low;
      }

  pub ready_right : Rebalance more p other side s u.t
  ready_right = mirrored ready_left

  -- what the edit of the whole tree is to be
  module _ {was-all now-all : ℕ → ℕ} {T-all : Type 0} (touched : (k : ℕ) → was-all k ≡ 0 → (was k ≡ 0) × (now k + times k s + same k p ≡ 0)) (places : (k : ℕ) → now-all k ≡ now k + times k s + same k p) (told : T-all → T × Told m s) {last : List (Row E S)} {new : ℕ} {ys : List E} {least most : ℕ} where
    finished : {at : ℕ → ℕ} {zs : List E} {lo' hi' : ℕ} {T' : Type 0} (v : Edit m more last (Some new) at at zs lo' hi' T') → ((k : ℕ) → at k ≡ times k u.t + times k s + same k p) → zs ≡ ys → (T-all → T') → least ≤ depth_of v.t → depth_of v.t ≤ most → Edit m rows last (Some new) was-all now-all ys least most T-all
    finished v at list before lower upper = record {
      t = v.t;
      rooted = v.rooted;
      balanced = v.balanced;
      at_least = lower;
      at_most = upper;
      places = λ k. omega (arith, v.places k, at k, u.places k, places k);
      holds = v.holds ∙ list;
      long = u.long ∙ v.long;
      kept = λ k z h. v.kept k z (omega (arith, (touched k h).1, at k, u.places k)) ∙ u.kept k z (touched k h).0;
      told = λ t. v.told (before t);
    }

    pub done_left : {y : E} (a : Rebalanced m more last p y new u.t s) → xs ++ (y ∷ elements s) ≡ ys → least ≤ depth_of a.edit.t → depth_of a.edit.t ≤ most → Edit m rows last (Some new) was-all now-all ys least most T-all
    done_left {y} a list = finished a.edit (λ k. refl) (ap (λ z. z ++ (y ∷ elements s)) u.holds ∙ list) (λ t. (u.told (told t).0, (told t).1))

    pub done_right : {y : E} (a : Rebalanced m more last p y new s u.t) → elements s ++ (y ∷ xs) ≡ ys → least ≤ depth_of a.edit.t → depth_of a.edit.t ≤ most → Edit m rows last (Some new) was-all now-all ys least most T-all
    done_right {y} a list = finished a.edit (λ k. omega arith) (ap (λ z. elements s ++ (y ∷ z)) u.holds ∙ list) (λ t. ((told t).1, u.told (told t).0))
