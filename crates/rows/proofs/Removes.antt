-- What is left of a tree when a row is taken out.
use Rattle.std.proofs.Common.{◌≡◌, ℕ, suc, ◌+◌, ◌-◌, ◌<◌, List, ◌∷◌, ◌++◌, length, Some, Option, sym, refl, ap, ◌∙◌, arith}
use Rattle.std.specs.List.{remove}
use Rattle.std.proofs.lemmas.List.Edits.{length-remove, remove-append_right}
use Rattle.kinds.specs.Rules.{Rule}
use Rattle.rows.specs.Edits.{Rebalanced, Whole, Taken, RemovedFirst}
use Rattle.rows.specs.Shape.{Shape, Cell, leaf, node, count_of, depth_of, elements, times, Rooted}
use Rattle.rows.specs.declared.Row.{Row}
use Rattle.rows.proofs.Frames.{same_self, same_at, lies_within}
use Rattle.rows.proofs.Nodes.{length_elements}
use Rattle.rows.proofs.SideEdits.{Beside, done_left, done_right}

-- a removal behind x, or of x itself
module _ {E : Type 0} (xs ys : List E) (x : E) (i : ℕ) where
  pub removed_right : (j : ℕ) → i ≡ length xs + suc j → remove (xs ++ (x ∷ ys)) i ≡ xs ++ (x ∷ remove ys j)
  removed_right j h =
      let n : i - length xs ≡ suc j = omega arith in
      remove-append_right xs (x ∷ ys) (length xs) i refl (omega arith) ∙ ap (λ z. xs ++ remove (x ∷ ys) z) n

  pub removed_mid : i ≡ length xs → remove (xs ++ (x ∷ ys)) i ≡ xs ++ ys
  removed_mid h =
      let n : i - length xs ≡ 0 = omega arith in
      remove-append_right xs (x ∷ ys) (length xs) i refl (omega arith) ∙ ap (λ z. xs ++ remove (x ∷ ys) z) n

pub count_removed : {E S : Type 0} (t : Shape E S) (i : ℕ) → i < count_of t → length (remove (elements t) i) + 1 ≡ count_of t
count_removed t i h = omega (arith, length_elements t, length-remove (elements t) i (omega (arith, length_elements t)))

module _ {E S : Type 0} {rows : List (Row E S)} {top : Option ℕ} {p : ℕ} {x : Cell E S} {l r : Shape E S} (o : Whole rows top (node p x l r)) where
  pub whole_left : {side : Option ℕ} → Rooted rows side l → Whole rows side l
  whole_left s =
      record { rooted = s; balanced = o.balanced.2; apart = λ k. omega (arith, o.apart k); few = omega arith; low = omega arith }

  pub whole_right : {side : Option ℕ} → Rooted rows side r → Whole rows side r
  whole_right s =
      record { rooted = s; balanced = o.balanced.3; apart = λ k. omega (arith, o.apart k); few = omega arith; low = omega arith }

  module _ {m : Rule E S} {more : List (Row E S)} {rest : Option ℕ} (place : ℕ) {xs : List E} where
    -- the row was on the left
    pub fewer_left : (u : Taken m rows more rest place xs l) {right : Option ℕ} → Rooted rows right r → length xs + 1 ≡ count_of l → Beside u p right r
    fewer_left u s n =
        let c = length_elements u.t in
        let e = ap length u.holds in
        record {
          within = o.rooted.1.0;
          rooted = s;
          balanced = o.balanced.3;
          frame = λ k. omega (arith, o.apart k);
          apart = λ k. omega (arith, o.apart k);
          few = omega (arith, o.few);
          low = omega (arith, o.low, u.at_most);
          near = omega (arith, o.balanced.0, u.at_most);
          near_s = omega (arith, o.balanced.1, u.at_least);
        }

    pub taken_left : (u : Taken m rows more rest place xs l) {right : Option ℕ} → Beside u p right r → times place l ≡ 1 → {y : E} {ys : List E} → xs ++ (y ∷ elements r) ≡ ys → {last : List (Row E S)} {new : ℕ} → Rebalanced m more last p y new u.t r → Taken m rows last (Some new) place ys (node p x l r)
    taken_left u b th list a =
        done_left b (λ k z. (omega arith, omega arith)) (λ k. omega (arith, same_at k place l th)) (λ t. (t.1, t.2)) a list (grind (arith, a.exact)) (grind (arith, a.exact))

    -- the row was on the right
    pub fewer_right : (u : Taken m rows more rest place xs r) {left : Option ℕ} → Rooted rows left l → length xs + 1 ≡ count_of r → Beside u p left l
    fewer_right u s n =
        let c = length_elements u.t in
        let e = ap length u.holds in
        record {
          within = o.rooted.1.0;
          rooted = s;
          balanced = o.balanced.2;
          frame = λ k. omega (arith, o.apart k);
          apart = λ k. omega (arith, o.apart k);
          few = omega (arith, o.few);
          low = omega (arith, o.low, u.at_most);
          near = omega (arith, o.balanced.1, u.at_most);
          near_s = omega (arith, o.balanced.0, u.at_least);
        }

    pub taken_right : (u : Taken m rows more rest place xs r) {left : Option ℕ} → Beside u p left l → times place r ≡ 1 → {y : E} {ys : List E} → elements l ++ (y ∷ xs) ≡ ys → {last : List (Row E S)} {new : ℕ} → Rebalanced m more last p y new l u.t → Taken m rows last (Some new) place ys (node p x l r)
    taken_right u b th list a =
        done_right b (λ k z. (omega arith, omega arith)) (λ k. omega (arith, same_at k place r th)) (λ t. (t.2, t.1)) a list (grind (arith, a.exact)) (grind (arith, a.exact))

    -- the row that was on the right takes the place of p
    pub fewer_mid : (u : Taken m rows more rest place xs r) {left : Option ℕ} → Rooted rows left l → length xs + 1 ≡ count_of r → times place r ≡ 1 → Beside u place left l
    fewer_mid u s n th =
        let c = length_elements u.t in
        let e = ap length u.holds in
        record {
          within = lies_within rows place r o.rooted.1.3 (omega arith);
          rooted = s;
          balanced = o.balanced.2;
          frame = λ k. omega (arith, o.apart k);
          apart = λ k. omega (arith, o.apart k, same_at k place r th);
          few = omega (arith, o.few);
          low = omega (arith, o.low, u.at_most);
          near = omega (arith, o.balanced.1, u.at_most);
          near_s = omega (arith, o.balanced.0, u.at_least);
        }

    pub taken_mid : (u : Taken m rows more rest place xs r) {left : Option ℕ} → Beside u place left l → times place r ≡ 1 → {y : E} {ys : List E} → elements l ++ (y ∷ xs) ≡ ys → {last : List (Row E S)} {new : ℕ} → Rebalanced m more last place y new l u.t → Taken m rows last (Some new) p ys (node p x l r)
    taken_mid u b th list a =
        done_right b (λ k z. (omega arith, omega (arith, same_at k place r th))) (λ k. omega (arith, same_at k place r th)) (λ t. (t.2, t.1)) a list (grind (arith, a.exact)) (grind (arith, a.exact))

  -- nothing is on the right of p
  pub taken_end : {m : Rule E S} → r ≡ leaf → {rest : Option ℕ} → Rooted rows rest l → {ys : List E} → elements l ≡ ys → Taken m rows rows rest p ys (node p x l r)
  taken_end r-is s list =
      let none = ap depth_of r-is in
      record {
        t = l;
        rooted = s;
        balanced = o.balanced.2;
        at_least = omega arith;
        at_most = omega arith;
        places = λ k. omega (arith, ap (λ z. times k z) r-is);
        holds = list;
        long = refl;
        kept = λ k g z. refl;
        told = λ h. h.1;
      }

-- the first row
pub first_here : {E S : Type 0} {m : Rule E S} {rows : List (Row E S)} {top : Option ℕ} {p : ℕ} {x : Cell E S} {l r : Shape E S} → Whole rows top (node p x l r) → l ≡ leaf → {y : E} → y ≡ x.element → {rest : Option ℕ} → Rooted rows rest r → RemovedFirst m rows rows p y rest (node p x l r)
first_here {p} {x} {r} o l-is y-is s =
    let me = same_self p in
    let none = ap depth_of l-is in
    record {
      xs = elements r;
      split = ap (λ z. elements z ++ (x.element ∷ elements r)) l-is ∙ ap (λ z. z ∷ elements r) (sym y-is);
      there = omega (arith, o.apart p);
      edit = record {
        t = r;
        rooted = s;
        balanced = o.balanced.3;
        at_least = omega arith;
        at_most = omega arith;
        places = λ k. omega (arith, ap (λ z. times k z) l-is);
        holds = refl;
        long = refl;
        kept = λ k d z. refl;
        told = λ h. h.2;
      };
    }

-- how many are left when the first is taken
pub count_first : {E S : Type 0} {m : Rule E S} {rows more : List (Row E S)} {place : ℕ} {e : E} {rest : Option ℕ} {t : Shape E S} (d : RemovedFirst m rows more place e rest t) → length d.xs + 1 ≡ count_of t
count_first {t} d = omega (arith, length_elements t, ap length d.split)
