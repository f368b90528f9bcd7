-- What an insertion makes of a tree.
use Rattle.std.proofs.Common.{◌≡◌, ℕ, suc, ◌+◌, ◌-◌, ◌≤◌, List, ◌∷◌, ◌++◌, length, Option, sym, refl, ap, ◌∙◌, arith}
use Rattle.std.specs.List.{insert}
use Rattle.std.proofs.lemmas.List.Edits.{length-insert, insert-append_left, insert-append_right}
use Rattle.kinds.specs.Rules.{Rule}
use Rattle.rows.specs.Edits.{Refreshed, Rebalanced, Insert, Inserted}
use Rattle.rows.specs.Shape.{Shape, Cell, leaf, node, count_of, elements, node_of, Rooted}
use Rattle.rows.specs.declared.Row.{Row}
use Rattle.rows.proofs.Frames.{put_node, long_put, kept_put}
use Rattle.rows.proofs.Nodes.{length_elements}
use Rattle.rows.proofs.SideEdits.{Beside, done_left, done_right}

-- an insertion behind x
inserted_right : {E : Type 0} (xs ys : List E) (x : E) (i j : ℕ) (e : E) → i ≡ length xs + suc j → insert (xs ++ (x ∷ ys)) i e ≡ xs ++ (x ∷ insert ys j e)
inserted_right xs ys x i j e h =
    let n : i - length xs ≡ suc j = omega arith in
    insert-append_right xs (x ∷ ys) (length xs) i e refl (omega arith) ∙ ap (λ z. xs ++ insert (x ∷ ys) z e) n

pub count_inserted : {E S : Type 0} (s t : Shape E S) (i : ℕ) (e : E) → elements s ≡ insert (elements t) i e → i ≤ count_of t → count_of s ≡ count_of t + 1
count_inserted s t i e holds h =
    let le : i ≤ length (elements t) = omega (arith, length_elements t) in
    sym (length_elements s) ∙ ap length holds ∙ length-insert (elements t) i e le ∙ ap (λ z. z + 1) (length_elements t)

module _ {E S : Type 0} {rows : List (Row E S)} {top : Option ℕ} {i fresh p : ℕ} {x : Cell E S} {l r : Shape E S} (o : Insert rows top i fresh (node p x l r)) where
  pub insert_left : {side : Option ℕ} → Rooted rows side l → i ≤ count_of l → Insert rows side i fresh l
  insert_left s h =
      record { rooted = s; balanced = o.balanced.2; inside = h; within = o.within; places = λ k. omega (arith, o.places k); few = omega arith; low = omega arith }

  pub insert_right : {side : Option ℕ} (j : ℕ) → Rooted rows side r → i ≡ count_of l + suc j → Insert rows side j fresh r
  insert_right j s h =
      record { rooted = s; balanced = o.balanced.3; inside = omega arith; within = o.within; places = λ k. omega (arith, o.places k); few = omega arith; low = omega arith }

  module _ {m : Rule E S} (e : E) {more : List (Row E S)} {q : ℕ} where
    pub beside_left : (d : Inserted m rows more i fresh e q l) {right : Option ℕ} → Rooted rows right r → i ≤ count_of l → Beside d p right r
    beside_left d s h =
        let n = count_inserted d.t l i e d.holds h in
        record {
          within = o.rooted.1.0;
          rooted = s;
          balanced = o.balanced.3;
          frame = λ k. omega (arith, o.places k);
          apart = λ k. omega (arith, o.places k);
          few = omega (arith, o.few);
          low = omega (arith, o.low, d.at_most);
          near = omega (arith, o.balanced.0, d.at_most);
          near_s = omega (arith, o.balanced.1, d.at_least);
        }

    pub inserted_on_left : (d : Inserted m rows more i fresh e q l) {right : Option ℕ} → Beside d p right r → i ≤ count_of l → {y : E} → y ≡ x.element → {last : List (Row E S)} {new : ℕ} → Rebalanced m more last p y new d.t r → Inserted m rows last i fresh e new (node p x l r)
    inserted_on_left d b h {y} y-is a =
        done_left b (λ k z. (omega arith, omega arith)) (λ k. omega arith) (λ t. (t.1, t.2)) a
        (ap (λ z. insert (elements l) i e ++ (z ∷ elements r)) y-is ∙ sym (insert-append_left (elements l) (x.element ∷ elements r) i e (omega (arith, length_elements l))))
        (grind (arith, a.exact)) (omega arith)

    pub beside_right : (j : ℕ) (d : Inserted m rows more j fresh e q r) {left : Option ℕ} → Rooted rows left l → i ≡ count_of l + suc j → Beside d p left l
    beside_right j d s h =
        let n = count_inserted d.t r j e d.holds (omega (arith, o.inside)) in
        record {
          within = o.rooted.1.0;
          rooted = s;
          balanced = o.balanced.2;
          frame = λ k. omega (arith, o.places k);
          apart = λ k. omega (arith, o.places k);
          few = omega (arith, o.few);
          low = omega (arith, o.low, d.at_most);
          near = omega (arith, o.balanced.1, d.at_most);
          near_s = omega (arith, o.balanced.0, d.at_least);
        }

    pub inserted_on_right : (j : ℕ) (d : Inserted m rows more j fresh e q r) {left : Option ℕ} → Beside d p left l → i ≡ count_of l + suc j → {y : E} → y ≡ x.element → {last : List (Row E S)} {new : ℕ} → Rebalanced m more last p y new l d.t → Inserted m rows last i fresh e new (node p x l r)
    inserted_on_right j d b h {y} y-is a =
        done_right b (λ k z. (omega arith, omega arith)) (λ k. omega arith) (λ t. (t.2, t.1)) a
        (ap (λ z. elements l ++ (z ∷ insert (elements r) j e)) y-is ∙ sym (inserted_right (elements l) (elements r) x.element i j e (omega (arith, length_elements l))))
        (grind (arith, a.exact)) (omega arith)

pub inserted_leaf : {E S : Type 0} {m : Rule E S} {rows more : List (Row E S)} {top : Option ℕ} {i fresh : ℕ} {e : E} → Insert rows top i fresh leaf → Refreshed m rows fresh e leaf leaf more → Inserted m rows more i fresh e fresh leaf
inserted_leaf {m} {i} {fresh} {e} o w =
    let none : i ≡ 0 = omega (arith, o.inside) in
    record {
      t = node_of m fresh e leaf leaf;
      rooted = (refl, put_node w o.within refl tt tt);
      balanced = (omega arith, omega arith, tt, tt);
      at_least = omega arith;
      at_most = omega arith;
      places = λ k. omega arith;
      holds = rw none;
      long = long_put w;
      kept = λ k z h. kept_put w k z (omega arith);
      told = λ h. (refl, tt, tt);
    }
