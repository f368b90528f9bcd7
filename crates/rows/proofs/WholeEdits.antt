-- A whole tree, before an edit and after it.
use Rattle.std.proofs.Common.{◌≡◌, ℕ, ◌+◌, ◌<◌, ◌≤◌, ◌≢◌, List, [], ◌∷◌, length, get_or, set, Some, None, Option, sym, refl, ap, ◌∙◌, subst, ⊎_elim, arith, length-set}
use Rattle.std.specs.List.{insert, remove}
use Rattle.std.proofs.lemmas.Bool.{cases_lt}
use Rattle.kinds.specs.Rules.{Rule}
use Rattle.rows.specs.Edits.{Whole, Insert, Inserted, Remove, Removed, Replaced}
use Rattle.rows.specs.FreeList.{FreeList, among, FreeTaken}
use Rattle.rows.specs.Layouts.{Layout, Laid, HasRoom, HasElement, Edited, shape_of, free_of, list_of}
use Rattle.rows.specs.Shape.{Shape, leaf, count_of, elements, same, times, Told}
use Rattle.rows.specs.declared.Heads.{Heads}
use Rattle.rows.specs.declared.Row.{Row}
use Rattle.rows.specs.declared.free_list.Fresh.{Fresh}
use Rattle.rows.proofs.Depths.{shallow}
use Rattle.rows.proofs.Frames.{not_same, same_self, same_most, same_at, lies_kept, lies_within}
use Rattle.rows.proofs.FreeLists.{free_kept}
use Rattle.rows.proofs.Inserts.{count_inserted}
use Rattle.rows.proofs.Layouts.{few, shape_is, laid}
use Rattle.rows.proofs.Nodes.{length_elements}
use Rattle.rows.proofs.Removes.{count_removed}

-- no row is in use
pub empty_layout : {E S : Type 0} (rows : List (Row E S)) → Layout rows (record { top = None; free = None; used = 0 }) leaf []
empty_layout rows = record { rooted = (refl, tt); balanced = tt; free_list = refl; apart = λ k. omega arith; unused = λ k h. refl; many = refl; small = omega arith; within = omega arith }

pub whole : {E S : Type 0} {rows : List (Row E S)} {heads : Heads} {t : Shape E S} {fs : List ℕ} → Layout rows heads t fs → Whole rows heads.top t
whole {t} s =
    let n = few s in
    let low = shallow t s.balanced n in
    record { rooted = s.rooted; balanced = s.balanced; apart = λ k. omega (arith, s.apart k); few = omega arith; low = omega arith }

-- an edit that left the tree t and the free rows fs
edited : {E S : Type 0} {m : Rule E S} {rows more : List (Row E S)} {was heads : Heads} {t : Shape E S} {fs : List ℕ} {xs : List E} → Layout more heads t fs → elements t ≡ xs → length rows ≡ length more → (Told m (shape_of rows was.top) → Told m t) → Edited m rows more was heads xs
edited {m} s holds long told =
    let is = shape_is s in
    record { laid = laid s; holds = ap elements is ∙ holds; long = long; told = λ w. subst (Told m) (sym is) (told w) }

-- an insertion
module _ {E S : Type 0} {rows : List (Row E S)} {heads : Heads} {i : ℕ} (o : HasRoom rows heads i) {f : Fresh} (v : FreeTaken rows heads.used (free_of rows heads.free) f) where
  apart_all : (k : ℕ) → times k (shape_of rows heads.top) + same k f.place + among k v.left ≤ 1
  apart_all k =
      let a = o.laid.apart k in
      let b = v.places k in
      ⊎_elim (λ (lt : k < heads.used). let ne : k ≢ heads.used = (λ eq. omega arith) in omega (arith, not_same k heads.used ne))
      (λ (ge : heads.used ≤ k). omega (arith, o.laid.unused k ge, same_most k heads.used))
      (cases_lt k heads.used)

  pub insert_begins : Insert rows heads.top i f.place (shape_of rows heads.top)
  insert_begins =
      let s = o.laid in
      let n = few s in
      let low = shallow _ s.balanced n in
      let c = length_elements (shape_of rows heads.top) in
      record { rooted = s.rooted; balanced = s.balanced; inside = omega (arith, o.inside); within = v.within; places = λ k. omega (arith, apart_all k); few = omega (arith, o.room); low = omega arith }

  pub insert_ends : {m : Rule E S} {more : List (Row E S)} (e : E) {q : ℕ} → Inserted m rows more i f.place e q (shape_of rows heads.top) → Edited m rows more heads (record { top = Some q; free = f.free; used = f.used }) (insert (list_of rows heads.top) i e)
  insert_ends {more} e d =
      let s = o.laid in
      let c = count_inserted d.t (shape_of rows heads.top) i e d.holds insert_begins.inside in
      let layout : Layout more (record { top = Some _; free = f.free; used = f.used }) d.t v.left = record {
        rooted = d.rooted;
        balanced = d.balanced;
        free_list = free_kept rows more f.free v.left d.long (λ k z h. d.kept k z (omega (arith, apart_all k))) v.free_list;
        apart = λ k. omega (arith, d.places k, apart_all k);
        unused = λ k h. omega (arith, d.places k, v.past k h, s.unused k (omega arith));
        many = omega arith;
        small = v.small s.small;
        within = subst (λ z. f.used ≤ z) d.long (v.inside s.within);
      } in
      edited layout d.holds d.long d.told

-- a deletion, which gives the row `place` back
module _ {E S : Type 0} {rows : List (Row E S)} {heads : Heads} {i : ℕ} (o : HasElement rows heads i) where
  pub delete_begins : {side : Option ℕ} → heads.top ≡ side → Remove rows side i (shape_of rows heads.top)
  delete_begins at = record { whole = subst (λ z. Whole rows z (shape_of rows heads.top)) at (whole o.laid); inside = omega (arith, o.inside, length_elements (shape_of rows heads.top)) }

  module _ {m : Rule E S} {mid : List (Row E S)} {place : ℕ} {rest : Option ℕ} (d : Removed m rows mid place i rest (shape_of rows heads.top)) where
    pub delete_within : place < length mid
    delete_within = let h = d.there in subst (λ z. place < z) d.edit.long (lies_within rows place (shape_of rows heads.top) o.laid.rooted.1 (omega arith))

    pub delete_ends : {more : List (Row E S)} → ((gs : List ℕ) → among place gs ≡ 0 → FreeList mid heads.free gs → FreeList more (Some place) (place ∷ gs)) → ((k : ℕ) (z : Row E S) → (k ≡ place → ⊥) → get_or more k z ≡ get_or mid k z) → length mid ≡ length more → Edited m rows more heads (record { top = rest; free = Some place; used = heads.used }) (remove (list_of rows heads.top) i)
    delete_ends {more} given kept long =
        let s = o.laid in
        let t = shape_of rows heads.top in
        let fs = free_of rows heads.free in
        let u = d.edit in
        let th = d.there in
        let c = count_removed t i (delete_begins refl).inside in
        let left = sym (length_elements u.t) ∙ ap length u.holds in
        let me = same_self place in
        let all = u.long ∙ long in
        let layout : Layout more (record { top = rest; free = Some place; used = heads.used }) u.t (place ∷ fs) = record {
          rooted = (u.rooted.0, lies_kept mid more u.t long (λ k z h. kept k z (λ eq. let y : times k u.t ≡ 0 = subst (λ w. times w u.t ≡ 0) (sym eq) (omega (arith, u.places place)) in omega arith)) u.rooted.1);
          balanced = u.balanced;
          free_list = given fs (omega (arith, s.apart place)) (free_kept rows mid heads.free fs u.long (λ k z h. u.kept k z (omega (arith, s.apart k))) s.free_list);
          apart = λ k. omega (arith, u.places k, s.apart k, same_at k place t th);
          unused = λ k h. omega (arith, u.places k, s.unused k h, same_at k place t th);
          many = omega arith;
          small = s.small;
          within = subst (λ z. heads.used ≤ z) all s.within;
        } in
        edited layout u.holds all u.told

-- a replacement
pub replace_ends : {E S : Type 0} {m : Rule E S} {rows more : List (Row E S)} {heads : Heads} (i : ℕ) (e : E) → Laid rows heads → Replaced m rows more i e heads.top (shape_of rows heads.top) → Edited m rows more heads heads (set (list_of rows heads.top) i e)
replace_ends {rows} {more} {heads} i e s d =
    let t = shape_of rows heads.top in
    let fs = free_of rows heads.free in
    let c : count_of d.t ≡ count_of t = sym (length_elements d.t) ∙ ap length d.holds ∙ length-set (elements t) i e ∙ length_elements t in
    let layout : Layout more heads d.t fs = record {
      rooted = d.rooted;
      balanced = d.balanced;
      free_list = free_kept rows more heads.free fs d.long (λ k z h. d.kept k z (omega (arith, s.apart k))) s.free_list;
      apart = λ k. omega (arith, d.places k, s.apart k);
      unused = λ k h. omega (arith, d.places k, s.unused k h);
      many = omega arith;
      small = s.small;
      within = subst (λ z. heads.used ≤ z) d.long s.within;
    } in
    edited layout d.holds d.long d.told
