-- Edits of the blocks of a plan: what they are told, what they make of the model, and that the blocks go on to lie along it.
use Rattle.std.proofs.Common.{◌≡◌, ℕ, suc, ◌+◌, ◌<◌, List, [], ◌∷◌, map, length, set, ℤ, Ok, Err, Result, sym, refl, ap, ◌∙◌, subst, arith}
use Rattle.std.specs.List.{insert, remove}
use Rattle.std.proofs.lemmas.List.{length-map}
use Rattle.std.proofs.lemmas.List.Edits.{length-insert}
use Rattle.std.proofs.lemmas.List.Elements.{All-set}
use Rattle.std.proofs.lemmas.Bool.Decides.{nat_tests}
use Rattle.refusals.specs.declared.Refusal.{Refusal}
use Rattle.sequences.specs.Lists.{insert_answer, insert_list, place_answer, delete_list, replace_list, ranged}
use Rattle.sequences.proofs.Rulings.{insert_by_length, place_by_length, ranged_by_length, insert_accepted, place_accepted, deleted, replaced, not_both}
use Rattle.motion.specs.declared.blocks.Block.{Block}
use Rattle.motion.specs.declared.moves.Move.{Move}
use Rattle.motion.specs.Laid.{Entry, laid, begun_again, begin_of, block_at}
use Rattle.motion.specs.Ranges.{axis, check_move, ValidPosition, ValidMove}
use Rattle.motion.proofs.Laying.{laid_insert, laid_remove, laid_replace, laid_restart}
use Rattle.plan.specs.Keeping.{ValidEntry, AllValid, Lie, entry_of, modelled, placed, begin_answer, block_answer}
use Rattle.plan.specs.Models.{Model, model, place, checked, settled, at_full, insert_told, replace_told, no_range}
use Rattle.plan.proofs.Accepted.{all_inserted, all_removed}
use Rattle.plan.proofs.Following.{made_so}
use Rattle.plan.proofs.Entries.{entries_begun, entries_inserted, entries_replaced, entries_removed}

full_valid : (m : Move) → ValidMove m → ValidEntry (at_full m)
full_valid m v = record { move = v; least = omega arith; most = omega arith }

module _ {X : Type 0} (blocks : List Block) (i : ℕ) (x : X) where
  pub placed_there : (y : X) → placed blocks i x ≡ Ok y → y ≡ x
  placed_there y told = grind (arith, nat_tests)

checked_ok : {T : Type 0} (c : Result (Unit {0}) Refusal) (x : Result T Refusal) (y : T) → checked c x ≡ Ok y → (c ≡ Ok tt) × (x ≡ Ok y)
checked_ok (Ok u) x y e = (refl, e)
checked_ok (Err why) x y e = absurd (not_both (sym e))

-- a model has as many entries as there are blocks, so places are told alike of both
module _ (xs : List Block) where
  pub as_many : length (map entry_of xs) ≡ length xs
  as_many = length-map xs entry_of

  pub insert_answered : (room i : ℕ) → insert_answer (map entry_of xs) room i ≡ insert_answer xs room i
  insert_answered room i = insert_by_length (map entry_of xs) xs room i as_many

  pub place_answered : (i : ℕ) → place_answer (map entry_of xs) i ≡ place_answer xs i
  place_answered i = place_by_length (map entry_of xs) xs i as_many

  pub ranged_answered : {X : Type 0} (i j : ℕ) (x : X) → ranged no_range (map entry_of xs) i j x ≡ ranged no_range xs i j x
  ranged_answered i j x = ranged_by_length no_range (map entry_of xs) xs i j x as_many

-- what is made at a place, by the start as it is read
module _ (xs : List Block) (i : ℕ) (from start : List ℤ) (is : from ≡ start) where
  pub begin_made : (begin : List ℤ) → begin_answer from xs i ≡ Ok begin → begin ≡ begin_of start xs i
  begin_made begin told = placed_there xs i _ begin told ∙ ap (λ p. begin_of p xs i) is

  module _ (m : Move) (block : Block) (told : block_answer from xs i m ≡ Ok block) where
    both : (check_move m ≡ Ok tt) × (placed xs i (block_at from xs i (at_full m)) ≡ Ok block)
    both = checked_ok (check_move m) _ block told

    pub block_made : block ≡ block_at start xs i (at_full m)
    block_made = placed_there xs i _ block both.1 ∙ ap (λ p. block_at p xs i (at_full m)) is

    -- once the block of a move is made, an edit is told what its place is told
    pub insert_by_place : (room : ℕ) → insert_told (modelled start room xs) i m ≡ insert_answer xs room i
    insert_by_place room = ap (λ z. checked z (insert_answer (map entry_of xs) room i)) both.0 ∙ insert_answered xs room i

    pub replace_by_place : (room : ℕ) → replace_told (modelled start room xs) i m ≡ place_answer xs i
    replace_by_place room = ap (λ z. checked z (place_answer (map entry_of xs) i)) both.0 ∙ place_answered xs i

-- edits of blocks that lie from a start on: the entries are edited so, and the blocks lie along them
module _ (start : List ℤ) (xs : List Block) (lie : Lie start xs) where
  abbrev was : List Entry
  was = map entry_of xs

  -- other blocks, along other entries from the same start
  pub lie_along : (ys : List Block) (fs : List Entry) → AllValid fs → ys ≡ laid start fs → map entry_of ys ≡ fs → Lie start ys
  lie_along ys fs valid along entries = record {
    begins = lie.begins;
    along = along ∙ ap (laid start) (sym entries);
    entries = subst AllValid (sym entries) valid;
  }

  module _ (i : ℕ) (ys : List Block) where
    module _ (m : Move) (valid : ValidMove m) (long : length m.target ≡ 3) (block : Block) (makes : block ≡ block_at start xs i (at_full m)) where
      pub inserted : (room : ℕ) → insert_answer xs room i ≡ Ok tt → ys ≡ begun_again (insert_list xs room i block) (suc i) m.target → (map entry_of ys ≡ insert was i (at_full m)) × Lie start ys
      inserted room told made =
          let ok = insert_accepted xs room i block told in
          let is : ys ≡ begun_again (insert xs i (block_at start xs i (at_full m))) (suc i) m.target = made ∙ ap (λ zs. begun_again zs (suc i) m.target) (ok.1 ∙ ap (insert xs i) makes) in
          let entries = ap (map entry_of) is ∙ entries_inserted xs i (begin_of start xs i) m long in
          let along : ys ≡ laid start (insert was i (at_full m)) =
          is ∙ ap (λ zs. begun_again (insert zs i (block_at start zs i (at_full m))) (suc i) m.target) lie.along
          ∙ sym (laid_insert start was i (at_full m) (omega (arith, ok.0, as_many xs))) in
          (entries, lie_along ys (insert was i (at_full m)) (all_inserted was i lie.entries (at_full m) (full_valid m valid)) along entries)

      pub replaced_there : place_answer xs i ≡ Ok tt → ys ≡ begun_again (replace_list xs i block) (suc i) m.target → (map entry_of ys ≡ set was i (at_full m)) × Lie start ys
      replaced_there told made =
          let within = place_accepted xs i told in
          let is : ys ≡ begun_again (set xs i (block_at start xs i (at_full m))) (suc i) m.target = made ∙ ap (λ zs. begun_again zs (suc i) m.target) (replaced xs i block within ∙ ap (set xs i) makes) in
          let entries = ap (map entry_of) is ∙ entries_replaced xs i (begin_of start xs i) m long in
          let along : ys ≡ laid start (set was i (at_full m)) =
          is ∙ ap (λ zs. begun_again (set zs i (block_at start zs i (at_full m))) (suc i) m.target) lie.along
          ∙ sym (laid_replace start was i (at_full m) (omega (arith, as_many xs))) in
          (entries, lie_along ys (set was i (at_full m)) (All-set ValidEntry was i (at_full m) (full_valid m valid) lie.entries) along entries)

    pub deleted_there : (begin : List ℤ) → begin ≡ begin_of start xs i → place_answer xs i ≡ Ok tt → ys ≡ begun_again (delete_list xs i) i begin → (map entry_of ys ≡ remove was i) × Lie start ys
    deleted_there begin makes told made =
        let within = place_accepted xs i told in
        let is : ys ≡ begun_again (remove xs i) i (begin_of start xs i) = made ∙ (λ k. begun_again (deleted xs i within k) i (makes k)) in
        let entries = ap (map entry_of) is ∙ entries_removed xs i (begin_of start xs i) in
        let along : ys ≡ laid start (remove was i) = is ∙ ap (λ zs. begun_again (remove zs i) i (begin_of start zs i)) lie.along ∙ sym (laid_remove start was i (omega (arith, as_many xs))) in
        (entries, lie_along ys (remove was i) (all_removed was i lie.entries) along entries)

-- only the coordinates of a start count
laid_placed : (p : List ℤ) (es : List Entry) → laid (place (axis p 0) (axis p 1) (axis p 2)) es ≡ laid p es
laid_placed p [] = refl
laid_placed p (e ∷ es) = refl

module _ (start p : List ℤ) (xs ys : List Block) (made : ys ≡ begun_again xs 0 p) where
  pub entries_stay : map entry_of ys ≡ map entry_of xs
  entries_stay = ap (map entry_of) made ∙ entries_begun xs 0 p

  pub started_lie : (x y z : ℤ) → Lie start xs → ValidPosition p → place x y z ≡ place (axis p 0) (axis p 1) (axis p 2) → Lie (place x y z) ys
  started_lie x y z lie valid starts =
      let es = map entry_of xs in
      subst (λ q. Lie q ys) (sym starts) (record {
        begins = record { x = valid.x; y = valid.y; z = valid.z };
        along = made ∙ ap (λ zs. begun_again zs 0 p) lie.along ∙ sym (laid_restart start es p) ∙ sym (laid_placed p es) ∙ ap (laid _) (sym entries_stay);
        entries = subst AllValid (sym entries_stay) lie.entries;
      })

-- an edit that is accepted leaves the model of its entries
pub edit_made : (told : Result (Unit {0}) Refusal) (start : List ℤ) (room room' : ℕ) (ys : List Block) (es : List Entry) (before : Model) → told ≡ Ok tt → room' ≡ room → map entry_of ys ≡ es → modelled start room' ys ≡ settled told (model start room es) before
edit_made told start room room' ys es before ok same entries = made_so told (model start room es) before _ tt ok (λ k. model start (same k) (entries k))

-- an accepted insert has an element at its place afterwards
pub insert_longer : {E : Type 0} (xs ys : List E) (room i : ℕ) (e : E) → insert_answer xs room i ≡ Ok tt → ys ≡ insert_list xs room i e → i < length ys
insert_longer xs ys room i e told made =
    let ok = insert_accepted xs room i e told in
    let long : length ys ≡ length xs + 1 = ap length (made ∙ ok.1) ∙ length-insert xs i e ok.0 in
    omega (arith, ok.0)
