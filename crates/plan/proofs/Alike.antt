-- Models that differ in no more than how their moves list a target: no call tells them apart.
use Rattle.std.proofs.Common.{◌≡◌, ℕ, cond, ltb, List, [], ◌∷◌, map, length, set, ℤ, Ok, Err, Result, sym, refl, ap, ◌∙◌, subst}
use Rattle.std.specs.List.{insert, remove, between}
use Rattle.std.proofs.lemmas.List.{length-map, map-set}
use Rattle.refusals.specs.declared.Refusal.{Refusal}
use Rattle.refusals.specs.declared.Refusal.TheVariants.{Override as BadOverride, Speed as BadSpeed}
use Rattle.kinds.specs.Rules.{summary}
use Rattle.sequences.specs.Lists.{insert_answer, ranged}
use Rattle.sequences.proofs.Rulings.{insert_by_length, place_by_length, ranged_by_length}
use Rattle.motion.specs.declared.blocks.Block.{Block}
use Rattle.motion.specs.declared.moves.Move.{Move}
use Rattle.motion.specs.Extents.{span_rule}
use Rattle.motion.specs.Figures.{block_of}
use Rattle.motion.specs.Laid.{Entry, laid, overridden}
use Rattle.motion.specs.Profiles.{planned}
use Rattle.motion.specs.Ranges.{axis, check_move, check_position}
use Rattle.plan.specs.declared.calls.Call.{Call}
use Rattle.plan.specs.declared.calls.Call.TheVariants.{Insert, Replace, Delete, Override, Start, Junction, Reach, Span}
use Rattle.plan.specs.declared.calls.Answer.{Answer}
use Rattle.plan.specs.declared.calls.Answer.TheVariants.{Edit, Speed, Extent as Extends, Length}
use Rattle.plan.specs.Calls.{answer, after, answers, after_all, Right, AllRight}
use Rattle.plan.specs.Keeping.{entry_of}
use Rattle.plan.specs.Models.{Model, model, blocks_of, place, with_entries, checked, settled, no_range, at_full, changed_in, percent_fits, box_of, speed_at, insert_told, replace_told, delete_told, override_told}
use Rattle.plan.specs.Promises.{JunctionRight, ReachRight, SpanRight}
use Rattle.plan.proofs.Entries.{map-insert, map-remove, map-changed}

-- an entry as a block keeps it, with three coordinates of its target
abbrev pub cut_entry : Entry → Entry
cut_entry e = entry_of (block_of [] e.move e.percent)

-- a model of such entries: models are alike where they are cut to one
abbrev pub cut : Model → Model
cut b = with_entries b (map cut_entry b.entries)

-- a block reads no more of the target
laid_cut : (s : List ℤ) (es : List Entry) → laid s (map cut_entry es) ≡ laid s es
laid_cut s [] = refl
laid_cut s (e ∷ []) = refl
laid_cut s (e ∷ f ∷ es) = ap (λ bs. block_of s e.move e.percent ∷ bs) (laid_cut e.move.target (f ∷ es))

-- either way a call went, alike models are left alike
settled_alike : {T : Type 0} (told : Result T Refusal) (x y b c : Model) → cut x ≡ cut y → cut b ≡ cut c → cut (settled told x b) ≡ cut (settled told y c)
settled_alike (Ok u) x y b c altered before = altered
settled_alike (Err why) x y b c altered before = before

module _ (b c : Model) (alike : cut b ≡ cut c) where
  -- alike models stand for the same blocks, and have as many entries
  pub same_blocks : blocks_of b ≡ blocks_of c
  same_blocks = sym (laid_cut b.start b.entries) ∙ ap blocks_of alike ∙ laid_cut c.start c.entries

  same_length : length b.entries ≡ length c.entries
  same_length = sym (length-map b.entries cut_entry) ∙ ap (λ m. length m.entries) alike ∙ length-map c.entries cut_entry

  -- what an edit is told
  insert_alike : (i : ℕ) (m : Move) → insert_told b i m ≡ insert_told c i m
  insert_alike i m = ap (checked (check_move m)) (insert_by_length b.entries c.entries b.room i same_length ∙ ap (λ a. insert_answer c.entries a.room i) alike)

  replace_alike : (i : ℕ) (m : Move) → replace_told b i m ≡ replace_told c i m
  replace_alike i m = ap (checked (check_move m)) (place_by_length b.entries c.entries i same_length)

  delete_alike : (i : ℕ) → delete_told b i ≡ delete_told c i
  delete_alike i = place_by_length b.entries c.entries i same_length

  override_alike : (i j percent : ℕ) → override_told b i j percent ≡ override_told c i j percent
  override_alike i j percent = ap (λ told. cond (percent_fits percent) told (Err BadOverride)) (ranged_by_length no_range b.entries c.entries i j tt same_length)

  -- what is told of a range of the blocks
  range_alike : {X : Type 0} (i j : ℕ) (f : List Block → X) → ranged no_range b.entries i j (f (blocks_of b)) ≡ ranged no_range c.entries i j (f (blocks_of c))
  range_alike i j f = ranged_by_length no_range b.entries c.entries i j (f (blocks_of b)) same_length ∙ ap (λ xs. ranged no_range c.entries i j (f xs)) same_blocks

  -- and what any call is told
  pub answer_alike : (call : Call) → answer b call ≡ answer c call
  answer_alike (Insert i m) = ap Edit (insert_alike i m)
  answer_alike (Replace i m) = ap Edit (replace_alike i m)
  answer_alike (Delete i) = ap Edit (delete_alike i)
  answer_alike (Override i j percent) = ap Edit (override_alike i j percent)
  answer_alike (Start position) = refl
  answer_alike (Junction j s) = λ k. Speed (cond (ltb 100000000 s) (Err BadSpeed) (cond (ltb (same_length k) j) (Err no_range) (speed_at j (planned (same_blocks k) s))))
  answer_alike (Reach i j) = ap Extends (range_alike i j (λ xs. box_of (between i j xs)))
  answer_alike (Span i j) = ap Length (range_alike i j (λ xs. summary span_rule (between i j xs)))

  -- an answer means so of the one where it does of the other
  pub right_alike : (call : Call) (told : Answer) → Right b call told → Right c call told
  right_alike (Insert i m) told is = is ∙ answer_alike (Insert i m)
  right_alike (Replace i m) told is = is ∙ answer_alike (Replace i m)
  right_alike (Delete i) told is = is ∙ answer_alike (Delete i)
  right_alike (Override i j percent) told is = is ∙ answer_alike (Override i j percent)
  right_alike (Start position) told is = is
  right_alike (Junction j s) told (r, is, right) = (r, is, subst (λ xs. JunctionRight xs j s r) same_blocks right)
  right_alike (Reach i j) told (r, is, right) = (r, is, subst (λ xs. ReachRight xs i j r) same_blocks right)
  right_alike (Span i j) told (r, is, right) = (r, is, subst (λ xs. SpanRight xs i j r) same_blocks right)

  -- an edit of the entries that does the same to cut ones
  edited : {T : Type 0} (told other : Result T Refusal) → told ≡ other → (edit on_cut : List Entry → List Entry) → ((es : List Entry) → map cut_entry (edit es) ≡ on_cut (map cut_entry es)) → cut (settled told (with_entries b (edit b.entries)) b) ≡ cut (settled other (with_entries c (edit c.entries)) c)
  edited told other same edit on_cut cuts =
      let altered = ap (model b.start b.room) (cuts b.entries) ∙ ap (λ m. with_entries m (on_cut m.entries)) alike ∙ ap (model c.start c.room) (sym (cuts c.entries)) in
      settled_alike told (with_entries b (edit b.entries)) (with_entries c (edit c.entries)) b c altered alike
      ∙ ap (λ t. cut (settled t (with_entries c (edit c.entries)) c)) same

  -- after any call they are alike
  pub after_alike : (call : Call) → cut (after b call) ≡ cut (after c call)
  after_alike (Insert i m) = edited _ _ (insert_alike i m) (λ es. insert es i (at_full m)) (λ es. insert es i (cut_entry (at_full m))) (λ es. map-insert cut_entry es i (at_full m))
  after_alike (Replace i m) = edited _ _ (replace_alike i m) (λ es. set es i (at_full m)) (λ es. set es i (cut_entry (at_full m))) (λ es. map-set cut_entry es i (at_full m))
  after_alike (Delete i) = edited _ _ (delete_alike i) (λ es. remove es i) (λ es. remove es i) (λ es. map-remove cut_entry es i)
  after_alike (Override i j percent) =
      let at = λ (e : Entry). overridden e percent in
      edited _ _ (override_alike i j percent) (λ es. changed_in at es i j) (λ es. changed_in at es i j) (λ es. map-changed cut_entry es i at at (λ e. refl) j)
  after_alike (Start p) =
      let moved = λ (m : Model). model (place (axis p 0) (axis p 1) (axis p 2)) m.room m.entries in
      settled_alike (check_position p) (moved b) (moved c) b c (ap moved alike) alike
  after_alike (Junction j s) = alike
  after_alike (Reach i j) = alike
  after_alike (Span i j) = alike

-- so with every call of a list
pub answers_alike : (b c : Model) → cut b ≡ cut c → (calls : List Call) → answers b calls ≡ answers c calls
answers_alike b c alike [] = refl
answers_alike b c alike (call ∷ calls) = λ k. answer_alike b c alike call k ∷ answers_alike (after b call) (after c call) (after_alike b c alike call) calls k

pub all_right_alike : (b c : Model) → cut b ≡ cut c → (calls : List Call) (told : List Answer) → AllRight b calls told → AllRight c calls told
all_right_alike b c alike [] [] right = right
all_right_alike b c alike [] (a ∷ told) right = right
all_right_alike b c alike (call ∷ calls) [] right = right
all_right_alike b c alike (call ∷ calls) (a ∷ told) (right, more) = (right_alike b c alike call a right, all_right_alike (after b call) (after c call) (after_alike b c alike call) calls told more)

pub after_all_alike : (b c : Model) → cut b ≡ cut c → (calls : List Call) → cut (after_all b calls) ≡ cut (after_all c calls)
after_all_alike b c alike [] = alike
after_all_alike b c alike (call ∷ calls) = after_all_alike (after b call) (after c call) (after_alike b c alike call) calls
