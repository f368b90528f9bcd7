-- The reference model of a plan: a start, a room and a list of moves, each with its override, and nothing derived.
-- It is fed each call with its arguments. The blocks, where each begins and their figures follow from it.
use Rattle.std.specs.Prelude.{ℕ, Bool, cond, ◌&&◌, List, [], ◌∷◌, ◌++◌, map, length, take, drop, ℤ, pos, Some, None, Ok, Err, Option, Result, nat_le, nat_lt, slice_index_or, slice_set}
use Rattle.std.specs.List.{insert, remove, between}
use Rattle.refusals.specs.declared.Layer.TheVariants.{Plan}
use Rattle.refusals.specs.declared.Refusal.{Refusal}
use Rattle.refusals.specs.declared.Refusal.TheVariants.{NoPlace, Override, Speed, Blocked}
use Rattle.kinds.specs.Models.{both}
use Rattle.kinds.specs.Rules.{Rule, summary}
use Rattle.kinds.specs.declared.Pair.{Pair}
use Rattle.sequences.specs.Lists.{insert_answer, place_answer, ranged}
use Rattle.motion.specs.declared.blocks.Block.{Block}
use Rattle.motion.specs.declared.extents.Extent.{Extent}
use Rattle.motion.specs.declared.moves.Move.{Move}
use Rattle.motion.specs.declared.runs.Run.{Run}
use Rattle.motion.specs.Extents.{reach_rule, span_rule}
use Rattle.motion.specs.Laid.{Entry, laid, overridden, idle}
use Rattle.motion.specs.Profiles.{at, Outcome, driven, refused, planned}
use Rattle.motion.specs.Ranges.{axis, check_position, check_move}
use Rattle.motion.specs.Runs.{run_up_rule, run_down_rule}

pub record Model : Type 0 where
  pub start : List ℤ
  pub room : ℕ
  pub entries : List Entry

abbrev pub model : List ℤ → ℕ → List Entry → Model
model start room entries = record { start = start; room = room; entries = entries }

-- the blocks that a model stands for
abbrev pub blocks_of : Model → List Block
blocks_of b = laid b.start b.entries

abbrev pub place : ℤ → ℤ → ℤ → List ℤ
place x y z = x ∷ y ∷ z ∷ []

-- a plan opens with no move, at the origin
abbrev pub opened : ℕ → Model
opened room = model (place (pos 0) (pos 0) (pos 0)) room []

abbrev pub with_entries : Model → List Entry → Model
with_entries b entries = model b.start b.room entries

-- what is told once a check is passed
abbrev pub checked : {T : Type 0} → Result (Unit {0}) Refusal → Result T Refusal → Result T Refusal
checked (Ok x) told = told
checked (Err why) told = Err why

-- a refused call alters nothing
abbrev pub settled : {T X : Type 0} → Result T Refusal → X → X → X
settled (Ok x) altered before = altered
settled (Err why) altered before = before

-- a range or a junction that there is not
abbrev pub no_range : Refusal
no_range = NoPlace Plan

abbrev pub at_full : Move → Entry
at_full m = record { move = m; percent = 100 }

abbrev pub insert_told : Model → ℕ → Move → Result (Unit {0}) Refusal
insert_told b i m = checked (check_move m) (insert_answer b.entries b.room i)

abbrev pub insert_model : Model → ℕ → Move → Model
insert_model b i m = settled (insert_told b i m) (with_entries b (insert b.entries i (at_full m))) b

abbrev pub replace_told : Model → ℕ → Move → Result (Unit {0}) Refusal
replace_told b i m = checked (check_move m) (place_answer b.entries i)

abbrev pub replace_model : Model → ℕ → Move → Model
replace_model b i m = settled (replace_told b i m) (with_entries b (slice_set b.entries i (at_full m))) b

abbrev pub delete_told : Model → ℕ → Result (Unit {0}) Refusal
delete_told b i = place_answer b.entries i

abbrev pub delete_model : Model → ℕ → Model
delete_model b i = settled (delete_told b i) (with_entries b (remove b.entries i)) b

abbrev pub percent_fits : ℕ → Bool
percent_fits percent = nat_le 10 percent && nat_le percent 200

-- f of the element at i, if there is one, the others as they are
abbrev pub altered : (Block → Block) → List Block → ℕ → List Block
altered f blocks i = slice_set blocks i (f (slice_index_or blocks i idle))

-- f of each element of the range, the others as they are
abbrev pub changed_in : {E : Type 0} → (E → E) → List E → ℕ → ℕ → List E
changed_in f xs i j = take i xs ++ (map f (between i j xs) ++ drop j xs)

abbrev pub override_told : Model → ℕ → ℕ → ℕ → Result (Unit {0}) Refusal
override_told b i j percent = cond (percent_fits percent) (ranged no_range b.entries i j tt) (Err Override)

abbrev pub override_model : Model → ℕ → ℕ → ℕ → Model
override_model b i j percent = settled (override_told b i j percent) (with_entries b (changed_in (λ e. overridden e percent) b.entries i j)) b

abbrev pub start_model : Model → List ℤ → Model
start_model b p = settled (check_position p) (model (place (axis p 0) (axis p 1) (axis p 2)) b.room b.entries) b

-- the speed at a junction, or the junction up to which there is no lawful profile
abbrev pub speed_at : ℕ → Outcome → Result ℕ Refusal
speed_at j (driven v) = Ok (at v j)
speed_at j (refused m) = Err (Blocked m)

abbrev pub junction_told : Model → ℕ → ℕ → Result ℕ Refusal
junction_told b j s = cond (nat_lt 100000000 s) (Err Speed) (cond (nat_lt (length b.entries) j) (Err no_range) (speed_at j (planned (blocks_of b) s)))

-- the box of the targets, or none of no block
abbrev pub box_of : List Block → Option Extent
box_of [] = None
box_of (x ∷ xs) = Some (summary reach_rule (x ∷ xs))

abbrev pub reach_told : Model → ℕ → ℕ → Result (Option Extent) Refusal
reach_told b i j = ranged no_range b.entries i j (box_of (between i j (blocks_of b)))

abbrev pub span_told : Model → ℕ → ℕ → Result ℕ Refusal
span_told b i j = ranged no_range b.entries i j (summary span_rule (between i j (blocks_of b)))

-- the summary that a plan asks of its sequence
abbrev pub plan_rule : Rule Block (Pair (Pair Run Run) (Pair Extent ℕ))
plan_rule = both (both run_up_rule run_down_rule) (both reach_rule span_rule)
