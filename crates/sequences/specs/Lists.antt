-- The rules of a sequence. Its meaning is a list of elements and a room, the number of elements that it can hold.
use Rattle.std.specs.Prelude.{ℕ, cond, List, length, Some, None, Ok, Err, Option, Result, ◌==◌, nat_lt, slice_set}
use Rattle.std.specs.List.{slice_get, insert, remove, between}
use Rattle.refusals.specs.declared.Layer.TheVariants.{Sequence}
use Rattle.refusals.specs.declared.Refusal.{Refusal}
use Rattle.refusals.specs.declared.Refusal.TheVariants.{NoPlace, Full}
use Rattle.kinds.specs.Rules.{Rule, summary}

abbrev pub no_place : Refusal
no_place = NoPlace Sequence

-- An insert puts the element before element i, or last where i is the count.
abbrev pub insert_answer : {E : Type 0} → List E → ℕ → ℕ → Result (Unit {0}) Refusal
insert_answer xs room i = cond (nat_lt (length xs) i) (Err no_place) (cond (length xs == room) (Err Full) (Ok tt))

abbrev pub insert_list : {E : Type 0} → List E → ℕ → ℕ → E → List E
insert_list xs room i e = cond (nat_lt (length xs) i) xs (cond (length xs == room) xs (insert xs i e))

-- A delete or a replacement wants an element at i.
abbrev pub place_answer : {E : Type 0} → List E → ℕ → Result (Unit {0}) Refusal
place_answer xs i = cond (nat_lt i (length xs)) (Ok tt) (Err no_place)

abbrev pub delete_list : {E : Type 0} → List E → ℕ → List E
delete_list xs i = cond (nat_lt i (length xs)) (remove xs i) xs

abbrev pub replace_list : {E : Type 0} → List E → ℕ → E → List E
replace_list xs i e = cond (nat_lt i (length xs)) (slice_set xs i e) xs

abbrev pub found : {E : Type 0} → Option E → Result E Refusal
found None = Err no_place
found (Some x) = Ok x

abbrev pub element_answer : {E : Type 0} → List E → ℕ → Result E Refusal
element_answer xs i = found (slice_get xs i)

-- A range goes from i up to but without j. What is told of it, or why it is refused.
abbrev pub ranged : {E X : Type 0} → Refusal → List E → ℕ → ℕ → X → Result X Refusal
ranged why xs i j x = cond (nat_lt j i) (Err why) (cond (nat_lt (length xs) j) (Err why) (Ok x))

abbrev pub range_answer : {E S : Type 0} → Rule E S → List E → ℕ → ℕ → Result S Refusal
range_answer m xs i j = ranged no_place xs i j (summary m (between i j xs))
