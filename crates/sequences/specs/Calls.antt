-- What a list of calls of a sequence answers and leaves, by the rules of the list alone.
use Rattle.std.specs.Prelude.{◌≡◌, ℕ, List, length, Err}
use Rattle.refusals.specs.declared.Refusal.{Refusal}
use Rattle.kinds.specs.Rules.{Rule}
use Rattle.sequences.specs.Lists.{insert_answer, insert_list, place_answer, delete_list, replace_list, element_answer, range_answer}
use Rattle.sequences.specs.Runs.{left_by, answers_by}
use Rattle.sequences.specs.declared.calls.Call.{Call}
use Rattle.sequences.specs.declared.calls.Call.TheVariants.{Count, Capacity, ElementAt, RangeJoin, Insert, Delete, Replace}
use Rattle.sequences.specs.declared.calls.Answer.{Answer}
use Rattle.sequences.specs.declared.calls.Answer.TheVariants.{Number, Element, Summary, Edit}

module _ {E S : Type 0} (m : Rule E S) (room : ℕ) where
  -- what a call answers over the list xs
  abbrev pub answer : List E → Call E → Answer E S
  answer xs Count = Number (length xs)
  answer xs Capacity = Number room
  answer xs (ElementAt i) = Element (element_answer xs i)
  answer xs (RangeJoin i j) = Summary (range_answer m xs i j)
  answer xs (Insert i e) = Edit (insert_answer xs room i)
  answer xs (Delete i) = Edit (place_answer xs i)
  answer xs (Replace i e) = Edit (place_answer xs i)

module _ {E : Type 0} (room : ℕ) where
  -- the list that a call leaves
  abbrev pub after : List E → Call E → List E
  after xs Count = xs
  after xs Capacity = xs
  after xs (ElementAt i) = xs
  after xs (RangeJoin i j) = xs
  after xs (Insert i e) = insert_list xs room i e
  after xs (Delete i) = delete_list xs i
  after xs (Replace i e) = replace_list xs i e

  -- the list that a list of calls leaves
  abbrev pub after_all : List E → List (Call E) → List E
  after_all xs calls = left_by after xs calls

module _ {E S : Type 0} (m : Rule E S) (room : ℕ) where
  -- what a list of calls answers, each over the list that those before it left
  abbrev pub answers : List E → List (Call E) → List (Answer E S)
  answers xs calls = answers_by (after room) (answer m room) xs calls

-- a call that alters nothing: a question, or an edit that was refused
abbrev pub Unaltering : {E S : Type 0} → Call E → Answer E S → Type 0
Unaltering Count a = Unit {0}
Unaltering Capacity a = Unit {0}
Unaltering (ElementAt i) a = Unit {0}
Unaltering (RangeJoin i j) a = Unit {0}
Unaltering (Insert i e) a = (why : Refusal) × (a ≡ Edit (Err why))
Unaltering (Delete i) a = (why : Refusal) × (a ≡ Edit (Err why))
Unaltering (Replace i e) a = (why : Refusal) × (a ≡ Edit (Err why))
