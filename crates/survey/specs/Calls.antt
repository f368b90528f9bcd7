-- What a list of calls of a survey answers and leaves, by the rules of its readings alone.
use Rattle.std.specs.Prelude.{◌≡◌, ℕ, List, [], ◌∷◌, Some, Ok, Err, Option, Result}
use Rattle.refusals.specs.declared.Refusal.{Refusal}
use Rattle.sequences.specs.Lists.{place_answer, delete_list}
use Rattle.sequences.specs.Runs.{left_by, answers_by}
use Rattle.survey.specs.Readings.{IsThinnest, note_answer, note_list, thinnest_answer}
use Rattle.survey.specs.declared.Spot.{Spot}
use Rattle.survey.specs.declared.calls.Call.{Call}
use Rattle.survey.specs.declared.calls.Call.TheVariants.{Note, Strike, Thinnest}
use Rattle.survey.specs.declared.calls.Answer.{Answer}
use Rattle.survey.specs.declared.calls.Answer.TheVariants.{Edit, Thinnest as Spotted}

module _ (room : ℕ) where
  abbrev pub answer : List ℕ → Call → Answer
  answer xs (Note i reading) = Edit (note_answer xs room i reading)
  answer xs (Strike i) = Edit (place_answer xs i)
  answer xs (Thinnest i j) = Spotted (thinnest_answer xs i j)

  abbrev pub after : List ℕ → Call → List ℕ
  after xs (Note i reading) = note_list xs room i reading
  after xs (Strike i) = delete_list xs i
  after xs (Thinnest i j) = xs

  abbrev pub answers : List ℕ → List Call → List Answer
  answers xs calls = answers_by after answer xs calls

  abbrev pub after_all : List ℕ → List Call → List ℕ
  after_all xs calls = left_by after xs calls

-- a call that alters nothing: the question, or an edit that was refused
abbrev pub Unaltering : Call → Answer → Type 0
Unaltering (Note i reading) a = (why : Refusal) × (a ≡ Edit (Err why))
Unaltering (Strike i) a = (why : Refusal) × (a ≡ Edit (Err why))
Unaltering (Thinnest i j) a = Unit {0}

module _ (room : ℕ) where
  -- an answer means what its question asks of the readings: a spot that is told is the thinnest of its range
  abbrev pub Right : List ℕ → Call → Answer → Type 0
  Right xs (Note i reading) a = a ≡ Edit (note_answer xs room i reading)
  Right xs (Strike i) a = a ≡ Edit (place_answer xs i)
  Right xs (Thinnest i j) a = (r : Result (Option Spot) Refusal) × (a ≡ Spotted r) × ((spot : Spot) → r ≡ Ok (Some spot) → IsThinnest xs i j spot)

  -- every answer of a list of calls means so, each for the readings that there then are
  abbrev pub AllRight : List ℕ → List Call → List Answer → Type 0
  AllRight xs [] [] = Unit {0}
  AllRight xs [] (a ∷ told) = ⊥
  AllRight xs (call ∷ calls) [] = ⊥
  AllRight xs (call ∷ calls) (a ∷ told) = Right xs call a × AllRight (after room xs call) calls told
