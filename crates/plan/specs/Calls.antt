-- What a list of calls of a plan answers and leaves, by the model alone, and what the answers mean.
use Rattle.std.specs.Prelude.{◌≡◌, ℕ, List, [], ◌∷◌, Err, Option, Result}
use Rattle.refusals.specs.declared.Refusal.{Refusal}
use Rattle.sequences.specs.Runs.{left_by, answers_by}
use Rattle.motion.specs.declared.extents.Extent.{Extent}
use Rattle.motion.specs.Ranges.{check_position}
use Rattle.plan.specs.declared.calls.Call.{Call}
use Rattle.plan.specs.declared.calls.Call.TheVariants.{Insert, Replace, Delete, Override, Start, Junction, Reach, Span}
use Rattle.plan.specs.declared.calls.Answer.{Answer}
use Rattle.plan.specs.declared.calls.Answer.TheVariants.{Edit, Speed, Extent as Extends, Length}
use Rattle.plan.specs.Models.{Model, blocks_of, insert_told, insert_model, replace_told, replace_model, delete_told, delete_model, override_told, override_model, start_model, junction_told, reach_told, span_told}
use Rattle.plan.specs.Promises.{JunctionRight, ReachRight, SpanRight}

abbrev pub answer : Model → Call → Answer
answer b (Insert i m) = Edit (insert_told b i m)
answer b (Replace i m) = Edit (replace_told b i m)
answer b (Delete i) = Edit (delete_told b i)
answer b (Override i j percent) = Edit (override_told b i j percent)
answer b (Start position) = Edit (check_position position)
answer b (Junction j s) = Speed (junction_told b j s)
answer b (Reach i j) = Extends (reach_told b i j)
answer b (Span i j) = Length (span_told b i j)

abbrev pub after : Model → Call → Model
after b (Insert i m) = insert_model b i m
after b (Replace i m) = replace_model b i m
after b (Delete i) = delete_model b i
after b (Override i j percent) = override_model b i j percent
after b (Start position) = start_model b position
after b (Junction j s) = b
after b (Reach i j) = b
after b (Span i j) = b

abbrev pub answers : Model → List Call → List Answer
answers b calls = answers_by after answer b calls

abbrev pub after_all : Model → List Call → Model
after_all b calls = left_by after b calls

-- an answer means what its question asks of the blocks of the model
abbrev pub Right : Model → Call → Answer → Type 0
Right b (Insert i m) a = a ≡ Edit (insert_told b i m)
Right b (Replace i m) a = a ≡ Edit (replace_told b i m)
Right b (Delete i) a = a ≡ Edit (delete_told b i)
Right b (Override i j percent) a = a ≡ Edit (override_told b i j percent)
Right b (Start position) a = a ≡ Edit (check_position position)
Right b (Junction j s) a = (r : Result ℕ Refusal) × (a ≡ Speed r) × JunctionRight (blocks_of b) j s r
Right b (Reach i j) a = (r : Result (Option Extent) Refusal) × (a ≡ Extends r) × ReachRight (blocks_of b) i j r
Right b (Span i j) a = (r : Result ℕ Refusal) × (a ≡ Length r) × SpanRight (blocks_of b) i j r

-- every answer of a list of calls means so, each for what the model then holds
abbrev pub AllRight : Model → List Call → List Answer → Type 0
AllRight b [] [] = Unit {0}
AllRight b [] (a ∷ more) = ⊥
AllRight b (call ∷ calls) [] = ⊥
AllRight b (call ∷ calls) (a ∷ more) = Right b call a × AllRight (after b call) calls more

-- a call that alters nothing: a question, or an edit that was refused
abbrev pub Unaltering : Call → Answer → Type 0
Unaltering (Insert i m) a = (why : Refusal) × (a ≡ Edit (Err why))
Unaltering (Replace i m) a = (why : Refusal) × (a ≡ Edit (Err why))
Unaltering (Delete i) a = (why : Refusal) × (a ≡ Edit (Err why))
Unaltering (Override i j percent) a = (why : Refusal) × (a ≡ Edit (Err why))
Unaltering (Start position) a = (why : Refusal) × (a ≡ Edit (Err why))
Unaltering (Junction j s) a = Unit {0}
Unaltering (Reach i j) a = Unit {0}
Unaltering (Span i j) a = Unit {0}
