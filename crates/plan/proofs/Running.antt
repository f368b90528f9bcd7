-- What the answers of a plan mean, of one call and of a run of calls.
use Rattle.std.proofs.Common.{List, [], ◌∷◌, sym, refl, subst}
use Rattle.sequences.specs.Runs.{Ran, Step}
use Rattle.plan.specs.declared.calls.Call.{Call}
use Rattle.plan.specs.declared.calls.Call.TheVariants.{Insert, Replace, Delete, Override, Start, Junction, Reach, Span}
use Rattle.plan.specs.declared.calls.Answer.{Answer}
use Rattle.plan.specs.Calls.{answer, after, Right, AllRight, Unaltering}
use Rattle.plan.specs.Keeping.{AllValid}
use Rattle.plan.specs.Models.{Model, junction_told, reach_told, span_told}
use Rattle.plan.proofs.Extents.{reach_right, span_right}
use Rattle.plan.proofs.Junctions.{junction_right}

right_told : (b : Model) → AllValid b.entries → (call : Call) → Right b call (answer b call)
right_told b valid (Insert i m) = refl
right_told b valid (Replace i m) = refl
right_told b valid (Delete i) = refl
right_told b valid (Override i j percent) = refl
right_told b valid (Start position) = refl
right_told b valid (Junction j s) = (junction_told b j s, refl, junction_right b j s)
right_told b valid (Reach i j) = (reach_told b i j, refl, reach_right b i j valid)
right_told b valid (Span i j) = (span_told b i j, refl, span_right b i j)

-- so of every call of a run over what has a model of accepted moves
pub ran_right : {P : Type 0} (model_of : P → Model) → ((p : P) → AllValid (model_of p).entries) → (p : P) (calls : List Call) (told : List Answer) (q : P) → Ran (Step model_of answer after Unaltering) p calls told q → AllRight (model_of p) calls told
ran_right model_of valid p [] [] q ran = tt
ran_right model_of valid p [] (a ∷ told) q ran = ran
ran_right model_of valid p (call ∷ calls) [] q ran = ran
ran_right model_of valid p (call ∷ calls) (a ∷ told) q (z, made, ran) = (
  subst (Right (model_of p) call) (sym made.value) (right_told (model_of p) (valid p) call),
  subst (λ b. AllRight b calls told) made.leaves (ran_right model_of valid z calls told q ran),
)
