-- Runs of a survey's calls, each of which went by the rules and answered what its question asks.
use Rattle.std.proofs.Common.{ℕ, List, [], ◌∷◌, subst}
use Rattle.sequences.specs.Runs.{Ran, Listed}
use Rattle.survey.specs.Calls.{answer, after, Right, AllRight, Unaltering}
use Rattle.survey.specs.declared.calls.Call.{Call}
use Rattle.survey.specs.declared.calls.Answer.{Answer}

module _ {X : Type 0} (room : X → ℕ) (list : X → List ℕ) where
  abbrev Went : X → Call → Answer → X → Type 0
  Went x call told y = Listed room list answer after Unaltering x call told y × Right (room x) (list x) call told

  pub ran_by_rules : (x : X) (calls : List Call) (told : List Answer) (y : X) → Ran Went x calls told y → Ran (Listed room list answer after Unaltering) x calls told y
  ran_by_rules x [] [] y ran = ran
  ran_by_rules x [] (a ∷ told) y ran = ran
  ran_by_rules x (call ∷ calls) [] y ran = ran
  ran_by_rules x (call ∷ calls) (a ∷ told) y (z, went, ran) = (z, went.0, ran_by_rules z calls told y ran)

  pub ran_right : (x : X) (calls : List Call) (told : List Answer) (y : X) → Ran Went x calls told y → AllRight (room x) (list x) calls told
  ran_right x [] [] y ran = tt
  ran_right x [] (a ∷ told) y ran = ran
  ran_right x (call ∷ calls) [] y ran = ran
  ran_right x (call ∷ calls) (a ∷ told) y (z, went, ran) = (went.1, subst (λ m. AllRight m.0 m.1 calls told) went.0.leaves (ran_right z calls told y ran))
