-- A plan of three moves worked through by numbers, call by call.
use Rattle.std.specs.Prelude.{◌≡◌, ℕ, List, [], ◌∷◌, map, Ok, Err}
use Rattle.refusals.specs.declared.Refusal.TheVariants.{Blocked}
use Rattle.motion.specs.declared.moves.Move.{Move}
use Rattle.motion.specs.Worked.{position, entry}
use Rattle.plan.specs.declared.calls.Call.{Call}
use Rattle.plan.specs.declared.calls.Call.TheVariants.{Insert, Replace, Delete, Override, Junction, Span}
use Rattle.plan.specs.declared.calls.Answer.{Answer}
use Rattle.plan.specs.declared.calls.Answer.TheVariants.{Edit, Speed, Length}
use Rattle.plan.specs.Calls.{answers}
use Rattle.plan.specs.Models.{opened}

abbrev pub first : Move
first = (entry (position 3000 4000 0) 100 2000 600 100).move

abbrev pub second : Move
second = (entry (position 3000 4900 0) 100 2000 500 100).move

-- as the second, to a place nearer by
abbrev pub short : Move
short = (entry (position 3000 4100 0) 100 2000 500 100).move

abbrev pub third : Move
third = (entry (position 9000 4900 0) 100 1000 0 100).move

-- what calls are answered by a plan of four slots into which the three moves were put
abbrev pub told : List Call → List Answer
told calls = answers (opened 4) (Insert 0 first ∷ Insert 1 second ∷ Insert 2 third ∷ calls)

abbrev pub speeds : List ℕ → List Answer
speeds vs = map (λ v. Speed (Ok v)) vs

abbrev pub done : Answer
done = Edit (Ok tt)

-- the speeds at junctions for a start at rest
abbrev pub asked : List ℕ → List Call
asked js = map (λ j. Junction j 0) js

pub record Worked : Type 0 where
  pub at_rest : told (asked (0 ∷ 1 ∷ 2 ∷ 3 ∷ [])) ≡ done ∷ done ∷ done ∷ speeds (0 ∷ 360000 ∷ 250000 ∷ 0 ∷ [])
  pub fast : told (Junction 0 1360000 ∷ Junction 1 1360000 ∷ []) ≡ done ∷ done ∷ done ∷ speeds (1360000 ∷ 360000 ∷ [])
  pub too_fast : told (Junction 0 1360001 ∷ Junction 3 1360001 ∷ []) ≡ done ∷ done ∷ done ∷ Speed (Err (Blocked 1)) ∷ Speed (Err (Blocked 1)) ∷ []
  pub deleted : told (Delete 1 ∷ Span 1 2 ∷ asked (1 ∷ 2 ∷ [])) ≡ done ∷ done ∷ done ∷ done ∷ Length (Ok 6067) ∷ speeds (360000 ∷ 0 ∷ [])
  pub replaced : told (Replace 1 short ∷ Span 1 2 ∷ Span 2 3 ∷ asked (1 ∷ 2 ∷ [])) ≡ done ∷ done ∷ done ∷ done ∷ Length (Ok 100) ∷ Length (Ok 6053) ∷ speeds (270000 ∷ 250000 ∷ [])
  pub overridden : told (Override 1 2 25 ∷ asked (1 ∷ 2 ∷ [])) ≡ done ∷ done ∷ done ∷ done ∷ speeds (250000 ∷ 250000 ∷ [])
  pub at_full_again : told (Override 1 2 25 ∷ Replace 1 second ∷ asked (1 ∷ 2 ∷ [])) ≡ done ∷ done ∷ done ∷ done ∷ done ∷ speeds (360000 ∷ 250000 ∷ [])
