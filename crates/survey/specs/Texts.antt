-- How the calls of a survey and their answers are printed.
use Rattle.std.specs.Prelude.{ℕ, List, ◌++◌, Some, None, Ok, Err, codes, decimal}
use Rattle.sequences.specs.Texts.{refused_text}
use Rattle.survey.specs.declared.Spot.{Spot}
use Rattle.survey.specs.declared.calls.Call.{Call}
use Rattle.survey.specs.declared.calls.Call.TheVariants.{Note, Strike, Thinnest}
use Rattle.survey.specs.declared.calls.Answer.{Answer}
use Rattle.survey.specs.declared.calls.Answer.TheVariants.{Edit, Thinnest as Spotted}

-- a call with what it names
abbrev pub call_text : Call → List ℕ
call_text (Note i reading) = codes "note " ++ decimal reading ++ codes " at " ++ decimal i
call_text (Strike i) = codes "strike " ++ decimal i
call_text (Thinnest i j) = codes "thinnest from " ++ decimal i ++ codes " to " ++ decimal j

-- a reading and its place
abbrev pub spot_text : Spot → List ℕ
spot_text spot = decimal spot.reading ++ codes " at " ++ decimal spot.place

abbrev pub answer_text : Answer → List ℕ
answer_text (Edit (Ok done)) = codes "ok"
answer_text (Edit (Err why)) = refused_text why
answer_text (Spotted (Ok None)) = codes "none"
answer_text (Spotted (Ok (Some spot))) = spot_text spot
answer_text (Spotted (Err why)) = refused_text why
