-- How the calls of a plan and their answers are printed.
use Rattle.std.specs.Prelude.{ℕ, List, ◌++◌, Some, None, Ok, Err, codes, decimal}
use Rattle.sequences.specs.Texts.{refused_text}
use Rattle.motion.specs.Texts.{position_text, move_text, extent_text}
use Rattle.plan.specs.declared.calls.Call.{Call}
use Rattle.plan.specs.declared.calls.Call.TheVariants.{Insert, Replace, Delete, Override, Start, Junction, Reach, Span}
use Rattle.plan.specs.declared.calls.Answer.{Answer}
use Rattle.plan.specs.declared.calls.Answer.TheVariants.{Edit, Speed, Extent as Extends, Length}

-- a call with what it names
abbrev pub call_text : Call → List ℕ
call_text (Insert i m) = codes "insert at " ++ decimal i ++ codes " to " ++ move_text m
call_text (Replace i m) = codes "replace " ++ decimal i ++ codes " by " ++ move_text m
call_text (Delete i) = codes "delete " ++ decimal i
call_text (Override i j percent) = codes "override from " ++ decimal i ++ codes " to " ++ decimal j ++ codes " at " ++ decimal percent ++ codes " percent"
call_text (Start position) = codes "start at " ++ position_text position
call_text (Junction j s) = codes "junction " ++ decimal j ++ codes " from " ++ decimal s
call_text (Reach i j) = codes "reach from " ++ decimal i ++ codes " to " ++ decimal j
call_text (Span i j) = codes "span from " ++ decimal i ++ codes " to " ++ decimal j

abbrev pub answer_text : Answer → List ℕ
answer_text (Edit (Ok done)) = codes "ok"
answer_text (Edit (Err why)) = refused_text why
answer_text (Speed (Ok speed)) = decimal speed
answer_text (Speed (Err why)) = refused_text why
answer_text (Extends (Ok None)) = codes "none"
answer_text (Extends (Ok (Some extent))) = extent_text extent
answer_text (Extends (Err why)) = refused_text why
answer_text (Length (Ok n)) = decimal n
answer_text (Length (Err why)) = refused_text why
