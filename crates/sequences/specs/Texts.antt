-- How the calls of a sequence and their answers are printed.
use Rattle.std.specs.Prelude.{ℕ, List, ◌++◌, Some, Option, Ok, Err, codes, decimal}
use Rattle.std.specs.Fmt.{◌++?◌}
use Rattle.refusals.specs.declared.Refusal.{Refusal}
use Rattle.refusals.specs.Table.{words_of}
use Rattle.sequences.specs.declared.calls.Call.{Call}
use Rattle.sequences.specs.declared.calls.Call.TheVariants.{Count, Capacity, ElementAt, RangeJoin, Insert, Delete, Replace}
use Rattle.sequences.specs.declared.calls.Answer.{Answer}
use Rattle.sequences.specs.declared.calls.Answer.TheVariants.{Number, Element, Summary, Edit}

-- the refusal of any call
abbrev pub refused_text : Refusal → List ℕ
refused_text why = codes "refused " ++ words_of why

-- a call with what it names, an element as its own type prints it
abbrev pub call_text : {E : Type 0} → (E → Option (List ℕ)) → Call E → Option (List ℕ)
call_text element Count = Some (codes "count")
call_text element Capacity = Some (codes "capacity")
call_text element (ElementAt i) = Some (codes "element at " ++ decimal i)
call_text element (RangeJoin i j) = Some (codes "range join from " ++ decimal i ++ codes " to " ++ decimal j)
call_text element (Insert i e) = Some (codes "insert ") ++? element e ++? Some (codes " at ") ++? Some (decimal i)
call_text element (Delete i) = Some (codes "delete " ++ decimal i)
call_text element (Replace i e) = Some (codes "replace ") ++? Some (decimal i) ++? Some (codes " by ") ++? element e

-- an answer, an element and a summary as their own types print them
abbrev pub answer_text : {E S : Type 0} → (E → Option (List ℕ)) → (S → Option (List ℕ)) → Answer E S → Option (List ℕ)
answer_text element summary (Number n) = Some (decimal n)
answer_text element summary (Element (Ok e)) = element e
answer_text element summary (Element (Err why)) = Some (refused_text why)
answer_text element summary (Summary (Ok s)) = summary s
answer_text element summary (Summary (Err why)) = Some (refused_text why)
answer_text element summary (Edit (Ok done)) = Some (codes "ok")
answer_text element summary (Edit (Err why)) = Some (refused_text why)
