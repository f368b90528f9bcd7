-- The lines that a step answers, byte by byte.
use Rattle.std.specs.Prelude.{◌≡◌, ℕ, ◌+◌, List, [], ◌++◌, length, take, drop, Some, None, Ok, Err, codes, decimal, Option, Result}
use Rattle.refusals.specs.Table.{number_of, layer_of, name_of, named_of}
use Rattle.refusals.specs.declared.Named.{Named}
use Rattle.refusals.specs.declared.Named.TheVariants.{Junction, Offset}
use Rattle.refusals.specs.declared.Refusal.{Refusal}
use Rattle.plan.specs.declared.calls.Answer.{Answer}
use Rattle.job.specs.declared.lines.Line.{Line}
use Rattle.plan.specs.declared.calls.Answer.TheVariants.{Edit, Speed, Extent, Length}

-- the buffer with bs over it from a place on
abbrev pub laid : List ℕ → ℕ → List ℕ → List ℕ
laid line at bs = take at line ++ (bs ++ drop (at + length bs) line)

-- the buffer with bs over its front: every later byte is as it was
abbrev pub over : List ℕ → List ℕ → List ℕ
over bs line = bs ++ drop (length bs) line

-- bs was written after the bytes that a line had
pub record Grown (bs : List ℕ) (before after : Line) : Type 0 where
  pub end : after.end ≡ before.end + length bs
  pub bytes : after.bytes.now ≡ laid before.bytes.now before.end bs
  pub room : length after.bytes.now ≡ length before.bytes.now

abbrev pub ok_line : List ℕ
ok_line = codes "ok\n"

abbrev pub speed_line : ℕ → List ℕ
speed_line speed = codes "v " ++ decimal speed ++ codes "\n"

-- the place that a refusal tells: its own, or that of the field
abbrev pub place_named : Option Named → ℕ → ℕ
place_named None at = at
place_named (Some (Junction junction)) at = at
place_named (Some (Offset offset)) at = offset

abbrev pub junction_part : ℕ → List ℕ
junction_part junction = codes " junction " ++ decimal junction

abbrev pub named_part : Option Named → List ℕ
named_part None = []
named_part (Some (Junction junction)) = junction_part junction
named_part (Some (Offset offset)) = []

-- number, layer and place, and the junction where one is named
abbrev pub refused_line : Refusal → ℕ → List ℕ
refused_line why at = codes "refused " ++ decimal (number_of why) ++ codes " " ++ name_of (layer_of why) ++ codes " " ++ decimal (place_named (named_of why) at) ++ named_part (named_of why) ++ codes "\n"

abbrev pub edit_line : Result (Unit {0}) Refusal → ℕ → List ℕ
edit_line (Ok x) at = ok_line
edit_line (Err why) at = refused_line why at

abbrev pub told_speed_line : Result ℕ Refusal → ℕ → List ℕ
told_speed_line (Ok speed) at = speed_line speed
told_speed_line (Err why) at = refused_line why at

-- the line for the field at a place, by what the plan answered; no field of a job asks for an extent or a length
abbrev pub answer_line : ℕ → Answer → List ℕ
answer_line at (Edit told) = edit_line told at
answer_line at (Speed told) = told_speed_line told at
answer_line at (Extent told) = []
answer_line at (Length told) = []
