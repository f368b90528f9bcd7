-- The one table of refusals: the number and the layer of every case.
use Rattle.std.specs.Prelude.{ℕ, List, [], ◌++◌, Some, None, Option, codes, decimal}
use Rattle.refusals.specs.declared.Layer.{Layer}
use Rattle.refusals.specs.declared.Layer.TheVariants.{Sequence, Plan, Survey, Job}
use Rattle.refusals.specs.declared.Named.{Named}
use Rattle.refusals.specs.declared.Named.TheVariants.{Junction, Offset}
use Rattle.refusals.specs.declared.Refusal.{Refusal}
use Rattle.refusals.specs.declared.Refusal.TheVariants.{NoPlace, Full, Coordinate, Rate, Override, Reading, Speed, Blocked, Buffer, Cut, Tag, FieldLength, EndByte, Trailing}

abbrev pub number_of : Refusal → ℕ
number_of (NoPlace layer) = 1
number_of Full = 2
number_of Coordinate = 3
number_of Rate = 4
number_of Override = 5
number_of Reading = 6
number_of Speed = 7
number_of (Blocked junction) = 8
number_of Buffer = 9
number_of (Cut offset) = 10
number_of (Tag offset) = 11
number_of (FieldLength offset) = 12
number_of (EndByte offset) = 13
number_of (Trailing offset) = 14

abbrev pub layer_of : Refusal → Layer
layer_of (NoPlace layer) = layer
layer_of Full = Sequence
layer_of Coordinate = Plan
layer_of Rate = Plan
layer_of Override = Plan
layer_of Reading = Survey
layer_of Speed = Plan
layer_of (Blocked junction) = Plan
layer_of Buffer = Job
layer_of (Cut offset) = Job
layer_of (Tag offset) = Job
layer_of (FieldLength offset) = Job
layer_of (EndByte offset) = Job
layer_of (Trailing offset) = Job

-- the word for a layer in text, byte by byte
abbrev pub name_of : Layer → List ℕ
name_of Sequence = codes "sequence"
name_of Plan = codes "plan"
name_of Survey = codes "survey"
name_of Job = codes "job"

-- the reason in words
abbrev pub reason_of : Refusal → List ℕ
reason_of (NoPlace layer) = codes "no such place or range"
reason_of Full = codes "the sequence is full"
reason_of Coordinate = codes "coordinate out of range"
reason_of Rate = codes "acceleration, feed or corner speed out of range"
reason_of Override = codes "override out of range"
reason_of Reading = codes "reading above 2000"
reason_of Speed = codes "start speed above 100000000"
reason_of (Blocked junction) = codes "no lawful profile"
reason_of Buffer = codes "line buffer under 64 bytes"
reason_of (Cut offset) = codes "job ends inside a field or without an end field"
reason_of (Tag offset) = codes "unknown tag"
reason_of (FieldLength offset) = codes "wrong length for the tag"
reason_of (EndByte offset) = codes "wrong end byte"
reason_of (Trailing offset) = codes "bytes after the end"

-- what else a case names, if anything
abbrev pub named_of : Refusal → Option Named
named_of (NoPlace layer) = None
named_of Full = None
named_of Coordinate = None
named_of Rate = None
named_of Override = None
named_of Reading = None
named_of Speed = None
named_of (Blocked junction) = Some (Junction junction)
named_of Buffer = None
named_of (Cut offset) = Some (Offset offset)
named_of (Tag offset) = Some (Offset offset)
named_of (FieldLength offset) = Some (Offset offset)
named_of (EndByte offset) = Some (Offset offset)
named_of (Trailing offset) = Some (Offset offset)

-- and as it is printed
abbrev pub shown_name : Option Named → List ℕ
shown_name None = []
shown_name (Some (Junction junction)) = codes ", junction " ++ decimal junction
shown_name (Some (Offset offset)) = codes ", offset " ++ decimal offset

-- number, layer and reason, and what else the case names, as they are printed
abbrev pub words_of : Refusal → List ℕ
words_of refusal = decimal (number_of refusal) ++ (codes " " ++ (name_of (layer_of refusal) ++ (codes ": " ++ (reason_of refusal ++ shown_name (named_of refusal)))))
