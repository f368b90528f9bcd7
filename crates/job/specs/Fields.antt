-- One field of a job: a tag byte, a two-byte length and a body.
use Rattle.std.specs.Prelude.{◌≡◌, ℕ, ◌+◌, ◌-◌, min, cond, List, length, Some, None, Ok, Err, Option, Result, MatchResult, ◌==◌, nat_lt}
use Rattle.refusals.specs.declared.Refusal.{Refusal}
use Rattle.refusals.specs.declared.Refusal.TheVariants as refusal
use Rattle.motion.specs.declared.moves.Move.{Move}
use Rattle.plan.specs.declared.calls.Call.TheVariants as call
use Rattle.job.specs.Numbers.{byte_at, u16_at, u32_at, position_at}
use Rattle.job.specs.declared.fields.Field.{Field}
use Rattle.job.specs.declared.fields.Field.TheVariants as field
use Rattle.job.specs.declared.fields.Found.{Found}
use Rattle.job.specs.declared.fields.Tag.{Tag}
use Rattle.job.specs.declared.fields.UnknownTag.{UnknownTag}
use Rattle.job.specs.declared.fields.Tag.TheVariants.{Insert, Delete, Override, Junction, Replace, Start, End}

-- a place as refusals name it, in 32 bits
abbrev pub offset_of : ℕ → ℕ
offset_of at = min at 4294967295

abbrev pub tag_of : ℕ → Option Tag
tag_of byte =
    cond (byte == 1) (Some Insert)
    (cond (byte == 2) (Some Delete)
    (cond (byte == 3) (Some Override)
    (cond (byte == 4) (Some Junction)
    (cond (byte == 7) (Some Replace)
    (cond (byte == 8) (Some Start)
    (cond (byte == 127) (Some End) None))))))

-- the result of reading a byte as a tag
abbrev pub Tags : ℕ → Result Tag UnknownTag → Type 0
Tags byte r = MatchResult r (λ tag. tag_of byte ≡ Some tag) (λ unknown. tag_of byte ≡ None)

-- how long a body is
abbrev pub length_of : Tag → ℕ
length_of Insert = 20
length_of Delete = 2
length_of Override = 5
length_of Junction = 6
length_of Replace = 20
length_of Start = 12
length_of End = 1

abbrev pub move_at : List ℕ → ℕ → Move
move_at bs at = record {
  target = position_at bs at;
  acceleration = u16_at bs (at + 12);
  feed = u16_at bs (at + 14);
  corner = u16_at bs (at + 16);
}

-- what a body says: a call with its arguments, or the end byte
abbrev pub body_at : Tag → List ℕ → ℕ → Field
body_at Insert bs at = field.Call (call.Insert (u16_at bs at) (move_at bs (at + 2)))
body_at Delete bs at = field.Call (call.Delete (u16_at bs at))
body_at Override bs at = field.Call (call.Override (u16_at bs at) (u16_at bs (at + 2)) (byte_at bs (at + 4)))
body_at Junction bs at = field.Call (call.Junction (u16_at bs at) (u32_at bs (at + 2)))
body_at Replace bs at = field.Call (call.Replace (u16_at bs at) (move_at bs (at + 2)))
body_at Start bs at = field.Call (call.Start (position_at bs at))
body_at End bs at = field.End (byte_at bs at)

abbrev pub found : Field → ℕ → Found
found f next = record { field = f; next = next }

-- the field at a place, once its tag is known
abbrev pub tagged_at : Option Tag → List ℕ → ℕ → Result Found Refusal
tagged_at None bs at = Err (refusal.Tag (offset_of at))
tagged_at (Some tag) bs at =
    cond (u16_at bs (at + 1) == length_of tag)
    (cond (nat_lt (length bs - at - 3) (length_of tag)) (Err (refusal.Cut (offset_of at))) (Ok (found (body_at tag bs (at + 3)) (at + 3 + length_of tag))))
    (Err (refusal.FieldLength (offset_of at)))

-- the field that starts at a place, and the place after it
abbrev pub field_at : List ℕ → ℕ → Result Found Refusal
field_at bs at = cond (nat_lt (length bs - at) 3) (Err (refusal.Cut (offset_of at))) (tagged_at (tag_of (byte_at bs at)) bs at)
