-- A job as the bytes of its calls, said without a reader.
use Rattle.std.specs.Prelude.{◌≡◌, ℕ, ◌/◌, ◌%◌, ◌^◌, ◌<◌, List, [], ◌∷◌, ◌++◌, map, length, ℤ, Ok, Result, FitsSigned}
use Rattle.std.specs.Int.{w32}
use Rattle.std.proofs.Common.{of_z}
use Rattle.std.specs.List.{flat_map, AllByRecursion}
use Rattle.refusals.specs.declared.Refusal.{Refusal}
use Rattle.motion.specs.declared.moves.Move.{Move}
use Rattle.plan.specs.declared.calls.Call.{Call}
use Rattle.plan.specs.declared.calls.Call.TheVariants.{Insert, Replace, Delete, Override, Start, Junction, Reach, Span}
use Rattle.job.specs.Outputs.{placed_calls}
use Rattle.job.specs.Verdicts.{xor_of}

-- the most significant byte first
abbrev pub two_bytes : ℕ → List ℕ
two_bytes n = n / 256 ∷ n % 256 ∷ []

abbrev pub four_bytes : ℕ → List ℕ
four_bytes n = n / 16777216 ∷ n / 65536 % 256 ∷ n / 256 % 256 ∷ n % 256 ∷ []

-- two's complement
abbrev pub signed_bytes : ℤ → List ℕ
signed_bytes z = four_bytes (of_z w32 z)

-- x, y and z
abbrev pub position_bytes : List ℤ → List ℕ
position_bytes p = flat_map signed_bytes p

-- x, y, z, a, f and r
abbrev pub move_bytes : Move → List ℕ
move_bytes m = position_bytes m.target ++ two_bytes m.acceleration ++ two_bytes m.feed ++ two_bytes m.corner

-- a tag byte, the length of the body in two bytes, and the body
abbrev pub tagged : ℕ → List ℕ → List ℕ
tagged tag body = tag ∷ (two_bytes (length body) ++ body)

-- the field of a call; a reach and a span have none
abbrev pub call_field : Call → List ℕ
call_field (Insert i m) = tagged 0x01 (two_bytes i ++ move_bytes m)
call_field (Delete i) = tagged 0x02 (two_bytes i)
call_field (Override i j percent) = tagged 0x03 (two_bytes i ++ two_bytes j ++ (percent ∷ []))
call_field (Junction j s) = tagged 0x04 (two_bytes j ++ four_bytes s)
call_field (Replace i m) = tagged 0x07 (two_bytes i ++ move_bytes m)
call_field (Start p) = tagged 0x08 (position_bytes p)
call_field (Reach i j) = []
call_field (Span i j) = []

-- fields side by side
abbrev pub encoded : List Call → List ℕ
encoded calls = flat_map call_field calls

abbrev pub end_field : ℕ → List ℕ
end_field byte = tagged 0x7F (byte ∷ [])

-- the fields of the calls, and the end with the exclusive-or of all bytes before it
abbrev pub job_of : List Call → List ℕ
job_of calls = encoded calls ++ end_field (xor_of (encoded calls))

-- three coordinates, each a signed number of 32 bits
abbrev pub PositionFits : List ℤ → Type 0
PositionFits p = (length p ≡ 3) × AllByRecursion (FitsSigned w32) p

abbrev pub MoveFits : Move → Type 0
MoveFits m = PositionFits m.target × (m.acceleration < 2 ^ 16) × (m.feed < 2 ^ 16) × (m.corner < 2 ^ 16)

-- a call that has a field, with numbers that fit it
abbrev pub CallFits : Call → Type 0
CallFits (Insert i m) = (i < 2 ^ 16) × MoveFits m
CallFits (Delete i) = i < 2 ^ 16
CallFits (Override i j percent) = (i < 2 ^ 16) × (j < 2 ^ 16) × (percent < 2 ^ 8)
CallFits (Junction j s) = (j < 2 ^ 16) × (s < 2 ^ 32)
CallFits (Replace i m) = (i < 2 ^ 16) × MoveFits m
CallFits (Start p) = PositionFits p
CallFits (Reach i j) = ⊥
CallFits (Span i j) = ⊥

-- the calls that are read from a job
abbrev pub calls_of : List ℕ → List Call
calls_of bs = map (λ p. p.call) (placed_calls bs)

-- the jobs that the verdict accepts are the encodings of calls, and reading gives those calls back
pub record Encoding (bs : List ℕ) (r : Result (Unit {0}) Refusal) : Type 0 where
  pub accepted : r ≡ Ok tt → AllByRecursion CallFits (calls_of bs) × (bs ≡ job_of (calls_of bs))
  pub encodes : (calls : List Call) → AllByRecursion CallFits calls → bs ≡ job_of calls → (r ≡ Ok tt) × (calls_of bs ≡ calls)
