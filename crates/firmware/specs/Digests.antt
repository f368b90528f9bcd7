-- A list of answers as one number, and what a workload comes to.
use Rattle.std.specs.Prelude.{ℕ, ◌+◌, ◌-◌, ◌*◌, ◌%◌, ◌^◌, ◌≤◌, List, ℤ, negsuc, ◌-ℤ◌, Some, None, Ok, Err, fold, Option, Result, unsigned_abs}
use Rattle.kinds.specs.Balance.{fewest}
use Rattle.refusals.specs.Table.{number_of, named_of}
use Rattle.refusals.specs.declared.Named.{Named}
use Rattle.refusals.specs.declared.Named.TheVariants as named
use Rattle.refusals.specs.declared.Refusal.{Refusal}
use Rattle.motion.specs.declared.extents.Bounds.{Bounds}
use Rattle.motion.specs.declared.extents.Extent.{Extent}
use Rattle.plan.specs.declared.calls.Answer.{Answer}
use Rattle.plan.specs.declared.calls.Answer.TheVariants as told
use Rattle.plan.specs.declared.calls.Call.{Call}
use Rattle.firmware.specs.Seeded.{calls_of}
use Rattle.firmware.specs.declared.seeded.Mix.{Mix}
use Rattle.firmware.specs.declared.workload.Workload.{Workload}

abbrev pub junction_code : Option Named → ℕ → ℕ
junction_code None code = code
junction_code (Some (named.Junction junction)) code = code + junction
junction_code (Some (named.Offset offset)) code = code

-- 2^40, the number of a refusal above 32 bits, and the junction that it names below them
abbrev pub refusal_code : Refusal → ℕ
refusal_code why = junction_code (named_of why) (1099511627776 + number_of why * 4294967296)

-- how far a coordinate is above the least one
abbrev pub coordinate_code : ℤ → ℕ
coordinate_code c = unsigned_abs (c -ℤ negsuc 2147483647)

abbrev pub with_coordinate : ℕ → ℤ → ℕ
with_coordinate code c = ((code * 31) % 2 ^ 64 + coordinate_code c) % 2 ^ 64

abbrev pub with_bounds : ℕ → Bounds → ℕ
with_bounds code b = with_coordinate (with_coordinate code b.least) b.greatest

abbrev pub extent_code : Extent → ℕ
extent_code e = with_bounds (with_bounds (with_coordinate (coordinate_code e.x.least) e.x.greatest) e.y) e.z

abbrev pub edit_code : Result (Unit {0}) Refusal → ℕ
edit_code (Ok x) = 0
edit_code (Err why) = refusal_code why

abbrev pub number_code : Result ℕ Refusal → ℕ
number_code (Ok n) = n
number_code (Err why) = refusal_code why

abbrev pub box_code : Option Extent → ℕ
box_code None = 1
box_code (Some e) = extent_code e

abbrev pub reach_code : Result (Option Extent) Refusal → ℕ
reach_code (Ok box) = box_code box
reach_code (Err why) = refusal_code why

-- an answer as a number
abbrev pub code_of : Answer → ℕ
code_of (told.Edit r) = edit_code r
code_of (told.Speed r) = number_code r
code_of (told.Extent r) = reach_code r
code_of (told.Length r) = number_code r

unfoldable pub digested_by : ℕ → Answer → ℕ
digested_by digest answer = ((digest * 1099511628211) % 2 ^ 64 + code_of answer) % 2 ^ 64

-- the answers in their order, as one number
abbrev pub digest_of : List Answer → ℕ
digest_of told = fold digested_by 0 told

abbrev pub workload : ℕ → ℕ → Mix → ℕ → Workload
workload seed size mix count = record { seed = seed; size = size; mix = mix; count = count }

abbrev pub work_calls : Workload → List Call
work_calls work = calls_of work.seed work.size work.mix work.count

-- d is the depth of a balanced tree of n elements
pub record DeepAs (d n : ℕ) : Type 0 where
  pub least : fewest d ≤ n
  pub most : n ≤ 2 ^ d - 1
