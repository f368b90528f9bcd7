-- The calls that a seed stands for.
use Rattle.std.specs.Prelude.{ℕ, ◌+◌, ◌*◌, ◌/◌, ◌%◌, ◌^◌, min, max, cond, List, [], ◌∷◌, map, pos, ◌==◌, nat_lt}
use Rattle.std.specs.List.{range_with_len}
use Rattle.motion.specs.declared.moves.Move.{Move}
use Rattle.plan.specs.declared.calls.Call.{Call}
use Rattle.plan.specs.declared.calls.Call.TheVariants.{Insert, Replace, Delete, Override, Start, Junction, Reach, Span}
use Rattle.firmware.specs.declared.seeded.Draws.{Draws}
use Rattle.firmware.specs.declared.seeded.Mix.{Mix}
use Rattle.firmware.specs.declared.seeded.Mix.TheVariants.{Everything, Replacing, Shifting, Overriding}

abbrev pub mix_of : ℕ → Mix
mix_of byte = cond (byte == 1) Replacing (cond (byte == 2) Shifting (cond (byte == 3) Overriding Everything))

-- a point of the generator for each call and salt, and a step from it
abbrev pub step_of : Draws → ℕ → ℕ
step_of draws salt = ((((draws.seed + (draws.call * 11400714819323198485) % 2 ^ 64) % 2 ^ 64 + (salt * 15111065706836454659) % 2 ^ 64) % 2 ^ 64 * 6364136223846793005) % 2 ^ 64 + 1442695040888963407) % 2 ^ 64

abbrev pub halves_of : ℕ → ℕ
halves_of step = (step / 4294967296) * (step % 4294967296) / 65536 % 4294967296

unfoldable pub drawn : Draws → ℕ → ℕ
drawn draws salt = halves_of (step_of draws salt)

abbrev pub drawn_below : Draws → ℕ → ℕ → ℕ
drawn_below draws salt n = drawn draws salt % max n 1

abbrev pub drawn_place : Draws → ℕ → ℕ → ℕ
drawn_place draws salt n = drawn_below draws salt n % 65536

unfoldable pub move_at : Draws → Move
move_at draws = record {
  target = pos (drawn_place draws 1 10001) ∷ pos (drawn_place draws 2 10001) ∷ pos (drawn_place draws 3 201) ∷ [];
  acceleration = drawn_place draws 4 2002;
  feed = min (drawn_place draws 5 5000 + 1) 65535;
  corner = drawn_place draws 6 3001;
}

abbrev pub asking_call : Draws → Call
asking_call draws = Junction (drawn_place draws 9 draws.size) 0

abbrev pub filling_call : Draws → Call
filling_call draws = Insert (drawn_place draws 8 (min (draws.call + 1) 4294967295)) (move_at draws)

abbrev pub replacing_call : Draws → Call
replacing_call draws = cond (draws.call % 2 == 0) (Replace (drawn_place draws 8 draws.size) (move_at draws)) (asking_call draws)

abbrev pub shifting_call : Draws → Call
shifting_call draws =
    cond (draws.call % 4 == 0) (Delete (drawn_place draws 8 draws.size))
    (cond (draws.call % 4 == 2) (Insert (drawn_place draws 8 draws.size) (move_at draws)) (asking_call draws))

abbrev pub overriding_call : Draws → Call
overriding_call draws =
    cond (draws.call % 2 == 0)
    (Override (drawn_place draws 8 draws.size) (min (min (drawn_place draws 8 draws.size + 64) 65535) draws.size) (drawn_below draws 10 191 % 191 + 10))
    (asking_call draws)

abbrev pub any_call : ℕ → Draws → ℕ → ℕ → Call
any_call kind draws i j =
    cond (kind == 0) (Insert i (move_at draws))
    (cond (kind == 1) (Insert i (move_at draws))
    (cond (kind == 2) (Replace i (move_at draws))
    (cond (kind == 3) (Delete i)
    (cond (kind == 4) (Delete i)
    (cond (kind == 5) (Override (min i j) (max i j) (drawn_below draws 10 220 % 220))
    (cond (kind == 6) (Start (move_at draws).target)
    (cond (kind == 7) (Reach i j)
    (cond (kind == 8) (Span (min i j) (max i j)) (Junction i (drawn_below draws 7 4000000))))))))))

abbrev pub everything_call : Draws → Call
everything_call draws = any_call (drawn_below draws 0 12) draws (drawn_place draws 8 (draws.size + 2)) (drawn_place draws 9 (draws.size + 2))

abbrev pub mixed_call : Mix → Draws → Call
mixed_call Everything draws = everything_call draws
mixed_call Replacing draws = replacing_call draws
mixed_call Shifting draws = shifting_call draws
mixed_call Overriding draws = overriding_call draws

abbrev pub call_at : Draws → Mix → Call
call_at draws mix = cond (nat_lt draws.call draws.size) (filling_call draws) (mixed_call mix draws)

abbrev pub draws_of : ℕ → ℕ → ℕ → Draws
draws_of seed size k = record { seed = seed; size = size; call = k }

-- the first calls of a seed
abbrev pub calls_of : ℕ → ℕ → Mix → ℕ → List Call
calls_of seed size mix count = map (λ k. call_at (draws_of seed size k) mix) (range_with_len 0 count)
