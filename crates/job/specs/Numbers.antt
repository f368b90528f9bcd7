-- Numbers in a row of bytes, the most significant byte first.
use Rattle.std.specs.Prelude.{ℕ, ◌+◌, ◌*◌, List, [], ◌∷◌, ℤ, slice_index}
use Rattle.std.specs.Int.{w32}
use Rattle.std.proofs.Common.{to_z}

abbrev pub byte_at : List ℕ → ℕ → ℕ
byte_at bs at = slice_index bs at

abbrev pub u16_at : List ℕ → ℕ → ℕ
u16_at bs at = byte_at bs at * 256 + byte_at bs (at + 1)

abbrev pub u32_at : List ℕ → ℕ → ℕ
u32_at bs at = byte_at bs at * 16777216 + byte_at bs (at + 1) * 65536 + byte_at bs (at + 2) * 256 + byte_at bs (at + 3)

-- two's complement
abbrev pub i32_at : List ℕ → ℕ → ℤ
i32_at bs at = to_z w32 (u32_at bs at)

-- x, y and z
abbrev pub position_at : List ℕ → ℕ → List ℤ
position_at bs at = i32_at bs at ∷ i32_at bs (at + 4) ∷ i32_at bs (at + 8) ∷ []
