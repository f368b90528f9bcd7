-- A block as it is made from a move, and its figures.
use Rattle.std.specs.Prelude.{◌≡◌, ℕ, ◌+◌, ◌*◌, ◌/◌, ◌≤◌, min, max, List, [], ◌∷◌, ℤ, pos, ◌-ℤ◌, unsigned_abs}
use Rattle.kinds.specs.Sums.{top}
use Rattle.motion.specs.declared.moves.Move.{Move}
use Rattle.motion.specs.declared.blocks.Block.{Block}
use Rattle.motion.specs.Ranges.{axis, ValidPosition, ValidMove}
use Rattle.motion.specs.Roots.{root}

-- the square of the distance in x and y; it stops at the greatest 64-bit number, which no two positions in range reach
abbrev pub square_of : ℕ → ℕ → ℕ
square_of dx dy = min (dx * dx + dy * dy) 18446744073709551615

abbrev pub apart : List ℤ → List ℤ → ℕ → ℕ
apart p q i = unsigned_abs (axis q i -ℤ axis p i)

-- the length of a straight from p to q: the whole root of that square
abbrev pub length_of : List ℤ → List ℤ → ℕ
length_of p q = root (square_of (apart p q 0) (apart p q 1))

-- the block of a move that begins at a position
abbrev pub block_of : List ℤ → Move → ℕ → Block
block_of p m percent = record {
  begin_x = axis p 0;
  begin_y = axis p 1;
  begin_z = axis p 2;
  x = axis m.target 0;
  y = axis m.target 1;
  z = axis m.target 2;
  acceleration = m.acceleration;
  feed = m.feed;
  corner = m.corner;
  percent = percent;
  length = length_of p m.target;
}

abbrev pub origin : List ℤ
origin = pos 0 ∷ pos 0 ∷ pos 0 ∷ []

-- a move that goes nowhere
abbrev pub idle_move : Move
idle_move = record { target = origin; acceleration = 1; feed = 1; corner = 0 }

abbrev pub target_of : Block → List ℤ
target_of b = b.x ∷ b.y ∷ b.z ∷ []

-- the move that a block was made from
abbrev pub move_of : Block → Move
move_of b = record { target = target_of b; acceleration = b.acceleration; feed = b.feed; corner = b.corner }

-- the same move from another position
abbrev pub begun_at : Block → List ℤ → Block
begun_at b p = block_of p (move_of b) b.percent

abbrev pub at_percent : Block → ℕ → Block
at_percent b percent = record {
  begin_x = b.begin_x;
  begin_y = b.begin_y;
  begin_z = b.begin_z;
  x = b.x;
  y = b.y;
  z = b.z;
  acceleration = b.acceleration;
  feed = b.feed;
  corner = b.corner;
  percent = percent;
  length = b.length;
}

-- what the squared speed may change by along a block: up and down are two figures, equal for this machine
abbrev pub change_of : Block → ℕ
change_of b = min (2 * b.acceleration * b.length) top

abbrev pub rise_of : Block → ℕ
rise_of b = change_of b

abbrev pub fall_of : Block → ℕ
fall_of b = change_of b

-- the feed at a block's override
abbrev pub feed_of : Block → ℕ
feed_of b = max (b.feed * b.percent / 100) 1

-- the greatest squared speed on a block, and at the corner at its end
abbrev pub own_cap : Block → ℕ
own_cap b = min (feed_of b * feed_of b) top

abbrev pub corner_cap : Block → ℕ
corner_cap b = min (b.corner * b.corner) top

-- the figures of a block whose move is in range, none of which stops at the greatest 32-bit number
pub record Bounded (b : Block) : Type 0 where
  pub rise_is : rise_of b ≡ 2 * b.acceleration * b.length
  pub rise : rise_of b ≤ 1131368000
  pub fall_is : fall_of b ≡ 2 * b.acceleration * b.length
  pub fall : fall_of b ≤ 1131368000
  pub own_is : own_cap b ≡ feed_of b * feed_of b
  pub own : own_cap b ≤ 100000000
  pub corner_is : corner_cap b ≡ b.corner * b.corner
  pub corner : corner_cap b ≤ 100000000

abbrev pub FiguresBounded : Type 0
FiguresBounded = (p : List ℤ) (m : Move) (percent : ℕ) → ValidPosition p → ValidMove m → percent ≤ 200 → Bounded (block_of p m percent)
