-- The ranges of positions and moves, and how a check answers.
use Rattle.std.specs.Prelude.{ℕ, ◌≤◌, Bool, cond, ◌&&◌, List, ℤ, pos, neg_ℤ, ◌≤ℤ◌, Ok, Err, Result, nat_le, slice_index_or, unsigned_abs}
use Rattle.refusals.specs.declared.Refusal.{Refusal}
use Rattle.refusals.specs.declared.Refusal.TheVariants.{Coordinate, Rate}
use Rattle.motion.specs.declared.moves.Move.{Move}

-- coordinate i of a position: x, y, z
abbrev pub axis : List ℤ → ℕ → ℤ
axis p i = slice_index_or p i (pos 0)

-- a coordinate is at most n, either way
pub record Within (z : ℤ) (n : ℕ) : Type 0 where
  pub low : neg_ℤ (pos n) ≤ℤ z
  pub high : z ≤ℤ pos n

pub record ValidPosition (p : List ℤ) : Type 0 where
  pub x : Within (axis p 0) 100000
  pub y : Within (axis p 1) 100000
  pub z : Within (axis p 2) 10000

pub record ValidMove (m : Move) : Type 0 where
  pub target : ValidPosition m.target
  pub moving : 1 ≤ m.acceleration
  pub acceleration : m.acceleration ≤ 2000
  pub feeding : 1 ≤ m.feed
  pub feed : m.feed ≤ 5000
  pub corner : m.corner ≤ 10000

abbrev pub position_fits : List ℤ → Bool
position_fits p = nat_le (unsigned_abs (axis p 0)) 100000 && nat_le (unsigned_abs (axis p 1)) 100000 && nat_le (unsigned_abs (axis p 2)) 10000

abbrev pub rates_fit : Move → Bool
rates_fit m = nat_le 1 m.acceleration && nat_le m.acceleration 2000 && nat_le 1 m.feed && nat_le m.feed 5000 && nat_le m.corner 10000

abbrev pub check_position : List ℤ → Result (Unit {0}) Refusal
check_position p = cond (position_fits p) (Ok tt) (Err Coordinate)

abbrev pub check_move : Move → Result (Unit {0}) Refusal
check_move m = cond (position_fits m.target) (cond (rates_fit m) (Ok tt) (Err Rate)) (Err Coordinate)
