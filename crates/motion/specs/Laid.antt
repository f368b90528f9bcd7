-- The blocks along a list of moves: the first begins at the start, every other at the target of the one before it.
use Rattle.std.specs.Prelude.{◌≡◌, ℕ, zero, suc, ◌<◌, ◌≤◌, List, [], ◌∷◌, length, ℤ, pos, slice_index_or, slice_set}
use Rattle.std.specs.List.{insert as inserted, remove as removed}
use Rattle.motion.specs.declared.moves.Move.{Move}
use Rattle.motion.specs.declared.blocks.Block.{Block}
use Rattle.motion.specs.Figures.{block_of, target_of, begun_at, at_percent}

-- a move with its override
pub record Entry : Type 0 where
  pub move : Move
  pub percent : ℕ

abbrev pub laid : List ℤ → List Entry → List Block
laid start [] = []
laid start (e ∷ es) = block_of start e.move e.percent ∷ laid e.move.target es

-- an entry with another override
abbrev pub overridden : Entry → ℕ → Entry
overridden e percent = record { move = e.move; percent = percent }

-- what is read past the last block
abbrev pub idle : Block
idle = record { begin_x = pos 0; begin_y = pos 0; begin_z = pos 0; x = pos 0; y = pos 0; z = pos 0; acceleration = 0; feed = 0; corner = 0; percent = 0; length = 0 }

-- where block i begins
abbrev pub begin_of : List ℤ → List Block → ℕ → List ℤ
begin_of start blocks zero = start
begin_of start blocks (suc i) = target_of (slice_index_or blocks i idle)

-- the block of an entry that stands at place i
abbrev pub block_at : List ℤ → List Block → ℕ → Entry → Block
block_at start blocks i e = block_of (begin_of start blocks i) e.move e.percent

-- block i begun again at a position; no change past the last block
abbrev pub begun_again : List Block → ℕ → List ℤ → List Block
begun_again blocks i p = slice_set blocks i (begun_at (slice_index_or blocks i idle) p)

-- what an edit of the entries does to the blocks: one block changes, and the one after it begins again
pub record Edits (start : List ℤ) (es : List Entry) : Type 0 where
  pub insert : (i : ℕ) (e : Entry) → i ≤ length es → laid start (inserted es i e) ≡ begun_again (inserted (laid start es) i (block_at start (laid start es) i e)) (suc i) e.move.target
  pub remove : (i : ℕ) → i < length es → laid start (removed es i) ≡ begun_again (removed (laid start es) i) i (begin_of start (laid start es) i)
  pub replace : (i : ℕ) (e : Entry) → i < length es → laid start (slice_set es i e) ≡ begun_again (slice_set (laid start es) i (block_at start (laid start es) i e)) (suc i) e.move.target
  pub override : (i percent : ℕ) (e : Entry) → laid start (slice_set es i (overridden (slice_index_or es i e) percent)) ≡ slice_set (laid start es) i (at_percent (slice_index_or (laid start es) i idle) percent)
  pub restart : (p : List ℤ) → laid p es ≡ begun_again (laid start es) 0 p
