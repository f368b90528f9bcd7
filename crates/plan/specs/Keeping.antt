-- What the blocks of a plan keep to, and the model that they stand for.
use Rattle.std.specs.Prelude.{◌≡◌, ℕ, ◌≤◌, cond, List, map, length, ℤ, Ok, Err, Result, nat_lt}
use Rattle.std.specs.List.{All}
use Rattle.std.proofs.Props.{props}
use Rattle.kinds.specs.Facts.{Fact}
use Rattle.refusals.specs.declared.Refusal.{Refusal}
use Rattle.sequences.specs.Lists.{no_place}
use Rattle.motion.specs.declared.blocks.Block.{Block}
use Rattle.motion.specs.declared.moves.Move.{Move}
use Rattle.motion.specs.Figures.{move_of}
use Rattle.motion.specs.Laid.{Entry, laid, begin_of, block_at}
use Rattle.motion.specs.Ranges.{check_move, ValidPosition, ValidMove}
use Rattle.plan.specs.Models.{Model, model, checked, at_full}

-- an accepted move at an accepted override
pub record ValidEntry (e : Entry) : Type 0 where
  pub move : ValidMove e.move
  pub least : 10 ≤ e.percent
  pub most : e.percent ≤ 200

abbrev pub AllValid : List Entry → Type 0
AllValid es = All ValidEntry es

-- the move that a block was made from, with its override
abbrev pub entry_of : Block → Entry
entry_of b = record { move = move_of b; percent = b.percent }

-- the model that a start, a room and blocks stand for
abbrev pub modelled : List ℤ → ℕ → List Block → Model
modelled start room blocks = model start room (map entry_of blocks)

-- The blocks lie one behind the other, the first from the start on: they are the blocks of their model. The start and
-- the moves were accepted.
pub record Lie (start : List ℤ) (blocks : List Block) : Type 0 where
  pub begins : ValidPosition start
  pub along : blocks ≡ laid start (map entry_of blocks)
  pub entries : AllValid (map entry_of blocks)

pub lie_one : (start : List ℤ) (blocks : List Block) → IsProp (Lie start blocks)
lie_one start blocks = hlevel props

-- what a plan keeps of the blocks that it stands on
abbrev pub lying : List ℤ → List Block → Fact
lying start blocks = record { holds = Lie start blocks; once = lie_one start blocks }

-- x, for every place up to the count
abbrev pub placed : {X : Type 0} → List Block → ℕ → X → Result X Refusal
placed blocks i x = cond (nat_lt (length blocks) i) (Err no_place) (Ok x)

-- where block i begins, for every place up to the count
abbrev pub begin_answer : List ℤ → List Block → ℕ → Result (List ℤ) Refusal
begin_answer start blocks i = placed blocks i (begin_of start blocks i)

-- the block that a move makes at place i, once the move is accepted
abbrev pub block_answer : List ℤ → List Block → ℕ → Move → Result Block Refusal
block_answer start blocks i m = checked (check_move m) (placed blocks i (block_at start blocks i (at_full m)))
