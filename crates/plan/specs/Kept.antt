-- Every model that a start, a room and blocks keep, and not only their own, which is the one that they stand for.
use Rattle.std.specs.Prelude.{◌≡◌, ℕ, List, ℤ}
use Rattle.motion.specs.declared.blocks.Block.{Block}
use Rattle.motion.specs.Ranges.{ValidPosition}
use Rattle.plan.specs.declared.calls.Call.{Call}
use Rattle.plan.specs.declared.calls.Answer.{Answer}
use Rattle.plan.specs.Calls.{answer, after, answers, after_all, Right, AllRight}
use Rattle.plan.specs.Keeping.{AllValid, Lie, modelled}
use Rattle.plan.specs.Models.{Model, blocks_of}

-- The start and the room are those of the model, and the blocks are its blocks. Its start and its moves were accepted.
-- A block keeps three coordinates of a target, so a model whose targets are longer or shorter lists is kept too.
pub record Keeps (b : Model) (start : List ℤ) (room : ℕ) (blocks : List Block) : Type 0 where
  pub starts : start ≡ b.start
  pub fits : room ≡ b.room
  pub holds : blocks ≡ blocks_of b
  pub begins : ValidPosition b.start
  pub entries : AllValid b.entries

-- Model b does as well as the own one: it answers a call alike, an answer that means what it must of the own one means so
-- of b, and what comes to stand for the own one after the call keeps b after it. The same goes for a list of calls.
pub record AsOwn (own b : Model) : Type 0 where
  pub answered : (call : Call) → answer own call ≡ answer b call
  pub right : (call : Call) (told : Answer) → Right own call told → Right b call told
  pub kept : (call : Call) (start : List ℤ) (room : ℕ) (blocks : List Block) → Lie start blocks → modelled start room blocks ≡ after own call → Keeps (after b call) start room blocks
  pub all_answered : (calls : List Call) → answers own calls ≡ answers b calls
  pub all_right : (calls : List Call) (told : List Answer) → AllRight own calls told → AllRight b calls told
  pub all_kept : (calls : List Call) (start : List ℤ) (room : ℕ) (blocks : List Block) → Lie start blocks → modelled start room blocks ≡ after_all own calls → Keeps (after_all b calls) start room blocks

-- blocks that lie keep their own model, and whichever model is kept does as well
pub record EveryModel : Type 0 where
  pub own : (start : List ℤ) (room : ℕ) (blocks : List Block) → Lie start blocks → Keeps (modelled start room blocks) start room blocks
  pub every : (b : Model) (start : List ℤ) (room : ℕ) (blocks : List Block) → Keeps b start room blocks → AsOwn (modelled start room blocks) b
