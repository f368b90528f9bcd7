-- A plan of three blocks worked through by numbers, with edits of it.
use Rattle.std.specs.Prelude.{◌≡◌, ℕ, List, [], ◌∷◌, map, ℤ, pos, slice_set}
use Rattle.std.specs.List.{remove}
use Rattle.kinds.specs.Balance.{fewest}
use Rattle.motion.specs.declared.blocks.Block.{Block}
use Rattle.motion.specs.Figures.{rise_of, fall_of, feed_of, own_cap, block_of}
use Rattle.motion.specs.Profiles.{junction_caps, Outcome, driven, refused, planned}
use Rattle.motion.specs.Laid.{Entry, laid, overridden}

abbrev pub position : ℕ → ℕ → ℕ → List ℤ
position x y z = pos x ∷ pos y ∷ pos z ∷ []

-- an entry by its target, acceleration, feed, corner and override
abbrev pub entry : List ℤ → ℕ → ℕ → ℕ → ℕ → Entry
entry target a f r p = record { move = record { target = target; acceleration = a; feed = f; corner = r }; percent = p }

abbrev pub middle : Entry
middle = entry (position 3000 4900 0) 100 2000 500 100

abbrev pub three : List Entry
three = entry (position 3000 4000 0) 100 2000 600 100 ∷ middle ∷ entry (position 9000 4900 0) 100 1000 0 100 ∷ []

abbrev pub blocks_of : List Entry → List Block
blocks_of es = laid (position 0 0 0) es

-- a list of entries, a start, the lengths of the blocks, and what planning comes to
pub record Case : Type 0 where
  pub entries : List Entry
  pub start : ℕ
  pub lengths : List ℕ
  pub outcome : Outcome

abbrev pub case : List Entry → ℕ → List ℕ → Outcome → Case
case es s ls o = record { entries = es; start = s; lengths = ls; outcome = o }

abbrev pub table : List Case
table = case three 0 (5000 ∷ 900 ∷ 6000 ∷ []) (driven (0 ∷ 360000 ∷ 250000 ∷ 0 ∷ []))
    ∷ case three 1360000 (5000 ∷ 900 ∷ 6000 ∷ []) (driven (1360000 ∷ 360000 ∷ 250000 ∷ 0 ∷ []))
    ∷ case three 1360001 (5000 ∷ 900 ∷ 6000 ∷ []) (refused 1)
    ∷ case (remove three 1) 0 (5000 ∷ 6067 ∷ []) (driven (0 ∷ 360000 ∷ 0 ∷ []))
    ∷ case (slice_set three 1 (entry (position 3000 4100 0) 100 2000 500 100)) 0 (5000 ∷ 100 ∷ 6053 ∷ []) (driven (0 ∷ 270000 ∷ 250000 ∷ 0 ∷ []))
    ∷ case (slice_set three 1 (overridden middle 25)) 0 (5000 ∷ 900 ∷ 6000 ∷ []) (driven (0 ∷ 250000 ∷ 250000 ∷ 0 ∷ []))
    ∷ []

-- a block from one place to another at a feed and an override
abbrev pub feeding : ℕ → ℕ → Block
feeding f p = block_of (position 0 0 0) (entry (position 0 0 0) 1 f 0 p).move p

pub record Worked : Type 0 where
  pub lengths : map (λ c. map (λ b. b.length) (blocks_of c.entries)) table ≡ map (λ c. c.lengths) table
  pub outcomes : map (λ c. planned (blocks_of c.entries) c.start) table ≡ map (λ c. c.outcome) table
  pub rises : map rise_of (blocks_of three) ≡ 1000000 ∷ 180000 ∷ 1200000 ∷ []
  pub falls : map fall_of (blocks_of three) ≡ 1000000 ∷ 180000 ∷ 1200000 ∷ []
  pub caps : junction_caps (blocks_of three) ≡ 4000000 ∷ 360000 ∷ 250000 ∷ 0 ∷ []
  pub slowest : feed_of (feeding 1 10) ≡ 1
  pub overridden_feed : feed_of (feeding 333 33) ≡ 109
  pub overridden_cap : own_cap (feeding 333 33) ≡ 11881
  pub fewest_elements : map fewest (16 ∷ 17 ∷ []) ≡ 2583 ∷ 4180 ∷ []
