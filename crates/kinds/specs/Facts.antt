-- What a type over a sequence keeps its elements to.
use Rattle.std.specs.Prelude.{ℕ, ◌<◌, ◌≤◌, List, length, slice_index}
use Rattle.std.specs.Coded.{Π_prop, →_prop, ×_prop, Unit-prop, le_prop}

-- a fact of which there is one proof at most
pub record Fact : Type 1 where
  pub holds : Type 0
  pub once : IsProp holds

-- nothing is asked
abbrev pub always : Fact
always = record { holds = Unit {0}; once = Unit-prop }

abbrev pub both_facts : Fact → Fact → Fact
both_facts a b = record { holds = a.holds × b.holds; once = ×_prop a.once b.once }

-- No reading passes 2,000: a survey keeps to that.
abbrev pub Sound : List ℕ → Type 0
Sound xs = (k : ℕ) → k < length xs → slice_index xs k ≤ 2000

pub sound_once : (xs : List ℕ) → IsProp (Sound xs)
sound_once xs = Π_prop (λ k. →_prop le_prop)

abbrev pub sound_readings : List ℕ → Fact
sound_readings xs = record { holds = Sound xs; once = sound_once xs }
