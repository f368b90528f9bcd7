-- A list of calls, one after the other, from a state on: `step` is the state that a call leaves, and `tell` its answer.
use Rattle.std.specs.Prelude.{◌≡◌, ℕ, List, [], ◌∷◌}

abbrev pub left_by : {X C : Type 0} → (X → C → X) → X → List C → X
left_by step x [] = x
left_by step x (call ∷ calls) = left_by step (step x call) calls

abbrev pub answers_by : {X C A : Type 0} → (X → C → X) → (X → C → A) → X → List C → List A
answers_by step tell x [] = []
answers_by step tell x (call ∷ calls) = tell x call ∷ answers_by step tell (step x call) calls

-- The calls were made one after the other from x on: each was answered and left what `step` lets it, and the last left y.
abbrev pub Ran : {X C A : Type 0} → (X → C → A → X → Type 0) → X → List C → List A → X → Type 0
Ran step x [] [] y = y ≡ x
Ran step x [] (a ∷ told) y = ⊥
Ran step x (call ∷ calls) [] y = ⊥
Ran {X} step x (call ∷ calls) (a ∷ told) y = (z : X) × step x call a z × Ran step z calls told y

-- One call of whatever has a meaning: its answer and the meaning that it leaves are those of the rules, and a call that
-- alters nothing leaves all as it was.
pub record Step {X M C A : Type 0} (meaning : X → M) (answer : M → C → A) (after : M → C → M) (unaltering : C → A → Type 0) (before : X) (call : C) (told : A) (left : X) : Type 0 where
  pub value : told ≡ answer (meaning before) call
  pub leaves : meaning left ≡ after (meaning before) call
  pub same : unaltering call told → left ≡ before

-- so where the meaning is a list with a room, which stays
abbrev pub Listed : {X E C A : Type 0} → (X → ℕ) → (X → List E) → (ℕ → List E → C → A) → (ℕ → List E → C → List E) → (C → A → Type 0) → X → C → A → X → Type 0
Listed room list answer after unaltering = Step {M = ℕ × List _} (λ x. (room x, list x)) (λ m. answer m.0 m.1) (λ m call. (m.0, after m.0 m.1 call)) unaltering
