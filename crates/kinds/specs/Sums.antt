-- The sum of two numbers that stops at the greatest 32-bit number, and its laws.
use Rattle.std.specs.Prelude.{◌≡◌, ℕ, ◌+◌, ◌≤◌, min}
use Rattle.std.proofs.Common.{arith}

abbrev pub top : ℕ
top = 4294967295

infixl 6 ◌⊕◌
abbrev pub ◌⊕◌ : ℕ → ℕ → ℕ
u ⊕ v = min (u + v) top

pub record SumLaws : Type 0 where
  pub bounded : (u v : ℕ) → (u ⊕ v) ≤ top
  pub zero_left : (u : ℕ) → u ≤ top → (0 ⊕ u) ≡ u
  pub zero_right : (u : ℕ) → u ≤ top → (u ⊕ 0) ≡ u
  pub comm : (u v : ℕ) → (u ⊕ v) ≡ (v ⊕ u)
  pub assoc : (u v w : ℕ) → ((u ⊕ v) ⊕ w) ≡ (u ⊕ (v ⊕ w))
  pub grows : (u v w : ℕ) → u ≤ v → (u ⊕ w) ≤ (v ⊕ w)

pub sum_laws : SumLaws
sum_laws = record {
  bounded = λ u v. omega arith;
  zero_left = λ u h. omega arith;
  zero_right = λ u h. omega arith;
  comm = λ u v. omega arith;
  assoc = λ u v w. omega arith;
  grows = λ u v w h. omega arith;
}
