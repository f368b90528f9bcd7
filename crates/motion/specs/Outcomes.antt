-- What is asked of a call that plans.
use Rattle.std.specs.Prelude.{ℕ, List, Ok, Err, Result}
use Rattle.motion.specs.declared.passes.Unplanned.{Unplanned}
use Rattle.motion.specs.declared.passes.Unplanned.TheVariants.{Blocked, Memory}
use Rattle.motion.specs.Profiles.{Outcome, driven, refused}

-- P of what planning comes to, at a result whose value holds the speeds; where memory did not suffice, nothing
abbrev pub IfPlanned : {V : Type 0} → (V → List ℕ) → Result V Unplanned → (Outcome → Type 0) → Type 0
IfPlanned speeds (Ok v) P = P (driven (speeds v))
IfPlanned speeds (Err (Blocked m)) P = P (refused m)
IfPlanned speeds (Err (Memory error)) P = Unit
