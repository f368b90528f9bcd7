-- What a kind of summary is: the summary of one element, the unit and the join, and the laws that they keep.
use Rattle.std.specs.Prelude.{◌≡◌, List, [], ◌∷◌}

pub record Rule (E S : Type 0) : Type 0 where
  pub one : E → S
  pub unit : S
  pub join : S → S → S

-- `valid` says which records can exist: each number in one fits its type.
pub record Laws {E S : Type 0} (valid : S → Type 0) (m : Rule E S) : Type 0 where
  pub one_valid : (e : E) → valid (m.one e)
  pub unit_valid : valid m.unit
  pub join_valid : (x y : S) → valid x → valid y → valid (m.join x y)
  pub unit_left : (x : S) → valid x → m.join m.unit x ≡ x
  pub unit_right : (x : S) → valid x → m.join x m.unit ≡ x
  pub assoc : (x y z : S) → valid x → valid y → valid z → m.join (m.join x y) z ≡ m.join x (m.join y z)

-- a summary, with the elements of a list joined to its right one after the other
abbrev pub joined_on : {E S : Type 0} → Rule E S → S → List E → S
joined_on m s [] = s
joined_on m s (x ∷ xs) = joined_on m (m.join s (m.one x)) xs

-- the elements of a list, joined from left to right; the unit where there is none
abbrev pub summary : {E S : Type 0} → Rule E S → List E → S
summary m xs = joined_on m m.unit xs
