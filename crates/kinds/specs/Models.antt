-- The rules of the kinds of this crate, with their laws.
use Rattle.std.specs.Prelude.{◌≡◌, ℕ, ◌≤◌, min}
use Rattle.std.proofs.Common.{arith}
use Rattle.kinds.specs.Rules.{Rule, Laws}
use Rattle.kinds.specs.Sums.{◌⊕◌, top, sum_laws}
use Rattle.kinds.specs.declared.Pair.{Pair}

-- the lesser of readings
abbrev pub thinnest : Rule ℕ ℕ
thinnest = record { one = λ e. min e 65535; unit = 65535; join = min }

abbrev pub fits16 : ℕ → Type 0
fits16 s = s ≤ 65535

pub thinnest_laws : Laws fits16 thinnest
thinnest_laws = record {
  one_valid = λ e. omega arith;
  unit_valid = omega arith;
  join_valid = λ x y p q. omega arith;
  unit_left = λ x p. omega arith;
  unit_right = λ x p. omega arith;
  assoc = λ x y z p q r. omega arith;
}

abbrev pub fits32 : ℕ → Type 0
fits32 s = s ≤ top

-- the sum of what f gives of each element
abbrev pub summed : {E : Type 0} → (E → ℕ) → Rule E ℕ
summed f = record { one = λ e. min (f e) top; unit = 0; join = ◌⊕◌ }

pub summed_laws : {E : Type 0} (f : E → ℕ) → Laws fits32 (summed f)
summed_laws f = record {
  one_valid = λ e. omega arith;
  unit_valid = omega arith;
  join_valid = λ x y p q. sum_laws.bounded x y;
  unit_left = λ x p. sum_laws.zero_left x p;
  unit_right = λ x p. sum_laws.zero_right x p;
  assoc = λ x y z p q r. sum_laws.assoc x y z;
}

-- the sum of readings
abbrev pub total : Rule ℕ ℕ
total = summed (λ reading. reading)

pub total_laws : Laws fits32 total
total_laws = summed_laws (λ reading. reading)

abbrev pub pair : {S T : Type 0} → S → T → Pair S T
pair s t = record { first = s; second = t }

-- two rules over one element type, side by side
abbrev pub both : {E S T : Type 0} → Rule E S → Rule E T → Rule E (Pair S T)
both m n = record {
  one = λ e. pair (m.one e) (n.one e);
  unit = pair m.unit n.unit;
  join = λ x y. pair (m.join x.first y.first) (n.join x.second y.second);
}

abbrev pub valid_both : {S T : Type 0} → (S → Type 0) → (T → Type 0) → Pair S T → Type 0
valid_both v w x = v x.first × w x.second

pairs_equal : {S T : Type 0} {a b : S} {c d : T} → a ≡ b → c ≡ d → pair a c ≡ pair b d
pairs_equal p q = cc

pub both_laws : {E S T : Type 0} {v : S → Type 0} {m : Rule E S} {w : T → Type 0} {n : Rule E T} → Laws v m → Laws w n → Laws (valid_both v w) (both m n)
both_laws a b = record {
  one_valid = λ e. (a.one_valid e, b.one_valid e);
  unit_valid = (a.unit_valid, b.unit_valid);
  join_valid = λ x y p q. (a.join_valid x.first y.first p.0 q.0, b.join_valid x.second y.second p.1 q.1);
  unit_left = λ x p. pairs_equal (a.unit_left x.first p.0) (b.unit_left x.second p.1);
  unit_right = λ x p. pairs_equal (a.unit_right x.first p.0) (b.unit_right x.second p.1);
  assoc = λ x y z p q r. pairs_equal (a.assoc x.first y.first z.first p.0 q.0 r.0) (b.assoc x.second y.second z.second p.1 q.1 r.1);
}
