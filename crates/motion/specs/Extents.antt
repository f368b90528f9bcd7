-- Reach and span: the box of the targets of a range of blocks, and its length.
use Rattle.std.specs.Prelude.{◌≡◌, ℕ, ℤ, pos, negsuc, ◌≤ℤ◌}
use Rattle.std.proofs.Common.{arith}
use Rattle.std.specs.Int.{int_min, int_max}
use Rattle.std.proofs.lemmas.Int.{ints, clamps}
use Rattle.kinds.specs.Rules.{Rule, Laws}
use Rattle.kinds.specs.Models.{fits32, summed, summed_laws}
use Rattle.motion.specs.declared.blocks.Block.{Block}
use Rattle.motion.specs.declared.extents.Bounds.{Bounds}
use Rattle.motion.specs.declared.extents.Extent.{Extent}

-- the greatest and the least 32-bit signed number
abbrev pub greatest32 : ℤ
greatest32 = pos 2147483647

abbrev pub least32 : ℤ
least32 = negsuc 2147483647

abbrev pub signed32 : ℤ → Type 0
signed32 z = (least32 ≤ℤ z) × (z ≤ℤ greatest32)

-- a coordinate, as far as 32 bits go
abbrev pub clamped : ℤ → ℤ
clamped z = int_max least32 (int_min greatest32 z)

abbrev pub bounds : ℤ → ℤ → Bounds
bounds a b = record { least = a; greatest = b }

abbrev pub fits_bounds : Bounds → Type 0
fits_bounds b = signed32 b.least × signed32 b.greatest

-- the bounds of coordinates along one axis
abbrev pub bounds_rule : Rule ℤ Bounds
bounds_rule = record {
  one = λ z. bounds (clamped z) (clamped z);
  unit = bounds greatest32 least32;
  join = λ a b. bounds (int_min a.least b.least) (int_max a.greatest b.greatest);
}

abbrev pub extent : Bounds → Bounds → Bounds → Extent
extent a b c = record { x = a; y = b; z = c }

abbrev pub fits_extent : Extent → Type 0
fits_extent e = fits_bounds e.x × fits_bounds e.y × fits_bounds e.z

-- and those of targets along all three
abbrev pub reach_rule : Rule Block Extent
reach_rule = record {
  one = λ b. extent (bounds_rule.one b.x) (bounds_rule.one b.y) (bounds_rule.one b.z);
  unit = extent bounds_rule.unit bounds_rule.unit bounds_rule.unit;
  join = λ a b. extent (bounds_rule.join a.x b.x) (bounds_rule.join a.y b.y) (bounds_rule.join a.z b.z);
}

abbrev pub span_rule : Rule Block ℕ
span_rule = summed (λ b. b.length)

pub span_laws : Laws fits32 span_rule
span_laws = summed_laws (λ b. b.length)

same_bounds : {a b c d : ℤ} → a ≡ c → b ≡ d → bounds a b ≡ bounds c d
same_bounds p q = cc

clamped_fits : (z : ℤ) → signed32 (clamped z)
clamped_fits z = (omega (arith, ints, clamps), omega (arith, ints, clamps))

greatest_signed : signed32 greatest32
greatest_signed = (omega (arith, ints), omega (arith, ints))

least_signed : signed32 least32
least_signed = (omega (arith, ints), omega (arith, ints))

least_fits : (a b : ℤ) → signed32 a → signed32 b → signed32 (int_min a b)
least_fits a b p q = (omega (arith, ints, clamps), omega (arith, ints, clamps))

greatest_fits : (a b : ℤ) → signed32 a → signed32 b → signed32 (int_max a b)
greatest_fits a b p q = (omega (arith, ints, clamps), omega (arith, ints, clamps))

least_left : (a : ℤ) → signed32 a → int_min greatest32 a ≡ a
least_left a p = omega (arith, ints, clamps)

least_right : (a : ℤ) → signed32 a → int_min a greatest32 ≡ a
least_right a p = omega (arith, ints, clamps)

greatest_left : (a : ℤ) → signed32 a → int_max least32 a ≡ a
greatest_left a p = omega (arith, ints, clamps)

greatest_right : (a : ℤ) → signed32 a → int_max a least32 ≡ a
greatest_right a p = omega (arith, ints, clamps)

least_assoc : (a b c : ℤ) → int_min (int_min a b) c ≡ int_min a (int_min b c)
least_assoc a b c = omega (arith, ints, clamps)

greatest_assoc : (a b c : ℤ) → int_max (int_max a b) c ≡ int_max a (int_max b c)
greatest_assoc a b c = omega (arith, ints, clamps)

pub bounds_laws : Laws fits_bounds bounds_rule
bounds_laws = record {
  one_valid = λ z. (clamped_fits z, clamped_fits z);
  unit_valid = (greatest_signed, least_signed);
  join_valid = λ a b p q. (least_fits a.least b.least p.0 q.0, greatest_fits a.greatest b.greatest p.1 q.1);
  unit_left = λ a p. same_bounds (least_left a.least p.0) (greatest_left a.greatest p.1);
  unit_right = λ a p. same_bounds (least_right a.least p.0) (greatest_right a.greatest p.1);
  assoc = λ a b c p q r. same_bounds (least_assoc a.least b.least c.least) (greatest_assoc a.greatest b.greatest c.greatest);
}

pub same_extent : {a b c d e f : Bounds} → a ≡ d → b ≡ e → c ≡ f → extent a b c ≡ extent d e f
same_extent p q r = cc

-- axis by axis
pub reach_laws : Laws fits_extent reach_rule
reach_laws = record {
  one_valid = λ b. (bounds_laws.one_valid b.x, bounds_laws.one_valid b.y, bounds_laws.one_valid b.z);
  unit_valid = (bounds_laws.unit_valid, bounds_laws.unit_valid, bounds_laws.unit_valid);
  join_valid = λ a b p q. (
    bounds_laws.join_valid a.x b.x p.0 q.0,
    bounds_laws.join_valid a.y b.y p.1 q.1,
    bounds_laws.join_valid a.z b.z p.2 q.2,
  );
  unit_left = λ a p. same_extent (bounds_laws.unit_left a.x p.0) (bounds_laws.unit_left a.y p.1) (bounds_laws.unit_left a.z p.2);
  unit_right = λ a p. same_extent (bounds_laws.unit_right a.x p.0) (bounds_laws.unit_right a.y p.1) (bounds_laws.unit_right a.z p.2);
  assoc = λ a b c p q r. same_extent
      (bounds_laws.assoc a.x b.x c.x p.0 q.0 r.0)
      (bounds_laws.assoc a.y b.y c.y p.1 q.1 r.1)
      (bounds_laws.assoc a.z b.z c.z p.2 q.2 r.2);
}
