-- Run-up and run-down: what a range of blocks does to a squared speed, from its start to its end and back.
use Rattle.std.specs.Prelude.{◌≡◌, ℕ, ◌≤◌, min}
use Rattle.std.proofs.Common.{sym, ap, ◌∙◌, arith}
use Rattle.kinds.specs.Rules.{Rule, Laws}
use Rattle.kinds.specs.Sums.{◌⊕◌, top, sum_laws}
use Rattle.motion.specs.declared.blocks.Block.{Block}
use Rattle.motion.specs.declared.runs.Run.{Run}
use Rattle.motion.specs.Figures.{own_cap, corner_cap, rise_of, fall_of}

abbrev pub run : ℕ → ℕ → Run
run c k = record { cap = c; change = k }

-- of no blocks
abbrev pub no_run : Run
no_run = run top 0

abbrev pub fits_run : Run → Type 0
fits_run x = (x.cap ≤ top) × (x.change ≤ top)

-- a run-up at the speed before it, or a run-down at the speed after it
abbrev pub through : Run → ℕ → ℕ
through x speed = min x.cap (speed ⊕ x.change)

-- one run and then another, which takes up the speed where the first leaves it
abbrev pub followed : Run → Run → Run
followed x y = run (through y x.cap) (x.change ⊕ y.change)

abbrev pub run_up_rule : Rule Block Run
run_up_rule = record {
  one = λ b. run (min (own_cap b) (corner_cap b)) (rise_of b);
  unit = no_run;
  join = followed;
}

abbrev pub run_down_rule : Rule Block Run
run_down_rule = record {
  one = λ b. run (min (own_cap b) (corner_cap b ⊕ fall_of b)) (fall_of b);
  unit = no_run;
  join = λ x y. followed y x;
}

same_run : {c d k l : ℕ} → c ≡ d → k ≡ l → run c k ≡ run d l
same_run p q = cc

min_plus : (a b c : ℕ) → min a b ⊕ c ≡ min (a ⊕ c) (b ⊕ c)
min_plus a b c = omega arith

min_assoc : (a b c : ℕ) → min a (min b c) ≡ min (min a b) c
min_assoc a b c = omega arith

-- one run after another, at c
pub nested : (a b c g h : ℕ) → min a (min b (c ⊕ g) ⊕ h) ≡ min (min a (b ⊕ h)) (c ⊕ (g ⊕ h))
nested a b c g h =
    ap (min a) (min_plus b (c ⊕ g) h ∙ ap (min (b ⊕ h)) (sum_laws.assoc c g h)) ∙ min_assoc a (b ⊕ h) (c ⊕ (g ⊕ h))

pub nested_down : (a b c g h : ℕ) → min (min a (b ⊕ h)) (c ⊕ (h ⊕ g)) ≡ min a (min b (c ⊕ g) ⊕ h)
nested_down a b c g h = ap (λ n. min (min a (b ⊕ h)) (c ⊕ n)) (sum_laws.comm h g) ∙ sym (nested a b c g h)

-- a speed goes through one run, and then through the other
pub through_followed : (x y : Run) (s : ℕ) → through (followed x y) s ≡ through y (through x s)
through_followed x y s = sym (nested y.cap x.cap s x.change y.change)

pub through_unit : (s : ℕ) → s ≤ top → through no_run s ≡ s
through_unit s h = omega arith

followed_fits : (x y : Run) → fits_run x → fits_run y → fits_run (followed x y)
followed_fits x y p q = (omega (arith, p.0, q.0), sum_laws.bounded x.change y.change)

after_unit : (x : Run) → fits_run x → followed no_run x ≡ x
after_unit x p = same_run (omega (arith, p.0)) (sum_laws.zero_left x.change p.1)

before_unit : (x : Run) → fits_run x → followed x no_run ≡ x
before_unit x p = same_run (omega (arith, p.0)) (sum_laws.zero_right x.change p.1)

followed_assoc : (x y z : Run) → followed (followed x y) z ≡ followed x (followed y z)
followed_assoc x y z = same_run (sym (through_followed y z x.cap)) (sum_laws.assoc x.change y.change z.change)

pub run_up_laws : Laws fits_run run_up_rule
run_up_laws = record {
  one_valid = λ b. (omega arith, omega arith);
  unit_valid = (omega arith, omega arith);
  join_valid = followed_fits;
  unit_left = after_unit;
  unit_right = before_unit;
  assoc = λ x y z p q r. followed_assoc x y z;
}

pub run_down_laws : Laws fits_run run_down_rule
run_down_laws = record {
  one_valid = λ b. (omega arith, omega arith);
  unit_valid = (omega arith, omega arith);
  join_valid = λ x y p q. followed_fits y x q p;
  unit_left = before_unit;
  unit_right = after_unit;
  assoc = λ x y z p q r. sym (followed_assoc z y x);
}
