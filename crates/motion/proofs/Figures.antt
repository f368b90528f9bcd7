-- The figures of blocks whose moves are in range.
use Rattle.std.proofs.Common.{◌≡◌, ℕ, ◌+◌, ◌*◌, ◌≤◌, List, ℤ, ◌-ℤ◌, nat_abs, inl, inr, mul-le-mul, arith}
use Rattle.std.proofs.lemmas.Int.{ints}
use Rattle.std.proofs.lemmas.Bool.{cases_lt}
use Rattle.motion.specs.Ranges.{axis, Within, ValidPosition}
use Rattle.motion.specs.Roots.{root}
use Rattle.motion.specs.Figures.{square_of, apart, length_of, block_of, feed_of, FiguresBounded}
use Rattle.motion.proofs.Rooted.{root_greatest}

-- two coordinates in range are at most twice as far apart
apart_most : (a b : ℤ) (n : ℕ) → Within a n → Within b n → nat_abs (b -ℤ a) ≤ n + n
apart_most a b n p q = omega (arith, ints, p.low, p.high, q.low, q.high)

apart_few : (p q : List ℤ) → ValidPosition p → ValidPosition q → (apart p q 0 ≤ 200000) × (apart p q 1 ≤ 200000)
apart_few p q v w = (apart_most (axis p 0) (axis q 0) 100000 v.x w.x, apart_most (axis p 1) (axis q 1) 100000 v.y w.y)

length_most : (p q : List ℤ) → ValidPosition p → ValidPosition q → length_of p q ≤ 282842
length_most p q v w =
    let square = square_of (apart p q 0) (apart p q 1) in
    let near = apart_few p q v w in
    let few : square ≤ 200000 * 200000 + 200000 * 200000 = omega (arith, mul-le-mul near.0 near.0, mul-le-mul near.1 near.1) in
    let r = root_greatest square (omega arith) in
    elim (cases_lt 282842 (root square)) [
      | inl l ↦ absurd (let up : 282843 ≤ root square = omega arith in omega (arith, r.fits, few, mul-le-mul up up))
      | inr l ↦ l
    ]

-- so near positions have the square of their distance in full
pub square_valid : (p q : List ℤ) → ValidPosition p → ValidPosition q → square_of (apart p q 0) (apart p q 1) ≡ apart p q 0 * apart p q 0 + apart p q 1 * apart p q 1
square_valid p q v w =
    let few = apart_few p q v w in
    omega (arith, mul-le-mul few.0 few.0, mul-le-mul few.1 few.1)

pub figures_bounded : FiguresBounded
figures_bounded p m percent v w h =
    let b = block_of p m percent in
    let twice : 2 * m.acceleration ≤ 4000 = omega (arith, w.acceleration) in
    let change : 2 * m.acceleration * length_of p m.target ≤ 4000 * 282842 = mul-le-mul twice (length_most p m.target v w.target) in
    let feed : feed_of b ≤ 10000 = omega (arith, mul-le-mul w.feed h) in
    let own : feed_of b * feed_of b ≤ 10000 * 10000 = mul-le-mul feed feed in
    let corner : m.corner * m.corner ≤ 10000 * 10000 = mul-le-mul w.corner w.corner in
    record {
      rise_is = omega arith;
      rise = omega arith;
      fall_is = omega arith;
      fall = omega arith;
      own_is = omega arith;
      own = omega arith;
      corner_is = omega arith;
      corner = omega arith;
    }
