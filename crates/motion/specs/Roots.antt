-- The whole root of a number.
use Rattle.std.specs.Prelude.{ℕ, zero, suc, ◌+◌, ◌*◌, ◌/◌, ◌≤◌, cond, nat_le}

-- r is the greatest number whose square is at most n
pub record WholeRoot (n r : ℕ) : Type 0 where
  pub fits : r * r ≤ n
  pub greatest : (q : ℕ) → q * q ≤ n → q ≤ r

-- from r, the root of n / 4, to the root of n: one binary digit more
abbrev pub next_root : ℕ → ℕ → ℕ
next_root n r = cond (nat_le ((r + r + 1) * (r + r + 1)) n) (r + r + 1) (r + r)

-- the root of n below 4 ^ k
abbrev pub root_by : ℕ → ℕ → ℕ
root_by zero n = 0
root_by (suc k) n = next_root n (root_by k (n / 4))

-- the root of n below 2 ^ 64
unfoldable pub root : ℕ → ℕ
root n = root_by 32 n
