-- How few elements a balanced tree of a given depth can hold.
use Rattle.std.specs.Prelude.{ℕ, zero, suc, ◌+◌}

-- one element, over a side of each of the two depths below
unfoldable pub fewest : ℕ → ℕ
fewest zero = 0
fewest (suc zero) = 1
fewest (suc (suc d)) = fewest (suc d) + fewest d + 1
