-- How deep a balanced tree is.
use Rattle.std.proofs.Common.{◌≡◌, ℕ, zero, suc, ◌+◌, ◌-◌, ◌^◌, ◌<◌, ◌≤◌, max, ◌⊎◌, refl, ap, inl, inr, ⊎_elim, arith, pow_mono, pow-add}
use Rattle.std.proofs.lemmas.Bool.{cases_eq, cases_lt}
use Rattle.kinds.specs.Balance.{fewest}
use Rattle.rows.specs.Shape.{Shape, leaf, node, count_of, depth_of, Balanced}

fewest_up : (d : ℕ) → fewest d ≤ fewest (suc d)
unfolding fewest
fewest_up zero = omega arith
fewest_up (suc d) = omega arith

fewest_twice : (d : ℕ) → fewest (suc d) ≤ fewest d + fewest d + 1
unfolding fewest
fewest_twice zero = omega arith
fewest_twice (suc d) = let h = fewest_up d in omega arith

fewest_two : (d : ℕ) → fewest (suc (suc d)) ≡ fewest (suc d) + fewest d + 1
unfolding fewest
fewest_two d = refl

pub fewest_mono : (d k : ℕ) → fewest d ≤ fewest (k + d)
fewest_mono d zero = let e : 0 + d ≡ d = omega arith in rw e (omega arith)
fewest_mono d (suc k) =
    let h = fewest_mono d k in
    let u = fewest_up (k + d) in
    let e : suc k + d ≡ suc (k + d) = omega arith in
    rw e (omega arith)

-- two sides whose depths differ by at most one
three : (a b : ℕ) → a ≤ b + 1 → b ≤ a + 1 → (a ≡ b) ⊎ ((a ≡ suc b) ⊎ (b ≡ suc a))
three a b h k = ⊎_elim (λ eq. inl eq) (λ ne. ⊎_elim (λ (eq : a ≡ suc b). inr (inl eq)) (λ no. inr (inr (omega arith))) (cases_eq a (suc b))) (cases_eq a b)

step : (a b m n : ℕ) → fewest a ≤ m → fewest b ≤ n → a ≤ b + 1 → b ≤ a + 1 → fewest (max a b + 1) ≤ m + n + 1
step a b m n x y h k =
    ⊎_elim (λ (eq : a ≡ b). let e : max a b + 1 ≡ suc a = omega arith in rw e (omega (arith, fewest_twice a, ap fewest eq)))
    (⊎_elim (λ (eq : a ≡ suc b). let e : max a b + 1 ≡ suc (suc b) = omega arith in rw e (omega (arith, fewest_two b, ap fewest eq)))
    (λ (eq : b ≡ suc a). let e : max a b + 1 ≡ suc (suc a) = omega arith in rw e (omega (arith, fewest_two a, ap fewest eq))))
    (three a b h k)

pub at_least_fewest : {E S : Type 0} (t : Shape E S) → Balanced t → fewest (depth_of t) ≤ count_of t
unfolding fewest
at_least_fewest leaf b = omega arith
at_least_fewest (node p x l r) b = step (depth_of l) (depth_of r) (count_of l) (count_of r) (at_least_fewest l b.2) (at_least_fewest r b.3) b.0 b.1

-- a balanced tree of depth 17 has at least 4,180 elements
pub shallow : {E S : Type 0} (t : Shape E S) → Balanced t → count_of t ≤ 4096 → depth_of t ≤ 16
unfolding fewest
shallow t b h =
    let d = at_least_fewest t b in
    ⊎_elim (λ (lt : depth_of t < 17). omega arith)
    (λ (ge : 17 ≤ depth_of t).
    let e : (depth_of t - 17) + 17 ≡ depth_of t = omega arith in
    let u = fewest_mono 17 (depth_of t - 17) in
    let v : fewest 17 ≤ fewest (depth_of t) = rw e at u in
    omega arith)
    (cases_lt (depth_of t) 17)

pub below_power : {E S : Type 0} (t : Shape E S) → count_of t < 2 ^ depth_of t
below_power leaf = omega arith
below_power (node p x l r) =
    let k = max (depth_of l) (depth_of r) in
    let a = below_power l in
    let b = below_power r in
    let hl : depth_of l ≤ k = omega arith in
    let hr : depth_of r ≤ k = omega arith in
    let d = pow-add 2 k 1 in
    omega (arith, pow_mono hl, pow_mono hr)
