-- The whole root is the greatest number whose square fits.
use Rattle.std.proofs.Common.{◌≡◌, ℕ, zero, suc, ◌+◌, ◌*◌, ◌/◌, ◌^◌, ◌<◌, ◌≤◌, true, false, cond, leb, refl, inl, inr, add-mul, mul-le-mul, pow-suc, mul-add, arith}
use Rattle.std.proofs.lemmas.Bool.{leb-true, leb-false, cases_lt}
use Rattle.motion.specs.Roots.{WholeRoot, next_root, root_by, root}

-- between its own square and the next
abbrev Between : ℕ → ℕ → Type 0
Between n r = (r * r ≤ n) × (n < (r + 1) * (r + 1))

whole : (n r : ℕ) → Between n r → WholeRoot n r
whole n r h = record {
  fits = h.0;
  greatest = λ q k. elim (cases_lt r q) [
    | inl l ↦ absurd (let up : r + 1 ≤ q = omega arith in omega (arith, mul-le-mul up up))
    | inr l ↦ l
  ];
}

double : (r : ℕ) → (r + r) * (r + r) ≡ 4 * (r * r)
double r = simp (add-mul, mul-add) (omega arith)

double_next : (r : ℕ) → (r + r + 1 + 1) * (r + r + 1 + 1) ≡ 4 * ((r + 1) * (r + 1))
double_next r = simp (add-mul, mul-add) (omega arith)

next : (n r : ℕ) → Between (n / 4) r → Between n (next_root n r)
next n r h =
    elim (leb ((r + r + 1) * (r + r + 1)) n) as (λ b. leb ((r + r + 1) * (r + r + 1)) n ≡ b → Between n (cond b (r + r + 1) (r + r))) [
      | true ↦ λ t. (leb-true ((r + r + 1) * (r + r + 1)) n t, omega (arith, double_next r))
      | false ↦ λ f. (omega (arith, double r), leb-false ((r + r + 1) * (r + r + 1)) n f)
    ] refl

by : (k n : ℕ) → n < 4 ^ k → Between n (root_by k n)
by zero n h = (omega arith, omega arith)
by (suc k) n h = next n (root_by k (n / 4)) (by k (n / 4) (omega (arith, pow-suc 4 k)))

pub root_greatest : (n : ℕ) → n < 2 ^ 64 → WholeRoot n (root n)
unfolding root
root_greatest n h = whole n (root n) (by 32 n h)

same_root : (n r : ℕ) → n < 2 ^ 64 → Between n r → r ≡ root n
same_root n r h between =
    let w = whole n r between in
    let v = root_greatest n h in
    omega (arith, w.greatest (root n) v.fits, v.greatest r between.0)

-- a number between its square and the next is the root
pub rooted : (n m r : ℕ) → m ≡ n → m < 2 ^ 64 → r * r ≤ m → m < (r + 1) * (r + 1) → (r ≡ root n) × WholeRoot n r
rooted n m r same h low high =
    let between : Between n r = (omega arith, omega arith) in
    (same_root n r (omega arith) between, whole n r between)
