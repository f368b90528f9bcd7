-- Where no lawful profile has a start.
use Rattle.std.proofs.Common.{◌≡◌, ℕ, zero, suc, ◌+◌, ◌<◌, ◌≤◌, true, false, cond, leb, List, length, Result, Ok, Err, refl, sym, ap, subst, inl, inr, arith}
use Rattle.std.proofs.lemmas.Bool.{leb-true, leb-false, cases_lt}
use Rattle.motion.specs.declared.blocks.Block.{Block}
use Rattle.motion.specs.declared.passes.Unplanned.{Unplanned}
use Rattle.motion.specs.declared.passes.Unplanned.TheVariants.{Blocked, Memory}
use Rattle.motion.specs.Outcomes.{IfPlanned}
use Rattle.motion.specs.Profiles.{Starts, FirstBlocked, reverse_at, greatest_start, speeds_of, blocked_from, first_blocked, driven, refused, planned, Right, Prefixes}
use Rattle.motion.proofs.Lawfulness.{start_under, starts_at, greatest, falls, whole}

module _ (blocks : List Block) (s : ℕ) where
  -- what the search finds: too fast at m, and not before
  abbrev Found : ℕ → ℕ → Type 0
  Found n m = (m ≤ n) × (greatest_start blocks m < s) × ((k : ℕ) → k < m → s ≤ greatest_start blocks k)

  search_from : (n m d : ℕ) → m + d ≡ n → greatest_start blocks n < s → ((k : ℕ) → k < m → s ≤ greatest_start blocks k) → Found n (blocked_from blocks s m d)
  search_from n m zero e fast before =
      let same : m ≡ n = omega arith in
      (omega arith, omega (arith, ap (greatest_start blocks) same), before)
  search_from n m (suc d) e fast before =
      elim (leb s (greatest_start blocks m)) as (λ b. leb s (greatest_start blocks m) ≡ b → Found n (cond b (blocked_from blocks s (suc m) d) m)) [
        | true ↦ λ t. search_from n (suc m) d (omega arith) fast (λ k h. elim (cases_lt k m) [ inl l ↦ before k l | inr l ↦ (let same : m ≡ k = omega arith in omega (arith, ap (greatest_start blocks) same, leb-true s (greatest_start blocks m) t)) ])
        | false ↦ λ f. (omega arith, leb-false s (greatest_start blocks m) f, before)
      ] refl

  pub first_blocked_first : (Starts blocks (length blocks) s → ⊥) → FirstBlocked blocks s (first_blocked blocks s)
  first_blocked_first none =
      let n = length blocks in
      let fast : greatest_start blocks n < s = elim (cases_lt (greatest_start blocks n) s) [ inl l ↦ l | inr l ↦ absurd (none (starts_at blocks n s l)) ] in
      let found = search_from n 0 n (omega arith) fast (λ k h. absurd (omega arith)) in
      record {
        within = found.0;
        blocked = λ v. omega (arith, found.1, start_under blocks (first_blocked blocks s) s v);
        open_before = λ k h. starts_at blocks k s (found.2 k h);
      }

  planned_right : Right blocks s (planned blocks s)
  planned_right =
      let n = length blocks in
      let r = reverse_at blocks 0 in
      elim (leb s r) as (λ b. leb s r ≡ b → Right blocks s (cond b (driven (speeds_of blocks s)) (refused (first_blocked blocks s)))) [
        | true ↦ λ t. greatest blocks s (starts_at blocks n s (omega (arith, whole blocks, leb-true s r t)))
        | false ↦ λ f. first_blocked_first (λ v. omega (arith, whole blocks, leb-false s r f, start_under blocks n s v))
      ] refl

-- what is planned is right, whatever call tells it
pub planned_then_right : {V : Type 0} (speeds : V → List ℕ) (result : Result V Unplanned) (blocks : List Block) (s : ℕ) → IfPlanned speeds result (λ o. o ≡ planned blocks s) → IfPlanned speeds result (Right blocks s)
planned_then_right speeds (Ok v) blocks s e = subst (Right blocks s) (sym e) (planned_right blocks s)
planned_then_right speeds (Err (Blocked m)) blocks s e = subst (Right blocks s) (sym e) (planned_right blocks s)
planned_then_right speeds (Err (Memory error)) blocks s e = tt

pub prefixes : (blocks : List Block) → Prefixes blocks
prefixes blocks = record {
  starts = λ m s. (start_under blocks m s, starts_at blocks m s);
  falls = falls blocks;
  blocked = first_blocked_first blocks;
}
