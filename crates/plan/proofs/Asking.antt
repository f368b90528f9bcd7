-- What a plan's questions read off the summaries of ranges.
use Rattle.std.proofs.Common.{◌≡◌, ℕ, ◌≤◌, Bool, true, false, cond, ltb, List, length, ℤ, Some, Ok, Err, Result, sym, ap, ◌∙◌, subst, ⊎_elim, arith}
use Rattle.std.specs.Bool.{then_some}
use Rattle.std.specs.List.{between}
use Rattle.std.specs.Result.{MatchResult, IsOkAnd}
use Rattle.std.proofs.lemmas.Bool.Decides.{nat_tests}
use Rattle.std.proofs.lemmas.Bool.{cases_lt, lt-ltb, le-ltb}
use Rattle.std.proofs.lemmas.List.Edits.{between_none, length-between}
use Rattle.std.proofs.lemmas.Result.{MatchResult-at_ok, MatchResult-at_err}
use Rattle.refusals.specs.declared.Refusal.{Refusal}
use Rattle.kinds.specs.declared.Pair.{Pair}
use Rattle.kinds.specs.Models.{both, pair}
use Rattle.kinds.specs.Rules.{summary}
use Rattle.kinds.proofs.Summaries.{summary_both}
use Rattle.motion.specs.declared.blocks.Block.{Block}
use Rattle.motion.specs.declared.extents.Extent.{Extent}
use Rattle.motion.specs.declared.runs.Run.{Run}
use Rattle.motion.specs.Extents.{reach_rule, span_rule}
use Rattle.motion.specs.Runs.{run_up_rule, run_down_rule}
use Rattle.sequences.specs.Lists.{ranged}
use Rattle.sequences.proofs.Rulings.{range_told}
use Rattle.plan.specs.Keeping.{Lie, modelled}
use Rattle.plan.specs.Models.{Model, blocks_of, box_of, no_range, plan_rule, reach_told, span_told}
use Rattle.plan.specs.Promises.{ReachRight, SpanRight}
use Rattle.plan.proofs.Editing.{ranged_answered}
use Rattle.plan.proofs.Elements.{ok_from_is_ok_and}
use Rattle.plan.proofs.Extents.{some_box, reach_right, span_right}

abbrev Summary : Type 0
Summary = Pair (Pair Run Run) (Pair Extent ℕ)

parts : (xs : List Block) → summary plan_rule xs ≡ pair (pair (summary run_up_rule xs) (summary run_down_rule xs)) (pair (summary reach_rule xs) (summary span_rule xs))
parts xs =
    let sides = summary_both (both run_up_rule run_down_rule) (both reach_rule span_rule) xs in
    let runs = summary_both run_up_rule run_down_rule xs in
    let extents = summary_both reach_rule span_rule xs in
    cc

-- what is told of a range that there is, or why none is
module _ {X : Type 0} (xs : List Block) (i j : ℕ) (x : X) where
  -- what a question makes of it
  by_cases : {Y : Type 0} (f : X → Y) (told : Result X Refusal) (r : Result Y Refusal) (P : X → Y → Type 0) (b c : Bool) → told ≡ cond b (Err no_range) (cond c (Err no_range) (Ok x)) → MatchResult told (λ z. IsOkAnd r (P z)) (λ e. r ≡ Err e) → ((z : X) (y : Y) → P z y → y ≡ f z) → r ≡ cond b (Err no_range) (cond c (Err no_range) (Ok (f x)))
  by_cases f told r P true c is cases means = MatchResult-at_err (λ z. IsOkAnd r (P z)) (λ e. r ≡ Err e) no_range is cases
  by_cases f told r P false true is cases means = MatchResult-at_err (λ z. IsOkAnd r (P z)) (λ e. r ≡ Err e) no_range is cases
  by_cases f told r P false false is cases means =
      let ok = ok_from_is_ok_and (P x) r (MatchResult-at_ok (λ z. IsOkAnd r (P z)) (λ e. r ≡ Err e) x is cases) in
      ok.1 ∙ ap Ok (means x ok.0 ok.2)

  pub made_of : {Y : Type 0} (f : X → Y) (told : Result X Refusal) (r : Result Y Refusal) (P : X → Y → Type 0) → told ≡ ranged no_range xs i j x → MatchResult told (λ z. IsOkAnd r (P z)) (λ e. r ≡ Err e) → ((z : X) (y : Y) → P z y → y ≡ f z) → r ≡ ranged no_range xs i j (f x)
  made_of f told r P = by_cases f told r P (ltb j i) (ltb (length xs) j)

  pub told_same : (y : X) → (i ≤ j → j ≤ length xs → x ≡ y) → ranged no_range xs i j x ≡ ranged no_range xs i j y
  told_same y same = grind (arith, nat_tests, same)

-- the runs of a range that is told, over the same blocks by another name
module _ (xs ys : List Block) (same : ys ≡ xs) (i j : ℕ) (y : Summary) (told : ranged no_range ys i j (summary plan_rule (between i j ys)) ≡ Ok y) where
  read : y ≡ summary plan_rule (between i j xs)
  read = (range_told no_range ys i j _ y told).2 ∙ ap (λ zs. summary plan_rule (between i j zs)) same

  pub run_up_read : y.first.first ≡ summary run_up_rule (between i j xs)
  run_up_read = ap (λ z. z.first.first) (read ∙ parts (between i j xs))

  pub run_down_read : y.first.second ≡ summary run_down_rule (between i j xs)
  run_down_read = ap (λ z. z.first.second) (read ∙ parts (between i j xs))

-- none of an empty range, and otherwise the box
pub box_told : (xs : List Block) (i j : ℕ) → i ≤ j → j ≤ length xs → then_some (ltb i j) (summary plan_rule (between i j xs)).second.first ≡ box_of (between i j xs)
box_told xs i j order within =
    let x = (summary plan_rule (between i j xs)).second.first in
    ⊎_elim
    (λ some. ap (λ t. then_some t x) (lt-ltb i j some) ∙ ap (λ z. Some z.second.first) (parts (between i j xs)) ∙ sym (some_box (between i j xs) (omega (arith, length-between xs i j within))))
    (λ none. let same : i ≡ j = omega arith in
    ap (λ t. then_some t x) (le-ltb i j none) ∙ sym (ap box_of (ap (λ n. between i n xs) (sym same) ∙ between_none xs i)))
    (cases_lt i j)

module _ (start : List ℤ) (room : ℕ) (xs : List Block) (lie : Lie start xs) (i j : ℕ) where
  abbrev b : Model
  b = modelled start room xs

  -- what is told of a range of the blocks is told of that range of the model
  told_of_model : {X : Type 0} (f : List Block → X) → ranged no_range xs i j (f xs) ≡ ranged no_range b.entries i j (f (blocks_of b))
  told_of_model f = sym (ranged_answered xs i j (f xs)) ∙ ap (λ ys. ranged no_range b.entries i j (f ys)) lie.along

  pub reach_tells : (r : _) → r ≡ ranged no_range xs i j (then_some (ltb i j) (summary plan_rule (between i j xs)).second.first) → (r ≡ reach_told b i j) × ReachRight (blocks_of b) i j r
  reach_tells r told =
      let tells : r ≡ reach_told b i j = told ∙ told_same xs i j _ _ (box_told xs i j) ∙ told_of_model (λ ys. box_of (between i j ys)) in
      (tells, subst (ReachRight (blocks_of b) i j) (sym tells) (reach_right b i j lie.entries))

  -- of a range that is told and not empty there is a box
  pub reach_some : (i ≡ j → ⊥) → (r : _) → r ≡ ranged no_range xs i j (Some (summary plan_rule (between i j xs)).second.first) → (r ≡ reach_told b i j) × ReachRight (blocks_of b) i j r
  reach_some some r told =
      let x = (summary plan_rule (between i j xs)).second.first in
      reach_tells r (told ∙ told_same xs i j _ _ (λ order within. sym (ap (λ t. then_some t x) (lt-ltb i j (omega (arith, order, some))))))

  pub span_tells : (r : _) → r ≡ ranged no_range xs i j (summary plan_rule (between i j xs)).second.second → (r ≡ span_told b i j) × SpanRight (blocks_of b) i j r
  span_tells r told =
      let tells : r ≡ span_told b i j = told ∙ ap (λ z. ranged no_range xs i j z.second.second) (parts (between i j xs)) ∙ told_of_model (λ ys. summary span_rule (between i j ys)) in
      (tells, subst (SpanRight (blocks_of b) i j) (sym tells) (span_right b i j))
