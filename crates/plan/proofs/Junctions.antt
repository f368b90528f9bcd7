-- What a plan tells of a junction: by parts it is what the passes give, and that is the greatest lawful profile.
use Rattle.std.proofs.Common.{◌≡◌, ℕ, ◌<◌, ◌≤◌, min, List, length, Ok, Err, Result, sym, ap, ◌∙◌, subst, ⊎_elim, arith, rules}
use Rattle.std.proofs.lemmas.Bool.Decides.{nat_tests}
use Rattle.std.proofs.lemmas.Bool.{cases_lt}
use Rattle.refusals.specs.declared.Refusal.{Refusal}
use Rattle.refusals.specs.declared.Refusal.TheVariants.{Speed, Blocked}
use Rattle.kinds.specs.Rules.{summary}
use Rattle.sequences.proofs.Rulings.{not_both}
use Rattle.motion.specs.declared.blocks.Block.{Block}
use Rattle.motion.specs.ByParts.{run_up_to, run_down_from}
use Rattle.motion.specs.Profiles.{at, Starts, Greatest, FirstBlocked, reverse_at, speeds_of, first_blocked, planned}
use Rattle.motion.specs.Runs.{through, run_down_rule}
use Rattle.motion.proofs.Blocking.{first_blocked_first}
use Rattle.motion.proofs.Laying.{laid_length}
use Rattle.motion.proofs.Lawfulness.{at_speeds, passes}
use Rattle.motion.proofs.Parting.{start_by_parts, speed_by_parts}
use Rattle.plan.specs.Models.{Model, blocks_of, no_range, speed_at, junction_told}
use Rattle.plan.specs.Promises.{JunctionRight}

module _ (blocks : List Block) (j s : ℕ) where
  -- by the start: the speeds of the passes, or the first blocked junction
  started : s ≤ reverse_at blocks 0 → speed_at j (planned blocks s) ≡ Ok (at (speeds_of blocks s) j)
  started low = grind (arith, nat_tests)

  stopped : reverse_at blocks 0 < s → speed_at j (planned blocks s) ≡ Err (Blocked (first_blocked blocks s))
  stopped high = grind (arith, nat_tests)

  pub driven_told : s ≤ through (summary run_down_rule blocks) 0 → j ≤ length blocks → speed_at j (planned blocks s) ≡ Ok (min (run_up_to blocks j s) (run_down_from blocks j))
  driven_told low within =
      let starts : s ≤ reverse_at blocks 0 = subst (λ z. s ≤ z) (sym (start_by_parts blocks)) low in
      started starts ∙ ap Ok (at_speeds blocks (length blocks) s j within ∙ speed_by_parts blocks s j starts within)

  pub blocked_told : through (summary run_down_rule blocks) 0 < s → speed_at j (planned blocks s) ≡ Err (Blocked (first_blocked blocks s))
  blocked_told high = stopped (subst (λ z. z < s) (sym (start_by_parts blocks)) high)

  -- where neither the start nor the junction is refused: the greatest profile, or the first blocked junction
  pub record Near (r : Result ℕ Refusal) : Type 0 where
    pub driven : Starts blocks (length blocks) s → (v : List ℕ) × Greatest blocks s v × (r ≡ Ok (at v j))
    pub one_greatest : (v : List ℕ) (x : ℕ) → Greatest blocks s v → r ≡ Ok x → x ≡ at v j
    pub blocked : (Starts blocks (length blocks) s → ⊥) → (m : ℕ) × FirstBlocked blocks s m × (r ≡ Err (Blocked m))
    pub only_blocked : (m : ℕ) → r ≡ Err (Blocked m) → FirstBlocked blocks s m × (Starts blocks (length blocks) s → ⊥)

  pub near : Near (speed_at j (planned blocks s))
  near =
      let all = passes blocks in
      ⊎_elim
      (λ high.
      let none : Starts blocks (length blocks) s → ⊥ = λ v. let low = (all.starts s).0 v in omega arith in
      let told = stopped high in
      record {
        driven = λ v. absurd (none v);
        one_greatest = λ v x most e. absurd (not_both (sym e ∙ told));
        blocked = λ _. (first_blocked blocks s, first_blocked_first blocks s none, told);
        only_blocked = λ m e. let same : first_blocked blocks s ≡ m = cc in (subst (FirstBlocked blocks s) same (first_blocked_first blocks s none), none);
      })
      (λ low.
      let starts = (all.starts s).1 low in
      let told = started low in
      let most = all.greatest s starts in
      record {
        driven = λ _. (speeds_of blocks s, most, told);
        one_greatest = λ v x greatest e. let same : x ≡ at (speeds_of blocks s) j = cc in same ∙ ap (λ w. at w j) (sym (all.one_greatest s v greatest));
        blocked = λ none. absurd (none starts);
        only_blocked = λ m e. absurd (not_both (sym told ∙ e));
      })
      (cases_lt (reverse_at blocks 0) s)

module _ (b : Model) (j s : ℕ) where
  abbrev xs : List Block
  xs = blocks_of b

  long : length xs ≡ length b.entries
  long = laid_length b.start b.entries

  pub told_fast : 100000000 < s → junction_told b j s ≡ Err Speed
  told_fast fast = grind (arith, nat_tests)

  pub told_far : s ≤ 100000000 → length xs < j → junction_told b j s ≡ Err no_range
  told_far slow past = grind (arith, nat_tests, long)

  pub told_near : s ≤ 100000000 → j ≤ length xs → junction_told b j s ≡ speed_at j (planned xs s)
  told_near slow within = grind (arith, nat_tests, long)

  pub junction_right : JunctionRight xs j s (junction_told b j s)
  junction_right =
      ⊎_elim
      (λ fast. subst (JunctionRight xs j s) (sym (told_fast fast)) (search rules))
      (λ slow. ⊎_elim
      (λ past. subst (JunctionRight xs j s) (sym (told_far slow past)) (search rules))
      (λ within. let n = subst (Near xs j s) (sym (told_near slow within)) (near xs j s) in
      record {
        too_fast = λ fast. absurd (omega arith);
        too_far = λ _ past. absurd (omega arith);
        driven = λ _ _. n.driven;
        one_greatest = n.one_greatest;
        blocked = λ _ _. n.blocked;
        only_blocked = n.only_blocked;
      })
      (cases_lt (length xs) j))
      (cases_lt 100000000 s)
