-- A workload on a plan, by the model: one call more.
use Rattle.std.proofs.Common.{◌≡◌, ℕ, ◌+◌, List, [], ◌∷◌, ◌++◌, sym, refl, ap, ◌∙◌, arith}
use Rattle.std.proofs.lemmas.List.FromFn.{map-range_with_len_more}
use Rattle.std.proofs.lemmas.List.Sums.{fold_push}
use Rattle.sequences.specs.Runs.{left_by, answers_by}
use Rattle.plan.specs.Calls.{answer, after, answers, after_all}
use Rattle.plan.specs.Models.{Model}
use Rattle.plan.specs.declared.calls.Answer.{Answer}
use Rattle.plan.specs.declared.calls.Call.{Call}
use Rattle.firmware.specs.Digests.{digested_by, digest_of}
use Rattle.firmware.specs.Seeded.{call_at, calls_of, draws_of}
use Rattle.firmware.specs.declared.seeded.Mix.{Mix}

left_push : (b : Model) (calls : List Call) (call : Call) → left_by after b (calls ++ (call ∷ [])) ≡ after (left_by after b calls) call
left_push b [] call = refl
left_push b (c ∷ calls) call = left_push (after b c) calls call

answers_push : (b : Model) (calls : List Call) (call : Call) → answers_by after answer b (calls ++ (call ∷ [])) ≡ answers_by after answer b calls ++ (answer (left_by after b calls) call ∷ [])
answers_push b [] call = refl
answers_push b (c ∷ calls) call = ap (λ told. answer b c ∷ told) (answers_push (after b c) calls call)

module _ (first : Model) (seed size : ℕ) (mix : Mix) where
  -- after n calls of the seed
  pub record Along (n digest : ℕ) (here : Model) : Type 0 where
    pub tells : digest ≡ digest_of (answers first (calls_of seed size mix n))
    pub leaves : here ≡ after_all first (calls_of seed size mix n)

  pub along_more : (n digest next : ℕ) (here there : Model) (call : Call) (a : Answer) → Along n digest here → call ≡ call_at (draws_of seed size n) mix → a ≡ answer here call → there ≡ after here call → next ≡ digested_by digest a → Along (n + 1) next there
  along_more n digest next here there call a so drawn told left is =
      let calls = calls_of seed size mix n in
      let more : calls_of seed size mix (n + 1) ≡ calls ++ (call ∷ []) = map-range_with_len_more (λ k. call_at (draws_of seed size k) mix) 0 n n (omega arith) ∙ ap (λ c. calls ++ (c ∷ [])) (sym drawn) in
      record {
        tells =
            is
            ∙ (λ i. digested_by (so.tells i) ((told ∙ ap (λ m. answer m call) so.leaves) i))
            ∙ sym (fold_push digested_by 0 (answers first calls) (answer (after_all first calls) call))
            ∙ ap digest_of (sym (answers_push first calls call) ∙ ap (answers first) (sym more));
        leaves = left ∙ ap (λ m. after m call) so.leaves ∙ sym (left_push first calls call) ∙ ap (after_all first) (sym more);
      }
