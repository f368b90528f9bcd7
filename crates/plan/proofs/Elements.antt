-- What is told of a block that is read at a place, by whether there is one.
use Rattle.std.proofs.Common.{◌≡◌, ℕ, ◌<◌, ◌≤◌, List, length, get_or, Ok, Err, Result, sym, refl, ap, ◌∙◌, ⊎_elim}
use Rattle.std.specs.Result.{MatchResult, IsOkAnd}
use Rattle.std.proofs.lemmas.Bool.{cases_lt}
use Rattle.std.proofs.lemmas.Option.{slice_get-get_or}
use Rattle.std.proofs.lemmas.Result.{MatchResult-at_ok, MatchResult-at_err}
use Rattle.refusals.specs.declared.Refusal.{Refusal}
use Rattle.sequences.specs.Lists.{no_place, found, element_answer}
use Rattle.sequences.proofs.Rulings.{element_none}
use Rattle.motion.specs.declared.blocks.Block.{Block}
use Rattle.motion.specs.Figures.{own_cap}
use Rattle.motion.specs.Laid.{idle}
use Rattle.motion.specs.Profiles.{own_at}
use Rattle.motion.proofs.Lawfulness.{own_at_is, own_past}

pub ok_from_is_ok_and : {X Y : Type 0} (P : X → Type 0) (r : Result X Y) → IsOkAnd r P → (x : X) × (r ≡ Ok x) × P x
ok_from_is_ok_and P (Ok x) met = (x, refl, met)
ok_from_is_ok_and P (Err e) met = absurd met

module _ (blocks : List Block) (i : ℕ) (told : Result Block Refusal) (is : told ≡ element_answer blocks i) where
  read : (P : Block → Type 0) (Q : Refusal → Type 0) {X : Type 0} → MatchResult told P Q → (i < length blocks → P (get_or blocks i idle) → X) → (length blocks ≤ i → Q no_place → X) → X
  read P Q cases there past =
      ⊎_elim
      (λ within. there within (MatchResult-at_ok P Q (get_or blocks i idle) (is ∙ ap found (slice_get-get_or blocks i idle within)) cases))
      (λ out. past out (MatchResult-at_err P Q no_place (is ∙ element_none blocks i out) cases))
      (cases_lt i (length blocks))

  pub owns : (r : ℕ) (P : Block → Type 0) → MatchResult told P (λ _. r ≡ 0) → ((x : Block) → P x → r ≡ own_cap x) → r ≡ own_at blocks i
  owns r P cases means =
      read P (λ _. r ≡ 0) cases
      (λ within met. means (get_or blocks i idle) met ∙ sym (own_at_is blocks i idle within))
      (λ out met. met ∙ sym (own_past blocks i out))
