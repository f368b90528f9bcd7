-- Edits keep every reading at 2,000 or less.
use Rattle.std.proofs.Common.{◌≡◌, ℕ, ◌+◌, ◌<◌, ◌≤◌, ltb, List, [], length, sym, subst, ⊎_elim, arith}
use Rattle.std.specs.List.{remove}
use Rattle.std.proofs.lemmas.Bool.{cases_lt, cond_both, ltb-true}
use Rattle.std.proofs.lemmas.List.Edits.{length-remove, get_or-remove_below, get_or-remove_above}
use Rattle.sequences.specs.Lists.{delete_list}
use mathlib.Core.HLevel.{is_prop→PathP}
use Rattle.survey.specs.Readings.{Sound}
use Rattle.survey.specs.declared.Survey.{Survey, sound-type}

-- Two surveys that differ at most in the proof of what their type says are one.
pub same_survey : {S E M K : Type 0} {g h : _} (a b : Survey S E M K g h) → a.readings ≡ b.readings → a ≡ b
same_survey {S} {E} {M} {K} {g} {h} a b e = λ i. record { readings = e i; sound = is_prop→PathP (λ j. sound-type S E M K g h (e j)) (λ j. (h.sound [] (g.list (e j))).once) a.sound b.sound i }

module _ (xs : List ℕ) (i : ℕ) (sound : Sound xs) where
  sound_removed : i < length xs → Sound (remove xs i)
  sound_removed inside k h =
      let long = length-remove xs i inside in
      ⊎_elim
      (λ lt. subst (λ z. z ≤ 2000) (sym (get_or-remove_below xs i 0 k lt inside)) (sound k (omega arith)))
      (λ ge. subst (λ z. z ≤ 2000) (sym (get_or-remove_above xs i 0 k ge inside)) (sound (k + 1) (omega arith)))
      (cases_lt k i)

  pub sound_struck : Sound (delete_list xs i)
  sound_struck = cond_both (ltb i (length xs)) _ _ Sound (λ inside. sound_removed (ltb-true i (length xs) inside)) (λ _. sound)
