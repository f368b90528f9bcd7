-- A list of calls made one after the other: one call more, and what comes of it where the answers follow from a state.
use Rattle.std.proofs.Common.{◌≡◌, ℕ, ◌+◌, ◌<◌, true, false, List, [], ◌∷◌, ◌++◌, length, get_or, take, Ok, Err, Result, IfOk, is_ok, sym, refl, ap, ◌∙◌, subst, arith}
use Rattle.std.proofs.lemmas.List.{take_more}
use Rattle.sequences.specs.Runs.{Ran, left_by, answers_by, Step, Listed}

module _ {X C A : Type 0} (step : X → C → A → X → Type 0) where
  ran_more : (x : X) (calls : List C) (told : List A) (y : X) (call : C) (a : A) (z : X) → Ran step x calls told y → step y call a z → Ran step x (calls ++ (call ∷ [])) (told ++ (a ∷ [])) z
  ran_more x [] [] y call a z ran made = (z, subst (λ w. step w call a z) ran made, refl)
  ran_more x [] (t ∷ told) y call a z ran made = absurd ran
  ran_more x (c ∷ calls) [] y call a z ran made = absurd ran
  ran_more x (c ∷ calls) (t ∷ told) y call a z (w, first, ran) made = (w, first, ran_more w calls told y call a z ran made)

  -- the same for a loop over the calls, which has made i of them
  pub ran_next : (x : X) (calls : List C) (i : ℕ) (told more : List A) (y : X) (call : C) (a : A) (z : X) → i < length calls → call ≡ get_or calls i call → more ≡ told ++ (a ∷ []) → Ran step x (take i calls) told y → step y call a z → Ran step x (take (i + 1) calls) more z
  ran_next x calls i told more y call a z within read pushed ran made =
      let front : take (i + 1) calls ≡ take i calls ++ (call ∷ []) = subst (λ w. take (i + 1) calls ≡ take i calls ++ (w ∷ [])) (sym read) (take_more calls i call within) in
      subst (λ cs. Ran step x cs more z) (sym front) (subst (λ v. Ran step x (take i calls ++ (call ∷ [])) v z) (sym pushed) (ran_more x (take i calls) told y call a z ran made))

-- Where each call is answered and leaves what the rules have for the meaning of what it is made on, so do all of them.
module _ {X M C A : Type 0} (meaning : X → M) (answer : M → C → A) (after : M → C → M) (unaltering : C → A → Type 0) where
  pub ran_told : (x : X) (calls : List C) (told : List A) (z : X) → Ran (Step meaning answer after unaltering) x calls told z → (told ≡ answers_by after answer (meaning x) calls) × (meaning z ≡ left_by after (meaning x) calls)
  ran_told x [] [] z ran = (refl, ap meaning ran)
  ran_told x [] (t ∷ told) z ran = absurd ran
  ran_told x (c ∷ calls) [] z ran = absurd ran
  ran_told x (c ∷ calls) (t ∷ told) z (w, made, ran) =
      let rest = ran_told w calls told z ran in (
        ap (λ a. a ∷ told) made.value ∙ ap (λ v. answer (meaning x) c ∷ v) (rest.0 ∙ ap (λ m. answers_by after answer m calls) made.leaves),
        rest.1 ∙ ap (λ m. left_by after m calls) made.leaves,
      )

-- so too where the meaning is a list with a room, which stays
module _ {E C A : Type 0} (answer : ℕ → List E → C → A) (after : ℕ → List E → C → List E) where
  abbrev roomed : ℕ × List E → C → ℕ × List E
  roomed m call = (m.0, after m.0 m.1 call)

  roomed_answers : (room : ℕ) (xs : List E) (calls : List C) → answers_by roomed (λ m. answer m.0 m.1) (room, xs) calls ≡ answers_by (after room) (answer room) xs calls
  roomed_answers room xs [] = refl
  roomed_answers room xs (c ∷ calls) = ap (λ told. answer room xs c ∷ told) (roomed_answers room (after room xs c) calls)

  roomed_left : (room : ℕ) (xs : List E) (calls : List C) → left_by roomed (room, xs) calls ≡ (room, left_by (after room) xs calls)
  roomed_left room xs [] = refl
  roomed_left room xs (c ∷ calls) = roomed_left room (after room xs c) calls

  pub ran_listed : {X : Type 0} (room : X → ℕ) (list : X → List E) (unaltering : C → A → Type 0) (x : X) (calls : List C) (told : List A) (z : X) → Ran (Listed room list answer after unaltering) x calls told z → (told ≡ answers_by (after (room x)) (answer (room x)) (list x) calls) × (room z ≡ room x) × (list z ≡ left_by (after (room x)) (list x) calls)
  ran_listed room list unaltering x calls told z ran =
      let done = ran_told (λ y. (room y, list y)) (λ m. answer m.0 m.1) roomed unaltering x calls told z ran in
      let left = done.1 ∙ roomed_left (room x) (list x) calls in
      (done.0 ∙ roomed_answers (room x) (list x) calls, ap (λ m. m.0) left, ap (λ m. m.1) left)

-- what holds of a run that was made, and of one for which memory did not suffice
module _ {T E : Type 0} {P : T → Type 0} {Q : Type 0} where
  pub where_made : (r : Result T E) → IfOk r P → ((v : T) → P v → Q) → is_ok r ≡ true → Q
  where_made (Ok v) told so ok = so v told
  where_made (Err e) told so ok = let z : ◌≡◌ {A = ℕ} 0 1 = cc in absurd (omega arith)

  pub either_way : (r : Result T E) → IfOk r P → ((v : T) → P v → Q) → (is_ok r ≡ false → Q) → Q
  either_way (Ok v) told so not = so v told
  either_way (Err e) told so not = not refl
