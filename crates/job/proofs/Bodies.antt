-- A field in a job, and what is read from a part of one.
use Rattle.std.proofs.Common.{◌≡◌, ℕ, ◌+◌, ◌-◌, ◌<◌, ◌≤◌, eqb, ltb, List, [], ◌∷◌, length, take, drop, Some, Ok, sym, ap, ◌∙◌, arith, w32, to_z}
use Rattle.std.proofs.lemmas.Bool.{eq-eqb, le-ltb, cond-true, cond-false}
use Rattle.std.proofs.lemmas.List.{get_or-drop, get_or-take}
use Rattle.plan.specs.declared.calls.Call.TheVariants as call
use Rattle.job.specs.Fields.{tag_of, length_of, move_at, body_at, found, tagged_at, field_at}
use Rattle.job.specs.Numbers.{byte_at, u16_at, u32_at, i32_at, position_at}
use Rattle.job.specs.declared.fields.Field.TheVariants.{Call, End}
use Rattle.job.specs.declared.fields.Tag.{Tag}
use Rattle.job.specs.declared.fields.Tag.TheVariants as tag

-- the n bytes of a job from a place on
module _ (bs part : List ℕ) (from n : ℕ) (is : part ≡ take n (drop from bs)) where
  pub byte_part : (k at : ℕ) → at ≡ from + k → k < n → byte_at part k ≡ byte_at bs at
  byte_part k at same h = ap (λ p. byte_at p k) is ∙ get_or-take n (drop from bs) k 0 h ∙ get_or-drop from bs k 0 ∙ ap (byte_at bs) (sym same)

  pub two_part : (k at : ℕ) → at ≡ from + k → k + 2 ≤ n → u16_at part k ≡ u16_at bs at
  two_part k at same h = omega (arith, byte_part k at same (omega arith), byte_part (k + 1) (at + 1) (omega arith) (omega arith))

  four_part : (k at : ℕ) → at ≡ from + k → k + 4 ≤ n → u32_at part k ≡ u32_at bs at
  four_part k at same h =
      omega (arith, byte_part k at same (omega arith), byte_part (k + 1) (at + 1) (omega arith) (omega arith), byte_part (k + 2) (at + 2) (omega arith) (omega arith), byte_part (k + 3) (at + 3) (omega arith) (omega arith))

  signed_part : (k at : ℕ) → at ≡ from + k → k + 4 ≤ n → i32_at part k ≡ i32_at bs at
  signed_part k at same h = ap (to_z w32) (four_part k at same h)

  position_part : (k at : ℕ) → at ≡ from + k → k + 12 ≤ n → position_at part k ≡ position_at bs at
  position_part k at same h =
      let x = signed_part k at same (omega arith) in
      let y = signed_part (k + 4) (at + 4) (omega arith) (omega arith) in
      let z = signed_part (k + 8) (at + 8) (omega arith) (omega arith) in
      λ i. x i ∷ y i ∷ z i ∷ []

  move_part : (k at : ℕ) → at ≡ from + k → k + 18 ≤ n → move_at part k ≡ move_at bs at
  move_part k at same h =
      let target = position_part k at same (omega arith) in
      let a = two_part (k + 12) (at + 12) (omega arith) (omega arith) in
      let f = two_part (k + 14) (at + 14) (omega arith) (omega arith) in
      let r = two_part (k + 16) (at + 16) (omega arith) (omega arith) in
      λ i. record { target = target i; acceleration = a i; feed = f i; corner = r i }

  -- what a body says is what it says in its place
  pub body_part : (it : Tag) → n ≡ length_of it → body_at it part 0 ≡ body_at it bs from
  body_part tag.Insert h = λ i. Call (call.Insert (two_part 0 from (omega arith) (omega arith) i) (move_part 2 (from + 2) (omega arith) (omega arith) i))
  body_part tag.Delete h = λ i. Call (call.Delete (two_part 0 from (omega arith) (omega arith) i))
  body_part tag.Override h = λ i. Call (call.Override (two_part 0 from (omega arith) (omega arith) i) (two_part 2 (from + 2) (omega arith) (omega arith) i) (byte_part 4 (from + 4) (omega arith) (omega arith) i))
  body_part tag.Junction h = λ i. Call (call.Junction (two_part 0 from (omega arith) (omega arith) i) (four_part 2 (from + 2) (omega arith) (omega arith) i))
  body_part tag.Replace h = λ i. Call (call.Replace (two_part 0 from (omega arith) (omega arith) i) (move_part 2 (from + 2) (omega arith) (omega arith) i))
  body_part tag.Start h = λ i. Call (call.Start (position_part 0 from (omega arith) (omega arith) i))
  body_part tag.End h = λ i. End (byte_part 0 from (omega arith) (omega arith) i)

-- the field that lies at a place, by its tag
pub found_there : (bs : List ℕ) (at : ℕ) (it : Tag) → tag_of (byte_at bs at) ≡ Some it → u16_at bs (at + 1) ≡ length_of it → at + 3 + length_of it ≤ length bs → field_at bs at ≡ Ok (found (body_at it bs (at + 3)) (at + 3 + length_of it))
found_there bs at it known long room =
    cond-false (ltb (length bs - at) 3) _ _ (le-ltb (length bs - at) 3 (omega arith))
    ∙ ap (λ o. tagged_at o bs at) known
    ∙ cond-true (eqb (u16_at bs (at + 1)) (length_of it)) _ _ (eq-eqb (u16_at bs (at + 1)) (length_of it) long)
    ∙ cond-false (ltb (length bs - at - 3) (length_of it)) _ _ (le-ltb (length bs - at - 3) (length_of it) (omega arith))
