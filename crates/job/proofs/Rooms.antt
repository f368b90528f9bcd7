-- Room in a buffer for the text of a job that is whole from a place on.
use Rattle.std.proofs.Common.{◌≡◌, ℕ, zero, suc, ◌+◌, ◌-◌, ◌≤◌, Bool, true, false, cond, eqb, ltb, List, ◌++◌, length, take, drop, Some, None, Ok, Err, Option, Result, sym, refl, ap, ◌∙◌, append_assoc, arith, length-append, length-drop, ltb-false}
use borrow.Rule.Slice.PartMut.{put_mid}
use Rattle.std.proofs.lemmas.List.{append-nil, drop_all, length-take-le, take_at, drop_at, take-append-drop}
use Rattle.refusals.specs.declared.Refusal.{Refusal}
use Rattle.refusals.specs.declared.Refusal.TheVariants as refusal
use Rattle.job.specs.Fields.{offset_of, tag_of, length_of, body_at, found, tagged_at, field_at}
use Rattle.job.specs.Lines.{over}
use Rattle.job.specs.Numbers.{byte_at, u16_at}
use Rattle.job.specs.Verdicts.{found_checked, found_verdict, verdict_from}
use Rattle.job.specs.declared.fields.Found.{Found}
use Rattle.job.specs.declared.fields.Tag.{Tag}
use Rattle.job.specs.declared.fields.Tag.TheVariants.{Insert, Delete, Override, Junction, Replace, Start, End}

pub refused_else : {A : Type 0} (t : Bool) (why : Refusal) (told : Result A Refusal) (x : A) → cond t (Err why) told ≡ Ok x → (t ≡ false) × (told ≡ Ok x)
refused_else true why told x e = absurd (cc)
refused_else false why told x e = (refl, e)

pub else_refused : {A : Type 0} (t : Bool) (why : Refusal) (told : Result A Refusal) (x : A) → cond t told (Err why) ≡ Ok x → (t ≡ true) × (told ≡ Ok x)
else_refused true why told x e = (refl, e)
else_refused false why told x e = absurd (cc)

some_body : (tag : Tag) → 1 ≤ length_of tag
some_body Insert = omega arith
some_body Delete = omega arith
some_body Override = omega arith
some_body Junction = omega arith
some_body Replace = omega arith
some_body Start = omega arith
some_body End = omega arith

tagged_room : (tag : Option Tag) (bs : List ℕ) (at : ℕ) (f : Found) → tagged_at tag bs at ≡ Ok f → 3 ≤ length bs - at → at + 4 ≤ length bs
tagged_room None bs at f e h = absurd (cc)
tagged_room (Some tag) bs at f e h =
    let body = found (body_at tag bs (at + 3)) (at + 3 + length_of tag) in
    let fits = refused_else (ltb (length bs - at - 3) (length_of tag)) (refusal.Cut (offset_of at)) (Ok body) f (else_refused (eqb (u16_at bs (at + 1)) (length_of tag)) (refusal.FieldLength (offset_of at)) _ f e).1 in
    omega (arith, some_body tag, ltb-false (length bs - at - 3) (length_of tag) fits.0)

field_room : (bs : List ℕ) (at : ℕ) (f : Found) → field_at bs at ≡ Ok f → at + 4 ≤ length bs
field_room bs at f e =
    let head = refused_else (ltb (length bs - at) 3) (refusal.Cut (offset_of at)) (tagged_at (tag_of (byte_at bs at)) bs at) f e in
    tagged_room (tag_of (byte_at bs at)) bs at f head.1 (omega (arith, ltb-false (length bs - at) 3 head.0))

found_room : (r : Result Found Refusal) (bs : List ℕ) (at n : ℕ) → field_at bs at ≡ r → found_verdict (found_checked r bs at) (verdict_from n bs) ≡ Ok tt → at + 4 ≤ length bs
found_room (Ok f) bs at n is e = field_room bs at f is
found_room (Err why) bs at n is e = absurd (cc)

-- a job that is whole from a place on has a field there
pub verdict_room : (n : ℕ) (bs : List ℕ) (at : ℕ) → verdict_from n bs at ≡ Ok tt → at + 4 ≤ length bs
verdict_room zero bs at e = absurd (cc)
verdict_room (suc n) bs at e = found_room (field_at bs at) bs at n refl e

-- a part of a buffer from a place on, with w bytes written at its front
module _ (text after : List ℕ) (at w : ℕ) (within : at ≤ length text) (long : length after ≡ length text - at) where
  pub put_tail : put_mid at (length text - at) text after ≡ take at text ++ after
  put_tail = ap (λ rest. take at text ++ (after ++ rest)) (drop_all (length text - at) (drop at text) (omega (arith, length-drop at text))) ∙ ap (λ l. take at text ++ l) (append-nil after)

  split : w ≤ length after → put_mid at (length text - at) text after ≡ (take at text ++ take w after) ++ drop w after
  split fits = put_tail ∙ ap (λ l. take at text ++ l) (sym (take-append-drop w after)) ∙ sym (append_assoc (take at text) (take w after) (drop w after))

  front_long : w ≤ length after → length (take at text ++ take w after) ≡ at + w
  front_long fits = length-append (take at text) (take w after) ∙ (λ i. length-take-le at text within i + length-take-le w after fits i)

  pub take_tail : w ≤ length after → take (at + w) (put_mid at (length text - at) text after) ≡ take at text ++ take w after
  take_tail fits = ap (take (at + w)) (split fits) ∙ take_at (take at text ++ take w after) (drop w after) (at + w) (front_long fits)

  pub drop_tail : w ≤ length after → drop (at + w) (put_mid at (length text - at) text after) ≡ drop w after
  drop_tail fits = ap (drop (at + w)) (split fits) ∙ drop_at (take at text ++ take w after) (drop w after) (at + w) (front_long fits)

-- a buffer whose front is the text and whose rest is as it was
pub over_front : (text first bytes : List ℕ) (at : ℕ) → at ≤ length text → take at text ≡ bytes → drop at text ≡ drop at first → (at ≡ length bytes) × (text ≡ over bytes first)
over_front text first bytes at within front rest =
    let long : at ≡ length bytes = sym (length-take-le at text within) ∙ ap length front in
    (long, sym (take-append-drop at text) ∙ (λ i. front i ++ rest i) ∙ ap (λ n. bytes ++ drop n first) long)
