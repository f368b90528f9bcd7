-- A job and its encoding: what is read is what was written.
use Rattle.std.proofs.Common.{◌≡◌, ℕ, zero, suc, ◌+◌, ◌-◌, ◌*◌, ◌/◌, ◌%◌, ◌^◌, ◌<◌, ◌≤◌, Bool, true, false, cond, eqb, ltb, List, [], ◌∷◌, ◌++◌, map, length, get_or, take, drop, ℤ, Some, None, Ok, Err, Option, Result, sym, refl, ap, ◌∙◌, subst, append_assoc, arith, length-append, w32, SFits, to_z, of_z}
use mir.ValLaws.{to_z-Fits}
use Rattle.std.specs.List.{AllByRecursion}
use Rattle.std.proofs.lemmas.List.{append-nil, append_cancel_right, length-drop, get_or-drop, drop_all, drop_at, drop-drop, drop_more, take_at, take-append-drop}
use Rattle.std.proofs.lemmas.Int.{of_z-to_z, to_z-of_z}
use Rattle.std.proofs.lemmas.Bool.{eqb-true, ltb-false, eq-eqb, le-ltb, cond-true, cond-false}
use Rattle.refusals.specs.declared.Refusal.{Refusal}
use Rattle.refusals.specs.declared.Refusal.TheVariants as refusal
use Rattle.motion.specs.declared.moves.Move.{Move}
use Rattle.plan.specs.declared.calls.Call as calls
use Rattle.plan.specs.declared.calls.Call.TheVariants as call
use Rattle.job.specs.Encoding.{two_bytes, four_bytes, signed_bytes, position_bytes, move_bytes, tagged, call_field, encoded, end_field, job_of, PositionFits, MoveFits, CallFits, calls_of, Encoding}
use Rattle.job.specs.Fields.{offset_of, tag_of, length_of, move_at, body_at, found, tagged_at, field_at}
use Rattle.job.specs.Judgements.{Reads, Judged}
use Rattle.job.specs.Numbers.{byte_at, u16_at, u32_at, i32_at, position_at}
use Rattle.job.specs.Outputs.{Placed, found_calls, calls_from, placed_calls}
use Rattle.job.specs.Verdicts.{xor_of, end_checked, field_checked, passed, found_checked, checked_at, found_verdict, verdict_from, verdict_of}
use Rattle.job.specs.declared.fields.Field.{Field}
use Rattle.job.specs.declared.fields.Field.TheVariants.{Call, End}
use Rattle.job.specs.declared.fields.Found.{Found}
use Rattle.job.specs.declared.fields.Tag.{Tag}
use Rattle.job.specs.declared.fields.Tag.TheVariants as tag
use Rattle.job.proofs.Bodies.{found_there}
use Rattle.job.proofs.Rooms.{refused_else, else_refused}

two_is : (a b : ℕ) → b < 256 → (a ∷ b ∷ []) ≡ two_bytes (a * 256 + b)
two_is a b hb =
    let ea : a ≡ (a * 256 + b) / 256 = omega arith in
    let eb : b ≡ (a * 256 + b) % 256 = omega arith in
    λ i. ea i ∷ eb i ∷ []

four_is : (a b c d : ℕ) → b < 256 → c < 256 → d < 256 → (a ∷ b ∷ c ∷ d ∷ []) ≡ four_bytes (a * 16777216 + b * 65536 + c * 256 + d)
four_is a b c d hb hc hd =
    let n = a * 16777216 + b * 65536 + c * 256 + d in
    let ea : a ≡ n / 16777216 = omega arith in
    let eb : b ≡ n / 65536 % 256 = omega arith in
    let ec : c ≡ n / 256 % 256 = omega arith in
    let ed : d ≡ n % 256 = omega arith in
    λ i. ea i ∷ eb i ∷ ec i ∷ ed i ∷ []

-- a field that was read, as its bytes
abbrev field_bytes : Field → List ℕ
field_bytes (Call c) = call_field c
field_bytes (End byte) = end_field byte

abbrev FieldFits : Field → Type 0
FieldFits (Call c) = CallFits c
FieldFits (End byte) = Unit {0}

abbrev tag_byte : Tag → ℕ
tag_byte tag.Insert = 0x01
tag_byte tag.Delete = 0x02
tag_byte tag.Override = 0x03
tag_byte tag.Junction = 0x04
tag_byte tag.Replace = 0x07
tag_byte tag.Start = 0x08
tag_byte tag.End = 0x7F

tag_else : (t : Bool) (byte : ℕ) (this it : Tag) (rest : Option Tag) → (t ≡ true → byte ≡ tag_byte this) → (rest ≡ Some it → byte ≡ tag_byte it) → cond t (Some this) rest ≡ Some it → byte ≡ tag_byte it
tag_else true byte this it rest here there e = let same : this ≡ it = cc in here refl ∙ ap tag_byte same
tag_else false byte this it rest here there e = there e

-- a known tag has its one byte
tag_is : (byte : ℕ) (it : Tag) → tag_of byte ≡ Some it → byte ≡ tag_byte it
tag_is byte it =
    tag_else (eqb byte 1) byte tag.Insert it _ (eqb-true byte 1)
    (tag_else (eqb byte 2) byte tag.Delete it _ (eqb-true byte 2)
    (tag_else (eqb byte 3) byte tag.Override it _ (eqb-true byte 3)
    (tag_else (eqb byte 4) byte tag.Junction it _ (eqb-true byte 4)
    (tag_else (eqb byte 7) byte tag.Replace it _ (eqb-true byte 7)
    (tag_else (eqb byte 8) byte tag.Start it _ (eqb-true byte 8)
    (tag_else (eqb byte 127) byte tag.End it _ (eqb-true byte 127)
    (λ e. absurd (cc))))))))

passed_is : (g f : Found) (r : Result (Unit {0}) Refusal) → passed g r ≡ Ok f → (g ≡ f) × (r ≡ Ok tt)
passed_is g f (Ok x) e = (cc, refl)
passed_is g f (Err why) e = absurd (cc)

-- a field that passes is there, and its check came out well
checked_is : (r : Result Found Refusal) (bs : List ℕ) (at : ℕ) (f : Found) → found_checked r bs at ≡ Ok f → (r ≡ Ok f) × (field_checked f.field bs at f.next ≡ Ok tt)
checked_is (Ok g) bs at f e =
    let is = passed_is g f (field_checked g.field bs at g.next) e in
    (ap Ok is.0, subst (λ h. field_checked h.field bs at h.next ≡ Ok tt) is.0 is.1)
checked_is (Err why) bs at f e = absurd (cc)

end_is : (bs : List ℕ) (at byte next : ℕ) → end_checked bs at byte next ≡ Ok tt → (byte ≡ xor_of (take at bs)) × (length bs ≤ next)
end_is bs at byte next e =
    let right = else_refused (eqb byte (xor_of (take at bs))) (refusal.EndByte (offset_of at)) _ tt e in
    let last = refused_else (ltb next (length bs)) (refusal.Trailing (offset_of next)) (Ok tt) tt right.1 in
    (eqb-true byte (xor_of (take at bs)) right.0, ltb-false next (length bs) last.0)

-- the bytes of the numbers that are read from a row of bytes
module _ (bs : List ℕ) (typed : (i : ℕ) → byte_at bs i < 256) where
  one_at : (at to : ℕ) → to ≡ at + 1 → to ≤ length bs → drop at bs ≡ byte_at bs at ∷ drop to bs
  one_at at to is h = drop_more bs at 0 (omega arith) ∙ ap (λ n. byte_at bs at ∷ drop n bs) (sym is)

  two_at : (at to : ℕ) → to ≡ at + 2 → to ≤ length bs → drop at bs ≡ two_bytes (u16_at bs at) ++ drop to bs
  two_at at to is h =
      one_at at (at + 1) refl (omega arith)
      ∙ ap (λ r. byte_at bs at ∷ r) (one_at (at + 1) to (omega arith) h)
      ∙ ap (λ l. l ++ drop to bs) (two_is (byte_at bs at) (byte_at bs (at + 1)) (typed (at + 1)))

  four_at : (at to : ℕ) → to ≡ at + 4 → to ≤ length bs → drop at bs ≡ four_bytes (u32_at bs at) ++ drop to bs
  four_at at to is h =
      one_at at (at + 1) refl (omega arith)
      ∙ ap (λ r. byte_at bs at ∷ r) (one_at (at + 1) (at + 2) (omega arith) (omega arith))
      ∙ ap (λ r. byte_at bs at ∷ byte_at bs (at + 1) ∷ r) (one_at (at + 2) (at + 3) (omega arith) (omega arith))
      ∙ ap (λ r. byte_at bs at ∷ byte_at bs (at + 1) ∷ byte_at bs (at + 2) ∷ r) (one_at (at + 3) to (omega arith) h)
      ∙ ap (λ l. l ++ drop to bs) (four_is (byte_at bs at) (byte_at bs (at + 1)) (byte_at bs (at + 2)) (byte_at bs (at + 3)) (typed (at + 1)) (typed (at + 2)) (typed (at + 3)))

  two_fits : (at : ℕ) → u16_at bs at < 2 ^ 16
  two_fits at = omega (arith, typed at, typed (at + 1))

  four_fits : (at : ℕ) → u32_at bs at < 2 ^ 32
  four_fits at = omega (arith, typed at, typed (at + 1), typed (at + 2), typed (at + 3))

  signed_at : (at to : ℕ) → to ≡ at + 4 → to ≤ length bs → drop at bs ≡ signed_bytes (i32_at bs at) ++ drop to bs
  signed_at at to is h = four_at at to is h ∙ ap (λ n. four_bytes n ++ drop to bs) (sym (of_z-to_z w32 (u32_at bs at) (four_fits at)))

  position_there : (at to : ℕ) → to ≡ at + 12 → to ≤ length bs → drop at bs ≡ position_bytes (position_at bs at) ++ drop to bs
  position_there at to is h =
      signed_at at (at + 4) refl (omega arith)
      ∙ ap (λ r. signed_bytes (i32_at bs at) ++ r) (
      signed_at (at + 4) (at + 8) (omega arith) (omega arith)
      ∙ ap (λ r. signed_bytes (i32_at bs (at + 4)) ++ r) (signed_at (at + 8) to (omega arith) h)
      )

  move_there : (at to : ℕ) → to ≡ at + 18 → to ≤ length bs → drop at bs ≡ move_bytes (move_at bs at) ++ drop to bs
  move_there at to is h =
      position_there at (at + 12) refl (omega arith)
      ∙ ap (λ r. position_bytes (position_at bs at) ++ r) (
      two_at (at + 12) (at + 14) (omega arith) (omega arith)
      ∙ ap (λ r. two_bytes (u16_at bs (at + 12)) ++ r) (
      two_at (at + 14) (at + 16) (omega arith) (omega arith)
      ∙ ap (λ r. two_bytes (u16_at bs (at + 14)) ++ r) (two_at (at + 16) to (omega arith) h)
      )
      )

  placed_move_at : (at to : ℕ) → to ≡ at + 20 → to ≤ length bs → drop at bs ≡ two_bytes (u16_at bs at) ++ (move_bytes (move_at bs (at + 2)) ++ drop to bs)
  placed_move_at at to is h = two_at at (at + 2) refl (omega arith) ∙ ap (λ r. two_bytes (u16_at bs at) ++ r) (move_there (at + 2) to (omega arith) h)

  -- tag and length before a body
  head_at : (it : Tag) (at : ℕ) {rest : List ℕ} → byte_at bs at ≡ tag_byte it → u16_at bs (at + 1) ≡ length_of it → at + 3 ≤ length bs → drop (at + 3) bs ≡ rest → drop at bs ≡ tag_byte it ∷ (two_bytes (length_of it) ++ rest)
  head_at it at byte long h lies =
      one_at at (at + 1) refl (omega arith)
      ∙ ap (λ r. byte_at bs at ∷ r) (two_at (at + 1) (at + 3) (omega arith) h)
      ∙ (λ i. byte i ∷ (two_bytes (long i) ++ lies i))

  field_there : (it : Tag) (at to : ℕ) → byte_at bs at ≡ tag_byte it → u16_at bs (at + 1) ≡ length_of it → to ≡ at + 3 + length_of it → to ≤ length bs → drop at bs ≡ field_bytes (body_at it bs (at + 3)) ++ drop to bs
  field_there tag.Insert at to byte long is h =
      head_at tag.Insert at byte long (omega arith) (placed_move_at (at + 3) to (omega arith) h)
  field_there tag.Delete at to byte long is h = head_at tag.Delete at byte long (omega arith) (two_at (at + 3) to (omega arith) h)
  field_there tag.Override at to byte long is h =
      head_at tag.Override at byte long (omega arith)
      (
      two_at (at + 3) (at + 3 + 2) refl (omega arith)
      ∙ ap (λ r. two_bytes (u16_at bs (at + 3)) ++ r) (
      two_at (at + 3 + 2) (at + 3 + 4) (omega arith) (omega arith)
      ∙ ap (λ r. two_bytes (u16_at bs (at + 3 + 2)) ++ r) (one_at (at + 3 + 4) to (omega arith) h)
      )
      )
  field_there tag.Junction at to byte long is h =
      head_at tag.Junction at byte long (omega arith)
      (two_at (at + 3) (at + 3 + 2) refl (omega arith) ∙ ap (λ r. two_bytes (u16_at bs (at + 3)) ++ r) (four_at (at + 3 + 2) to (omega arith) h))
  field_there tag.Replace at to byte long is h =
      head_at tag.Replace at byte long (omega arith) (placed_move_at (at + 3) to (omega arith) h)
  field_there tag.Start at to byte long is h = head_at tag.Start at byte long (omega arith) (position_there (at + 3) to (omega arith) h)
  field_there tag.End at to byte long is h = head_at tag.End at byte long (omega arith) (one_at (at + 3) to (omega arith) h)

  signed_fits : (at : ℕ) → SFits w32 (i32_at bs at)
  signed_fits at = to_z-Fits w32 (u32_at bs at) (record { fits = four_fits at })

  position_fitting : (at : ℕ) → PositionFits (position_at bs at)
  position_fitting at = (refl, (signed_fits at, (signed_fits (at + 4), (signed_fits (at + 8), tt))))

  move_fits : (at : ℕ) → MoveFits (move_at bs at)
  move_fits at = (position_fitting at, two_fits (at + 12), two_fits (at + 14), two_fits (at + 16))

  field_fits : (it : Tag) (at : ℕ) → FieldFits (body_at it bs at)
  field_fits tag.Insert at = (two_fits at, move_fits (at + 2))
  field_fits tag.Delete at = two_fits at
  field_fits tag.Override at = (two_fits at, two_fits (at + 2), typed (at + 4))
  field_fits tag.Junction at = (two_fits at, four_fits (at + 2))
  field_fits tag.Replace at = (two_fits at, move_fits (at + 2))
  field_fits tag.Start at = position_fitting at
  field_fits tag.End at = tt

  -- a field that is found lies there as its bytes, and its numbers fit
  abbrev Lies : ℕ → Found → Type 0
  Lies at f = (drop at bs ≡ field_bytes f.field ++ drop f.next bs) × FieldFits f.field

  tagged_lies : (o : Option Tag) (at : ℕ) (f : Found) → tag_of (byte_at bs at) ≡ o → tagged_at o bs at ≡ Ok f → 3 ≤ length bs - at → Lies at f
  tagged_lies None at f is e h = absurd (cc)
  tagged_lies (Some it) at f is e h =
      let body = found (body_at it bs (at + 3)) (at + 3 + length_of it) in
      let long = else_refused (eqb (u16_at bs (at + 1)) (length_of it)) (refusal.FieldLength (offset_of at)) _ f e in
      let fits = refused_else (ltb (length bs - at - 3) (length_of it)) (refusal.Cut (offset_of at)) (Ok body) f long.1 in
      let same : body ≡ f = let o = fits.1 in cc in
      subst (Lies at) same (
        field_there it at (at + 3 + length_of it) (tag_is (byte_at bs at) it is) (eqb-true (u16_at bs (at + 1)) (length_of it) long.0) refl (omega (arith, ltb-false (length bs - at - 3) (length_of it) fits.0)),
        field_fits it (at + 3),
      )

  field_lies : (at : ℕ) (f : Found) → field_at bs at ≡ Ok f → Lies at f
  field_lies at f e =
      let head = refused_else (ltb (length bs - at) 3) (refusal.Cut (offset_of at)) (tagged_at (tag_of (byte_at bs at)) bs at) f e in
      tagged_lies (tag_of (byte_at bs at)) at f refl head.1 (ltb-false (length bs - at) 3 head.0)

  reads_lie : (from to : ℕ) (ps : List Placed) → Reads bs from ps to → (drop from bs ≡ encoded (map (λ p. p.call) ps) ++ drop to bs) × AllByRecursion CallFits (map (λ p. p.call) ps)
  reads_lie from to [] same = (ap (λ n. drop n bs) same, tt)
  reads_lie from to (p ∷ more) (f, begins, is, calls, rest) =
      let here = field_lies from f (checked_is (field_at bs from) bs from f is).0 in
      let there = reads_lie f.next to more rest in (
        here.0
            ∙ ap (λ g. field_bytes g ++ drop f.next bs) calls
            ∙ ap (λ r. call_field p.call ++ r) there.0
            ∙ sym (append_assoc (call_field p.call) (encoded (map (λ q. q.call) more)) (drop to bs)),
        (subst FieldFits calls here.1, there.1),
      )

  accepted_is : Judged bs (Ok tt) → AllByRecursion CallFits (calls_of bs) × (bs ≡ job_of (calls_of bs))
  accepted_is (at, reads, ends) =
      let f = ends.f in
      let front = encoded (calls_of bs) in
      let lie = reads_lie 0 at (placed_calls bs) reads in
      let checked = checked_is (field_at bs at) bs at f ends.is in
      let right = end_is bs at ends.byte f.next (subst (λ g. field_checked g bs at f.next ≡ Ok tt) ends.field checked.1) in
      let taken : take at bs ≡ front = append_cancel_right (take at bs) front (drop at bs) (take-append-drop at bs ∙ lie.0) in
      let last : drop at bs ≡ end_field ends.byte =
      (field_lies at f checked.0).0
      ∙ ap (λ g. field_bytes g ++ drop f.next bs) ends.field
      ∙ ap (λ r. end_field ends.byte ++ r) (drop_all f.next bs right.1) in
      (lie.1, lie.0 ∙ ap (λ r. front ++ r) (last ∙ ap end_field (right.0 ∙ ap xor_of taken)))

tag_known : (it : Tag) → tag_of (tag_byte it) ≡ Some it
tag_known tag.Insert = refl
tag_known tag.Delete = refl
tag_known tag.Override = refl
tag_known tag.Junction = refl
tag_known tag.Replace = refl
tag_known tag.Start = refl
tag_known tag.End = refl

-- three coordinates of four bytes
position_long : (p : List ℤ) → length p ≡ 3 → length (position_bytes p) ≡ 12
position_long [] h = absurd (omega arith)
position_long (x ∷ []) h = absurd (omega arith)
position_long (x ∷ y ∷ []) h = absurd (omega arith)
position_long (x ∷ y ∷ z ∷ []) h = refl
position_long (x ∷ y ∷ z ∷ w ∷ more) h = absurd (omega arith)

-- a move's bytes before others
move_before : (m : Move) (rest : List ℕ) → move_bytes m ++ rest ≡ position_bytes m.target ++ (two_bytes m.acceleration ++ (two_bytes m.feed ++ (two_bytes m.corner ++ rest)))
move_before m rest = simp append_assoc

move_long : (m : Move) → MoveFits m → length (move_bytes m) ≡ 18
move_long m fits =
    ap length (sym (append-nil (move_bytes m)) ∙ move_before m [])
    ∙ length-append (position_bytes m.target) _
    ∙ ap (λ n. n + 6) (position_long m.target fits.0.0)

-- the numbers that are read where their bytes lie
module _ (bs : List ℕ) where
  one_read : (at k from : ℕ) {l : List ℕ} → from ≡ at + k → drop at bs ≡ l → byte_at bs from ≡ get_or l k 0
  one_read at k from is lies = ap (byte_at bs) is ∙ sym (get_or-drop at bs k 0) ∙ ap (λ d. get_or d k 0) lies

  rest_read : (at k to : ℕ) {l : List ℕ} → to ≡ at + k → drop at bs ≡ l → drop to bs ≡ drop k l
  rest_read at k to is lies = ap (λ n. drop n bs) is ∙ sym (drop-drop k at bs) ∙ ap (drop k) lies

  two_read : (n at to : ℕ) {rest : List ℕ} → to ≡ at + 2 → drop at bs ≡ two_bytes n ++ rest → (u16_at bs at ≡ n) × (drop to bs ≡ rest)
  two_read n at to is lies = (omega (arith, one_read at 0 at (omega arith) lies, one_read at 1 (at + 1) refl lies), rest_read at 2 to is lies)

  four_read : (n at to : ℕ) {rest : List ℕ} → to ≡ at + 4 → drop at bs ≡ four_bytes n ++ rest → (u32_at bs at ≡ n) × (drop to bs ≡ rest)
  four_read n at to is lies = (
    omega (arith, one_read at 0 at (omega arith) lies, one_read at 1 (at + 1) refl lies, one_read at 2 (at + 2) refl lies, one_read at 3 (at + 3) refl lies),
    rest_read at 4 to is lies,
  )

  signed_read : (z : ℤ) (at to : ℕ) {rest : List ℕ} → SFits w32 z → to ≡ at + 4 → drop at bs ≡ signed_bytes z ++ rest → (i32_at bs at ≡ z) × (drop to bs ≡ rest)
  signed_read z at to fits is lies =
      let bits = four_read (of_z w32 z) at to is lies in
      (ap (to_z w32) bits.0 ∙ to_z-of_z w32 z fits, bits.1)

  position_read : (p : List ℤ) (at to : ℕ) {rest : List ℕ} → PositionFits p → to ≡ at + 12 → drop at bs ≡ position_bytes p ++ rest → (position_at bs at ≡ p) × (drop to bs ≡ rest)
  position_read [] at to (long, fits) is lies = absurd (omega arith)
  position_read (x ∷ []) at to (long, fits) is lies = absurd (omega arith)
  position_read (x ∷ y ∷ []) at to (long, fits) is lies = absurd (omega arith)
  position_read (x ∷ y ∷ z ∷ []) at to (long, fits) is lies =
      let first = signed_read x at (at + 4) fits.0 refl lies in
      let second = signed_read y (at + 4) (at + 8) fits.1.0 (omega arith) first.1 in
      let third = signed_read z (at + 8) to fits.1.1.0 (omega arith) second.1 in
      (λ i. first.0 i ∷ second.0 i ∷ third.0 i ∷ [], third.1)
  position_read (x ∷ y ∷ z ∷ w ∷ more) at to (long, fits) is lies = absurd (omega arith)

  move_read : (m : Move) (at to : ℕ) {rest : List ℕ} → MoveFits m → to ≡ at + 18 → drop at bs ≡ move_bytes m ++ rest → (move_at bs at ≡ m) × (drop to bs ≡ rest)
  move_read m at to {rest} fits is lies =
      let t = position_read m.target at (at + 12) fits.0 refl (lies ∙ move_before m rest) in
      let a = two_read m.acceleration (at + 12) (at + 14) (omega arith) t.1 in
      let f = two_read m.feed (at + 14) (at + 16) (omega arith) a.1 in
      let r = two_read m.corner (at + 16) to (omega arith) f.1 in
      (λ i. record { target = t.0 i; acceleration = a.0 i; feed = f.0 i; corner = r.0 i }, r.1)

  placed_move_read : (i : ℕ) (m : Move) (at : ℕ) (rest : List ℕ) → MoveFits m → drop at bs ≡ two_bytes i ++ (move_bytes m ++ rest) → (u16_at bs at ≡ i) × (move_at bs (at + 2) ≡ m)
  placed_move_read i m at rest fits lies =
      let place = two_read i at (at + 2) refl lies in
      (place.0, (move_read m (at + 2) (at + 20) fits (omega arith) place.1).0)

  -- a tag and its length before a body: the field is found, and the body is what is left to read
  head_read : (it : Tag) (body rest : List ℕ) (at : ℕ) → length body ≡ length_of it → drop at bs ≡ tagged (tag_byte it) body ++ rest → (field_at bs at ≡ Ok (found (body_at it bs (at + 3)) (at + 3 + length_of it))) × (drop (at + 3) bs ≡ body ++ rest)
  head_read it body rest at long lies =
      let byte : byte_at bs at ≡ tag_byte it = one_read at 0 at (omega arith) lies in
      let size = two_read (length body) (at + 1) (at + 3) (omega arith) (rest_read at 1 (at + 1) refl lies) in
      let room : length bs - at ≡ 3 + (length_of it + length rest) = sym (length-drop at bs) ∙ ap length lies ∙ omega (arith, long, length-append body rest) in
      (found_there bs at it (ap tag_of byte ∙ tag_known it) (size.0 ∙ long) (omega arith), size.1)

  field_read : (c : calls.Call) (at to : ℕ) (rest : List ℕ) → CallFits c → to ≡ at + length (call_field c) → drop at bs ≡ call_field c ++ rest → field_at bs at ≡ Ok (found (Call c) to)
  field_read (call.Insert i m) at to rest (ok, fits) is lies =
      let long = move_long m fits in
      let head = head_read tag.Insert (two_bytes i ++ move_bytes m) rest at (omega arith) lies in
      let body = placed_move_read i m (at + 3) rest fits head.1 in
      let next : at + 3 + 20 ≡ to = omega arith in
      head.0 ∙ (λ k. Ok (found (Call (call.Insert (body.0 k) (body.1 k))) (next k)))
  field_read (call.Replace i m) at to rest (ok, fits) is lies =
      let long = move_long m fits in
      let head = head_read tag.Replace (two_bytes i ++ move_bytes m) rest at (omega arith) lies in
      let body = placed_move_read i m (at + 3) rest fits head.1 in
      let next : at + 3 + 20 ≡ to = omega arith in
      head.0 ∙ (λ k. Ok (found (Call (call.Replace (body.0 k) (body.1 k))) (next k)))
  field_read (call.Delete i) at to rest fits is lies =
      let head = head_read tag.Delete (two_bytes i) rest at refl lies in
      let place = two_read i (at + 3) (at + 3 + 2) refl head.1 in
      let next : at + 3 + 2 ≡ to = omega arith in
      head.0 ∙ (λ k. Ok (found (Call (call.Delete (place.0 k))) (next k)))
  field_read (call.Override i j percent) at to rest fits is lies =
      let head = head_read tag.Override (two_bytes i ++ two_bytes j ++ (percent ∷ [])) rest at refl lies in
      let from = two_read i (at + 3) (at + 3 + 2) refl head.1 in
      let last = two_read j (at + 3 + 2) (at + 3 + 4) (omega arith) from.1 in
      let part = one_read (at + 3 + 4) 0 (at + 3 + 4) (omega arith) last.1 in
      let next : at + 3 + 5 ≡ to = omega arith in
      head.0 ∙ (λ k. Ok (found (Call (call.Override (from.0 k) (last.0 k) (part k))) (next k)))
  field_read (call.Start p) at to rest fits is lies =
      let long = position_long p fits.0 in
      let head = head_read tag.Start (position_bytes p) rest at long lies in
      let position = position_read p (at + 3) (at + 3 + 12) fits refl head.1 in
      let next : at + 3 + 12 ≡ to = omega arith in
      head.0 ∙ (λ k. Ok (found (Call (call.Start (position.0 k))) (next k)))
  field_read (call.Junction j s) at to rest fits is lies =
      let head = head_read tag.Junction (two_bytes j ++ four_bytes s) rest at refl lies in
      let place = two_read j (at + 3) (at + 3 + 2) refl head.1 in
      let speed = four_read s (at + 3 + 2) (at + 3 + 6) (omega arith) place.1 in
      let next : at + 3 + 6 ≡ to = omega arith in
      head.0 ∙ (λ k. Ok (found (Call (call.Junction (place.0 k) (speed.0 k))) (next k)))
  field_read (call.Reach i j) at to rest fits is lies = absurd fits
  field_read (call.Span i j) at to rest fits is lies = absurd fits

  -- a right end field that nothing follows
  end_read : (byte at : ℕ) → byte ≡ xor_of (take at bs) → drop at bs ≡ end_field byte → checked_at bs at ≡ Ok (found (End byte) (at + 3 + 1))
  end_read byte at right lies =
      let head = head_read tag.End (byte ∷ []) [] at refl lies in
      let there : byte_at bs (at + 3) ≡ byte = one_read (at + 3) 0 (at + 3) (omega arith) head.1 in
      let all : length bs - at ≡ 4 = sym (length-drop at bs) ∙ ap length lies in
      ap (λ r. found_checked r bs at) (head.0 ∙ ap (λ b. Ok (found (End b) (at + 3 + 1))) there)
      ∙ ap (passed (found (End byte) (at + 3 + 1))) (
      cond-true (eqb byte (xor_of (take at bs))) _ _ (eq-eqb byte (xor_of (take at bs)) right)
      ∙ cond-false (ltb (at + 3 + 1) (length bs)) _ _ (le-ltb (at + 3 + 1) (length bs) (omega arith))
      )

-- the calls after a front, with all fields known
module _ (bs fields : List ℕ) where
  read_all : (cs : List calls.Call) (n : ℕ) (front : List ℕ) → AllByRecursion CallFits cs → length cs ≤ n → bs ≡ front ++ (encoded cs ++ end_field (xor_of fields)) → front ++ encoded cs ≡ fields → (verdict_from (suc n) bs (length front) ≡ Ok tt) × (map (λ p. p.call) (calls_from (suc n) bs (length front)) ≡ cs)
  read_all [] n front fits h is whole =
      let at = length front in
      let taken : take at bs ≡ fields = ap (take at) is ∙ take_at front _ at refl ∙ sym (append-nil front) ∙ whole in
      let e = end_read bs (xor_of fields) at (ap xor_of (sym taken)) (ap (drop at) is ∙ drop_at front _ at refl) in
      (ap (λ r. found_verdict r (verdict_from n bs)) e, ap (λ r. map (λ p. p.call) (found_calls r at (calls_from n bs))) e)
  read_all (c ∷ cs) zero front fits h is whole = absurd (omega arith)
  read_all (c ∷ cs) (suc n) front (fits, more) h is whole =
      let at = length front in
      let rest = encoded cs ++ end_field (xor_of fields) in
      let lies : drop at bs ≡ call_field c ++ rest = ap (drop at) is ∙ drop_at front _ at refl ∙ append_assoc (call_field c) (encoded cs) (end_field (xor_of fields)) in
      let e : checked_at bs at ≡ Ok (found (Call c) (length (front ++ call_field c))) = ap (λ r. found_checked r bs at) (field_read bs c at _ rest fits (length-append front (call_field c)) lies) in
      let tail = read_all cs n (front ++ call_field c) more (omega arith) (is ∙ simp append_assoc) (append_assoc front (call_field c) (encoded cs) ∙ whole) in (
        ap (λ r. found_verdict r (verdict_from (suc n) bs)) e ∙ tail.0,
        ap (λ r. map (λ p. p.call) (found_calls r at (calls_from (suc n) bs))) e ∙ ap (λ l. c ∷ l) tail.1,
      )

-- a call has a byte at least, so that a job has fewer calls than bytes
some_bytes : (c : calls.Call) → CallFits c → 1 ≤ length (call_field c)
some_bytes (call.Insert i m) fits = omega arith
some_bytes (call.Replace i m) fits = omega arith
some_bytes (call.Delete i) fits = omega arith
some_bytes (call.Override i j percent) fits = omega arith
some_bytes (call.Start p) fits = omega arith
some_bytes (call.Junction j s) fits = omega arith
some_bytes (call.Reach i j) fits = absurd fits
some_bytes (call.Span i j) fits = absurd fits

fewer_calls : (cs : List calls.Call) → AllByRecursion CallFits cs → length cs ≤ length (encoded cs)
fewer_calls [] fits = omega arith
fewer_calls (c ∷ cs) (fits, more) = omega (arith, some_bytes c fits, fewer_calls cs more, length-append (call_field c) (encoded cs))

-- a verdict by what the job encodes
pub encoding : (bs : List ℕ) (r : Result (Unit {0}) Refusal) → ((i : ℕ) → byte_at bs i < 256) → r ≡ verdict_of bs → Judged bs r → Encoding bs r
encoding bs r typed value judged = record {
  accepted = λ e. accepted_is bs typed (subst (Judged bs) e judged);
  encodes = λ cs fits is.
      let room : length cs ≤ length bs = omega (arith, fewer_calls cs fits, ap length is, length-append (encoded cs) (end_field (xor_of (encoded cs)))) in
      let read = read_all bs (encoded cs) cs (length bs) [] fits room is refl in
      (value ∙ read.0, read.1);
}
