-- A whole job on a plan, field by field: what was written and what is left come to what the model says.
use Rattle.std.proofs.Common.{◌≡◌, ℕ, zero, suc, ◌+◌, ◌-◌, ◌*◌, ◌≤◌, List, [], ◌∷◌, ◌++◌, length, take, drop, Some, None, Ok, Err, Option, Result, sym, refl, ap, ◌∙◌, subst, append_assoc, arith, length-append, length-drop}
use borrow.Rule.Slice.PartMut.{put_mid}
use Rattle.std.proofs.lemmas.List.{append-nil, take_at, take_rest, take-append-drop, drop_at, drop-drop, length-take-le}
use Rattle.refusals.specs.declared.Refusal.{Refusal}
use Rattle.refusals.specs.declared.Refusal.TheVariants.{Buffer}
use Rattle.plan.specs.Calls as calls
use Rattle.plan.specs.Models.{Model}
use Rattle.plan.specs.declared.calls.Call as call
use Rattle.job.specs.Fields.{offset_of}
use Rattle.job.specs.Lines.{answer_line, over}
use Rattle.job.specs.Outputs.{Placed, placed, field_calls, found_calls, calls_from, placed_calls, lines_of, model_after}
use Rattle.job.specs.Steps.{found_place, step_place, field_model, found_model, field_line, found_line, found_told, Bounded, Stepped}
use Rattle.job.specs.Texts.{Wrote}
use Rattle.job.specs.Verdicts.{checked_at, field_verdict, found_verdict, verdict_from, verdict_of}
use Rattle.job.specs.declared.fields.Field.{Field}
use Rattle.job.specs.declared.fields.Field.TheVariants.{Call, End}
use Rattle.job.specs.declared.fields.Found.{Found}
use Rattle.job.proofs.Rooms.{verdict_room, put_tail, take_tail, drop_tail, over_front}
use Rattle.job.proofs.Stepping.{wide, model_call, line_call, told_call}

-- a place from which a step went on has a field with a call
record Calling (e : Result Found Refusal) (to : ℕ) : Type 0 where
  f : Found
  c : call.Call
  is : e ≡ Ok f
  field : f.field ≡ Call c
  goes : to ≡ f.next

calling_field : (f : Found) (g : Field) (at to : ℕ) → f.field ≡ g → to ≡ found_place (Ok f) at → at + 4 ≤ to → Calling (Ok f) to
calling_field f (Call c) at to e goes h = record { f = f; c = c; is = refl; field = e; goes = cc }
calling_field f (End byte) at to e goes h = absurd (let stays : to ≡ at = cc in omega arith)

calling : (e : Result Found Refusal) (at to : ℕ) → to ≡ found_place e at → at + 4 ≤ to → Calling e to
calling (Ok f) at to goes h = calling_field f f.field at to refl goes h
calling (Err why) at to goes h = absurd (omega arith)

-- where the job is over there are no calls, no line is written, and the model stays
record Ending (b : Model) (e : Result Found Refusal) (at : ℕ) (rest : ℕ → List Placed) : Type 0 where
  calls : found_calls e at rest ≡ []
  line : found_line b at e ≡ []
  leaves : found_model b e ≡ b

ending_field : (b : Model) (f : Found) (g : Field) (at : ℕ) (rest : ℕ → List Placed) → f.field ≡ g → Ok None ≡ found_told b at (Ok f) → Ending b (Ok f) at rest
ending_field b f (Call c) at rest e told = absurd (cc)
ending_field b f (End byte) at rest e told = record { calls = ap (λ g. field_calls g at (rest f.next)) e; line = ap (field_line b at) e; leaves = ap (field_model b) e }

ending : (b : Model) (e : Result Found Refusal) (at : ℕ) (rest : ℕ → List Placed) → Ok None ≡ found_told b at e → Ending b e at rest
ending b (Ok f) at rest told = ending_field b f f.field at rest refl told
ending b (Err why) at rest told = absurd (cc)

-- a job that is whole from a place on has no fault there
no_fault : (b : Model) (e : Result Found Refusal) (at : ℕ) (rest : ℕ → Result (Unit {0}) Refusal) (why : Refusal) → found_verdict e rest ≡ Ok tt → Err why ≡ found_told b at e → ⊥
no_fault b (Ok f) at rest why whole told = cc
no_fault b (Err why') at rest why whole told = cc

-- a line of n bytes is the front of its buffer, and the rest is as it was
lined : (n : ℕ) (bs line after : List ℕ) → n ≡ length bs → after ≡ over bs line → (take n after ≡ bs) × (drop n after ≡ drop n line)
lined n bs line after is e = (ap (take n) e ∙ take_at bs _ n (sym is), ap (drop n) e ∙ drop_at bs _ n (sym is) ∙ ap (λ k. drop k line) (sym is))

module _ (bs : List ℕ) (first : Model) where
  -- the job is whole from a place on, with at most n fields left: after the text so far and from the model here, they write
  -- and leave what the whole job does from the first model
  pub record Along (n at : ℕ) (text : List ℕ) (here : Model) : Type 0 where
    pub whole : verdict_from n bs at ≡ Ok tt
    pub lines : text ++ lines_of here (calls_from n bs at) ≡ lines_of first (placed_calls bs)
    pub left : model_after here (calls_from n bs at) ≡ model_after first (placed_calls bs)

  pub along_start : verdict_of bs ≡ Ok tt → Along (suc (length bs)) 0 [] first
  along_start whole = record { whole = whole; lines = refl; left = refl }

  -- the whole job was run
  pub record Done (text : List ℕ) (here : Model) : Type 0 where
    pub lines : text ≡ lines_of first (placed_calls bs)
    pub left : here ≡ model_after first (placed_calls bs)

  module _ {at : ℕ} {text before after : List ℕ} {here left : Model} (long : 64 ≤ length before) where
    -- a step after which the job goes on
    pub along_line : (n : ℕ) {to w : ℕ} → Along n at text here → to ≡ step_place (length before) bs at → at + 4 ≤ to → Stepped here bs at (Ok (Some w)) before after left → ((m : ℕ) × Along m to (text ++ take w after) left) × (drop w after ≡ drop w before)
    along_line zero so goes far stepped = absurd (let none = so.whole in cc)
    along_line (suc m) {to} {w} so goes far stepped =
        let found = checked_at bs at in
        let there : Calling found to = calling found at to (goes ∙ wide (length before) at (found_place found at) long) far in
        let f = there.f in
        let c = there.c in
        let bytes = answer_line (offset_of at) (calls.answer here c) in
        let next = calls.after here c in
        let rest : calls_from (suc m) bs at ≡ placed at c ∷ calls_from m bs to =
        ap (λ r. found_calls r at (calls_from m bs)) there.is
        ∙ ap (λ g. field_calls g at (calls_from m bs f.next)) there.field
        ∙ ap (λ z. placed at c ∷ calls_from m bs z) (sym there.goes) in
        let tells : ◌≡◌ {A = Result (Option ℕ) Refusal} (Ok (Some w)) (Ok (Some (length bytes))) = stepped.tells ∙ told_call here bs at before f c long there.is there.field in
        let line = lined w bytes before after (cc) (stepped.line ∙ ap (λ l. over l before) (line_call here bs at before f c long there.is there.field)) in
        let leaves : left ≡ next = stepped.leaves ∙ model_call here bs at before f c long there.is there.field in (
          (
            m,
            record {
              whole =
                  ap (verdict_from m bs) there.goes
                  ∙ sym (ap (λ r. found_verdict r (verdict_from m bs)) there.is ∙ ap (λ g. field_verdict g (verdict_from m bs f.next)) there.field)
                  ∙ so.whole;
              lines =
                  (λ i. (text ++ line.0 i) ++ lines_of (leaves i) (calls_from m bs to))
                  ∙ append_assoc text bytes (lines_of next (calls_from m bs to))
                  ∙ ap (λ cs. text ++ lines_of here cs) (sym rest)
                  ∙ so.lines;
              left = ap (λ b. model_after b (calls_from m bs to)) leaves ∙ ap (model_after here) (sym rest) ∙ so.left;
            },
          ),
          line.1,
        )

    -- a step after which it does not
    pub along_end : (n : ℕ) (r : Result (Option ℕ) Refusal) → ((w : ℕ) → r ≡ Ok (Some w) → ⊥) → Along n at text here → Stepped here bs at r before after left → Done text left × (after ≡ before)
    along_end zero r none so stepped = absurd (let none = so.whole in cc)
    along_end (suc m) (Ok (Some w)) none so stepped = absurd (none w refl)
    along_end (suc m) (Ok None) none so stepped =
        let found = checked_at bs at in
        let end = ending here found at (calls_from m bs) (stepped.tells ∙ wide (length before) (Err Buffer) (found_told here at found) long) in
        let leaves : left ≡ here = stepped.leaves ∙ wide (length before) here (found_model here found) long ∙ end.leaves in (
          record {
            lines = sym (append-nil text) ∙ ap (λ cs. text ++ lines_of here cs) (sym end.calls) ∙ so.lines;
            left = leaves ∙ ap (model_after here) (sym end.calls) ∙ so.left;
          },
          stepped.line ∙ ap (λ l. over l before) (wide (length before) [] (found_line here at found) long ∙ end.line),
        )
    along_end (suc m) (Err why) none so stepped = absurd (no_fault here (checked_at bs at) at (verdict_from m bs) why so.whole (stepped.tells ∙ wide (length before) (Err Buffer) (found_told here at (checked_at bs at)) long))

  -- the text so far fills the front of a buffer that has room for the rest of it, and the rest of the buffer is as it was
  pub record Running (place at : ℕ) (before text : List ℕ) (here : Model) : Type 0 where
    pub share : at ≤ place * 16
    pub space : length bs * 16 ≤ length text
    pub rest : drop at text ≡ drop at before
    pub n : ℕ
    pub along : Along n place (take at text) here

  -- the part of the buffer after the text so far
  module _ {place at : ℕ} {before text : List ℕ} {here : Model} (so : Running place at before text here) where
    abbrev part : List ℕ
    part = take (length text - at) (drop at text)

    is_rest : part ≡ drop at text
    is_rest = take_rest text at

    within : at ≤ length text
    within = omega (arith, so.share, so.space, verdict_room so.n bs place so.along.whole)

    part_long : length part ≡ length text - at
    part_long = ap length is_rest ∙ length-drop at text

    part_wide : 64 ≤ length part
    part_wide = omega (arith, part_long, so.share, so.space, verdict_room so.n bs place so.along.whole)

    -- a step that wrote to it
    module _ {after : List ℕ} {left : Model} {r : Result (Option ℕ) Refusal} where
      pub running_more : {to w : ℕ} → r ≡ Ok (Some w) → length after ≡ length part → to ≡ step_place (length part) bs place → Bounded r place to → Stepped here bs place r part after left → Running to (at + w) before (put_mid at (length text - at) text after) left
      running_more {to} {w} is same goes far stepped =
          let kept : length after ≡ length text - at = same ∙ part_long in
          let bound : (w ≤ 64) × (place + 4 ≤ to) = subst (λ x. Bounded x place to) is far in
          let fits : w ≤ length after = omega (arith, kept, part_long, part_wide, bound.0) in
          let next = along_line part_wide so.n so.along goes bound.1 (subst (λ x. Stepped here bs place x part after left) is stepped) in
          record {
            share = omega (arith, so.share, bound.0, bound.1);
            space = omega (arith, so.space, kept, within, ap length (put_tail text after at w within kept), length-append (take at text) after, length-take-le at text within);
            rest = drop_tail text after at w within kept fits ∙ next.1 ∙ ap (drop w) (is_rest ∙ so.rest) ∙ drop-drop w at before;
            n = next.0.0;
            along = subst (λ t. Along next.0.0 to t left) (sym (take_tail text after at w within kept fits)) next.0.1;
          }

      pub running_end : ((w : ℕ) → r ≡ Ok (Some w) → ⊥) → Stepped here bs place r part after left → Wrote (lines_of first (placed_calls bs)) at before (put_mid at (length text - at) text after) × (left ≡ model_after first (placed_calls bs))
      running_end none stepped =
          let end = along_end part_wide so.n r none so.along stepped in
          let written = over_front text before (lines_of first (placed_calls bs)) at within end.0.lines so.rest in (
            record {
              long = written.0;
              text =
                  put_tail text after at 0 within (ap length end.1 ∙ part_long)
                  ∙ ap (λ l. take at text ++ l) (end.1 ∙ is_rest)
                  ∙ take-append-drop at text
                  ∙ written.1;
            },
            end.0.left,
          )
