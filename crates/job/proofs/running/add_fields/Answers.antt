use Rattle.std.proofs.Common.{◌≡◌, ℕ, suc, ◌+◌, [], ◌≤◌, length, Some, Ok, vec_items, sym, refl, ap, ◌∙◌, subst, arith}
use Rattle.plan.specs.Meaning.{model_of}
use Rattle.job.specs.Outputs.{lines_of, placed_calls, model_after}
use Rattle.job.specs.Steps.{Bounded, Stepped}
use Rattle.job.specs.Verdicts.{verdict_of}
use Rattle.job.proofs.Goings.{Along, along_start, along_line, along_end}
use Rattle.job.proofs.running.add_fields.Given.{Over}
use Rattle.job.proofs.running.add_fields.Goals.{After-step}
use Rattle.job.proofs.running.add_fields.Goals as goal

pub loop-written-init : goal.loop-written-init
loop-written-init g c =
    let new = c.new-reader.ensures in
    let bs = c.new-reader.result.job.now in
    let first = model_of g.S.Sequence.list g.S.Sequence.room c.args.plan.now in
    let start = along_start bs first (ap verdict_of new.job ∙ c.requires.whole) in (
      refl,
      new.job,
      omega (arith, c.requires.len),
      c.requires.room,
      (suc (length bs), subst (λ text. Along bs first (suc (length bs)) c.new-reader.result.place text first) (sym c.requires.items) (subst (λ at. Along bs first (suc (length bs)) at [] first) (sym new.place) start)),
    )

pub loop-written-preserved : goal.loop-written-preserved
loop-written-preserved g c =
    let model = model_of g.S.Sequence.list g.S.Sequence.room in
    let first = model c.args.plan.now in
    let left = model c.step.new.plan in
    let told = c.step.ensures in
    let l = c.loop-written in
    let inv = l.invariant in
    let bs = l.reader.job.now in
    let w = c.in-Ok-Some.written in
    let to = c.step.new.self.place in
    let is : c.step.result ≡ Ok (Some w) = c.in-Ok-Some.is ∙ ap Ok c.in-Ok-Some.field-0-is in
    let far : (w ≤ 64) × (l.reader.place + 4 ≤ to) = subst (λ x. Bounded x l.reader.place to) is told.bound in
    let next = along_line bs first (omega (arith, inv.0)) inv.4.0 inv.4.1 told.place far.1 (subst (λ x. Stepped (model l.plan) bs l.reader.place x l.line c.step.new.line left) is told.model) in (
      c.step.auto.line ∙ inv.0,
      told.job ∙ inv.1,
      omega (arith, c.append.ensures.len, inv.2, far.0, far.1),
      omega (arith, c.append.ensures.capacity, inv.3),
      (
        next.0.0,
        subst (λ z. Along z first next.0.0 to (vec_items c.append.new.text) left) (sym told.job) (subst (λ t. Along bs first next.0.0 to t left) (sym c.append.ensures.items) next.0.1),
      ),
    )

-- where the loop ends the job is over
ended : (g : Over) (c : After-step g) → ((w : ℕ) → c.step.result ≡ Ok (Some w) → ⊥) →
    let model = model_of g.S.Sequence.list g.S.Sequence.room in
    (vec_items c.loop-written.text ≡ lines_of (model c.args.plan.now) (placed_calls c.args.job.now)) × (model c.step.new.plan ≡ model_after (model c.args.plan.now) (placed_calls c.args.job.now))
ended g c none =
    let model = model_of g.S.Sequence.list g.S.Sequence.room in
    let first = model c.args.plan.now in
    let inv = c.loop-written.invariant in
    let done = (along_end c.loop-written.reader.job.now first (omega (arith, inv.0)) inv.4.0 c.step.result none inv.4.1 c.step.ensures.model).0 in
    (done.lines ∙ ap (λ z. lines_of first (placed_calls z)) inv.1, done.left ∙ ap (λ z. model_after first (placed_calls z)) inv.1)

pub returns-in_default : goal.returns-in_default
returns-in_default g c =
    let end = ended g (goal.at.returns-in_default g c).After-step (λ w e. absurd (cc)) in
    record { lines = end.0; after = end.1 }

pub returns-in_default-2 : goal.returns-in_default-2
returns-in_default-2 g c =
    let end = ended g (goal.at.returns-in_default-2 g c).After-step (λ w e. absurd (cc)) in
    record { lines = end.0; after = end.1 }
