use Rattle.std.proofs.Common.{◌≡◌, ℕ, suc, ◌+◌, ◌-◌, [], length, Some, Ok, sym, refl, ap, ◌∙◌, subst, arith}
use borrow.Rule.Slice.PartMut.{put_mid}
use Rattle.plan.specs.Meaning.{model_of}
use Rattle.job.specs.Outputs.{lines_of, placed_calls, model_after}
use Rattle.job.specs.Texts.{Wrote}
use Rattle.job.specs.Verdicts.{verdict_of}
use Rattle.job.proofs.Goings.{Along, Running, along_start, running_more, running_end}
use Rattle.job.proofs.running.run_fields.Given.{Over}
use Rattle.job.proofs.running.run_fields.Goals.{After-step}
use Rattle.job.proofs.running.run_fields.Goals as goal

pub loop-written-init : goal.loop-written-init
loop-written-init g c =
    let new = c.new-reader.ensures in
    let bs = c.new-reader.result.job.now in
    let first = model_of g.S.Sequence.list g.S.Sequence.room c.args.plan.now in (
      new.job,
      record {
        share = omega arith;
        space = omega (arith, c.requires.room, ap length new.job);
        rest = refl;
        n = suc (length bs);
        along = subst (λ at. Along bs first (suc (length bs)) at [] first) (sym new.place) (along_start bs first (ap verdict_of new.job ∙ c.requires.whole));
      },
    )

pub loop-written-preserved : goal.loop-written-preserved
loop-written-preserved g c =
    let model = model_of g.S.Sequence.list g.S.Sequence.room in
    let first = model c.args.plan.now in
    let left = model c.step.new.plan in
    let told = c.step.ensures in
    let l = c.loop-written in
    let is : c.step.result ≡ Ok (Some c.in-Ok-Some.written) = c.in-Ok-Some.is ∙ ap Ok c.in-Ok-Some.field-0-is in
    let more = running_more _ _ l.invariant.1 is c.step.auto.line told.place told.bound told.model in
    (told.job ∙ l.invariant.0, subst (λ z. Running z first c.step.new.self.place (l.at + c.in-Ok-Some.written) c.args.text.now (put_mid l.at (length l.text - l.at) l.text c.step.new.line) left) (sym told.job) more)

-- where the loop ends the job is over
ended : (g : Over) (c : After-step g) → ((w : ℕ) → c.step.result ≡ Ok (Some w) → ⊥) →
    let model = model_of g.S.Sequence.list g.S.Sequence.room in
    let l = c.loop-written in
    Wrote (lines_of (model c.args.plan.now) (placed_calls c.args.job.now)) l.at c.args.text.now (put_mid l.at (length l.text - l.at) l.text c.step.new.line) × (model c.step.new.plan ≡ model_after (model c.args.plan.now) (placed_calls c.args.job.now))
ended g c none =
    let model = model_of g.S.Sequence.list g.S.Sequence.room in
    let first = model c.args.plan.now in
    let l = c.loop-written in
    let end = running_end _ _ l.invariant.1 none c.step.ensures.model in
    subst (λ z. Wrote (lines_of first (placed_calls z)) l.at c.args.text.now (put_mid l.at (length l.text - l.at) l.text c.step.new.line) × (model c.step.new.plan ≡ model_after first (placed_calls z))) l.invariant.0 end

pub returns-in_default : goal.returns-in_default
returns-in_default g c =
    let end = ended g (goal.at.returns-in_default g c).After-step (λ w e. absurd (cc)) in
    record { value = end.0; after = end.1 }

pub returns-in_default-2 : goal.returns-in_default-2
returns-in_default-2 g c =
    let end = ended g (goal.at.returns-in_default-2 g c).After-step (λ w e. absurd (cc)) in
    record { value = end.0; after = end.1 }
