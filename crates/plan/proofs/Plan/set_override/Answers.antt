use Rattle.std.proofs.Common.{◌≡◌, true, map, Ok, sym, refl, ap, ◌∙◌, rules}
use Rattle.motion.specs.Figures.{at_percent}
use Rattle.motion.specs.Laid.{overridden}
use Rattle.sequences.specs.Lists.{ranged}
use Rattle.plan.specs.Keeping.{Lie, entry_of}
use Rattle.plan.specs.Meaning.{start_of, model_of}
use Rattle.plan.specs.Models.{no_range, percent_fits, changed_in, override_told}
use Rattle.plan.proofs.Editing.{edit_made}
use Rattle.plan.proofs.Following.{same_plan}
use Rattle.plan.proofs.Overriding.{override_answered, overridden_there}
use Rattle.plan.proofs.Plan.set_override.Given.{Over}
use Rattle.plan.proofs.Plan.set_override.Goals.{After-override_range}
use Rattle.plan.proofs.Plan.set_override.Goals as goal

pub returns-in_err-check_range-clause-refused : goal.returns-in_err-check_range-clause-refused
returns-in_err-check_range-clause-refused g c = λ why no. same_plan _ _ refl refl refl c.check_range.ensures.same

fits : (g : Over) (c : After-override_range g) → percent_fits c.args.percent ≡ true
fits g c = search rules

told : (g : Over) (c : After-override_range g) → ranged {X = Unit {0}} no_range (g.S.Sequence.list c.args.self.now.blocks) c.args.i c.args.j tt ≡ Ok tt
told g c = sym c.check_range.ensures.value ∙ c.in_ok-check_range.was

set : (g : Over) (c : After-override_range g) → (map entry_of (g.S.Sequence.list c.override_range.new.blocks) ≡ changed_in (λ e. overridden e c.args.percent) (map entry_of (g.S.Sequence.list c.args.self.now.blocks)) c.args.i c.args.j) × Lie (start_of c.args.self.now) (g.S.Sequence.list c.override_range.new.blocks)
set g c =
    let s = g.S.Sequence in
    let p = c.args.self.now in
    overridden_there (start_of p) (s.list p.blocks) c.args.i c.args.j c.args.percent (fits g c) (s.list c.override_range.new.blocks) p.lie (told g c)
    (c.override_range.ensures.after ∙ ap (λ z. changed_in (λ b. at_percent b c.args.percent) (s.list z) c.args.i c.args.j) c.check_range.ensures.same)

pub invariant_of-self-2 : goal.invariant_of-self-2
invariant_of-self-2 g c = record { lie = (set g c).1 }

pub returns-clause-after : goal.returns-clause-after
returns-clause-after g c =
    let s = g.S.Sequence in
    let p = c.args.self.now in
    let so = (goal.at.returns-clause-after g c).After-override_range in
    edit_made (override_told (model_of s.list s.room p) c.args.i c.args.j c.args.percent) (start_of p) (s.room p.blocks) _ _ _ _
    (override_answered (start_of p) (s.list p.blocks) c.args.i c.args.j c.args.percent (fits g so) (s.room p.blocks) ∙ told g so)
    (c.override_range.ensures.room ∙ ap s.room c.check_range.ensures.same) (set g so).0
