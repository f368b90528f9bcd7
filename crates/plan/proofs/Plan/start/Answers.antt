use Rattle.std.proofs.Common.{sym, ap, ◌∙◌, rules}
use Rattle.motion.specs.Ranges.{axis, check_position}
use Rattle.plan.specs.Keeping.{modelled}
use Rattle.plan.specs.Meaning.{start_of, model_of}
use Rattle.plan.specs.Models.{model, place}
use Rattle.plan.proofs.Editing.{entries_stay, started_lie}
use Rattle.plan.proofs.Following.{made_so}
use Rattle.plan.proofs.Plan.start.Goals as goal

pub invariant_of-self : goal.invariant_of-self
invariant_of-self g c =
    let s = g.S.Sequence in
    let p = c.args.self.now in
    record { lie = started_lie (start_of p) c.args.position (s.list p.blocks) (s.list c.begin_again.new.blocks) c.begin_again.ensures.after _ _ _ p.lie (c.check_position.ensures.valid.0 c.in_ok-check_position.was) (search rules) }

pub returns-clause-after : goal.returns-clause-after
returns-clause-after g c =
    let s = g.S.Sequence in
    let p = c.args.self.now in
    let q = c.args.position in
    made_so (check_position q) (model (place (axis q 0) (axis q 1) (axis q 2)) (s.room p.blocks) (model_of s.list s.room p).entries) _ _ tt (sym c.check_position.ensures.value ∙ c.in_ok-check_position.was)
    (ap (λ z. modelled z (s.room c.begin_again.new.blocks) (s.list c.begin_again.new.blocks)) (search rules)
    ∙ (λ k. model (place (axis q 0) (axis q 1) (axis q 2)) (c.begin_again.ensures.room k) (entries_stay (start_of p) q (s.list p.blocks) (s.list c.begin_again.new.blocks) c.begin_again.ensures.after k)))
