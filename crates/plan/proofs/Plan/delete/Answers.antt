use Rattle.std.proofs.Common.{◌≡◌, map, Ok, sym, refl, ap, ◌∙◌, subst}
use Rattle.std.specs.List.{remove}
use Rattle.motion.specs.Laid.{begun_again}
use Rattle.sequences.specs.Lists.{place_answer, delete_list}
use Rattle.plan.specs.Keeping.{Lie, entry_of}
use Rattle.plan.specs.Meaning.{start_of, model_of}
use Rattle.plan.specs.Models.{delete_told}
use Rattle.plan.proofs.Editing.{place_answered, begin_made, deleted_there, edit_made}
use Rattle.plan.proofs.Following.{same_plan}
use Rattle.plan.proofs.Plan.delete.Given.{Over}
use Rattle.plan.proofs.Plan.delete.Goals.{After-begin_again}
use Rattle.plan.proofs.Plan.delete.Goals as goal

pub returns-in_err-begin-clause-refused : goal.returns-in_err-begin-clause-refused
returns-in_err-begin-clause-refused g c = λ why no. same_plan _ _ refl refl refl c.begin_of.ensures.same

pub returns-in_err-delete-clause-refused : goal.returns-in_err-delete-clause-refused
returns-in_err-delete-clause-refused g c = λ why no. same_plan _ _ refl refl refl (c.delete.ensures.refused _ c.in_err-delete.was ∙ c.begin_of.ensures.same)

told : (g : Over) (c : After-begin_again g) → place_answer (g.S.Sequence.list c.args.self.now.blocks) c.args.i ≡ Ok tt
told g c = subst (λ z. place_answer (g.S.Sequence.list z) c.args.i ≡ Ok tt) c.begin_of.ensures.same (sym c.delete.ensures.value ∙ c.in_ok-delete.was)

taken_out : (g : Over) (c : After-begin_again g) → (map entry_of (g.S.Sequence.list c.begin_again.new.blocks) ≡ remove (map entry_of (g.S.Sequence.list c.args.self.now.blocks)) c.args.i) × Lie (start_of c.args.self.now) (g.S.Sequence.list c.begin_again.new.blocks)
taken_out g c =
    let s = g.S.Sequence in
    let p = c.args.self.now in
    let xs = s.list p.blocks in
    let i = c.args.i in
    let begin = c.in_ok-begin.begin in
    deleted_there (start_of p) xs p.lie i (s.list c.begin_again.new.blocks) begin (begin_made xs i c.begin.result (start_of p) c.begin.ensures begin (sym c.begin_of.ensures.value ∙ c.in_ok-begin.was)) (told g c)
    (c.begin_again.ensures.after ∙ ap (λ ys. begun_again ys i begin) (c.delete.ensures.after ∙ ap (λ z. delete_list (s.list z) i) c.begin_of.ensures.same))

pub invariant_of-self-2 : goal.invariant_of-self-2
invariant_of-self-2 g c = record { lie = (taken_out g c).1 }

pub returns-clause-after : goal.returns-clause-after
returns-clause-after g c =
    let s = g.S.Sequence in
    let p = c.args.self.now in
    let so = (goal.at.returns-clause-after g c).After-begin_again in
    edit_made (delete_told (model_of s.list s.room p) c.args.i) (start_of p) (s.room p.blocks) _ _ _ _ (place_answered (s.list p.blocks) c.args.i ∙ told g so)
    (c.begin_again.ensures.room ∙ c.delete.ensures.room ∙ ap s.room c.begin_of.ensures.same) (taken_out g so).0
