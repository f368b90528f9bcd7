use Rattle.std.proofs.Common.{◌≡◌, suc, map, set, Ok, sym, refl, ap, ◌∙◌, subst}
use Rattle.motion.specs.Laid.{begun_again}
use Rattle.sequences.specs.Lists.{place_answer, replace_list}
use Rattle.plan.specs.Keeping.{Lie, entry_of}
use Rattle.plan.specs.Meaning.{start_of, model_of}
use Rattle.plan.specs.Models.{at_full, replace_told}
use Rattle.plan.proofs.Editing.{block_made, replace_by_place, replaced_there, edit_made}
use Rattle.plan.proofs.Following.{same_plan}
use Rattle.plan.proofs.Plan.replace.Given.{Over}
use Rattle.plan.proofs.Plan.replace.Goals.{After-begin_next}
use Rattle.plan.proofs.Plan.replace.Goals as goal

pub returns-in_err-block-clause-refused : goal.returns-in_err-block-clause-refused
returns-in_err-block-clause-refused g c = λ why no. same_plan _ _ refl refl refl c.block_at.ensures.same

pub returns-in_err-replace-clause-refused : goal.returns-in_err-replace-clause-refused
returns-in_err-replace-clause-refused g c = λ why no. same_plan _ _ refl refl refl (c.replace.ensures.refused _ c.in_err-replace.was ∙ c.block_at.ensures.same)

told : (g : Over) (c : After-begin_next g) → place_answer (g.S.Sequence.list c.args.self.now.blocks) c.args.i ≡ Ok tt
told g c = subst (λ z. place_answer (g.S.Sequence.list z) c.args.i ≡ Ok tt) c.block_at.ensures.same (sym c.replace.ensures.value ∙ c.in_ok-replace.was)

put_in : (g : Over) (c : After-begin_next g) → (map entry_of (g.S.Sequence.list c.begin_next.new.blocks) ≡ set (map entry_of (g.S.Sequence.list c.args.self.now.blocks)) c.args.i (at_full c.args.m)) × Lie (start_of c.args.self.now) (g.S.Sequence.list c.begin_next.new.blocks)
put_in g c =
    let s = g.S.Sequence in
    let p = c.args.self.now in
    let i = c.args.i in
    let m = c.args.m in
    let block = c.in_ok-block.block in
    replaced_there (start_of p) (s.list p.blocks) p.lie i (s.list c.begin_next.new.blocks) m (c.block_at.ensures.valid block c.in_ok-block.was) c.block_at.ensures.places block
    (block_made (s.list p.blocks) i c.begin.result (start_of p) c.begin.ensures m block (sym c.block_at.ensures.value ∙ c.in_ok-block.was)) (told g c)
    (c.begin_next.ensures.after ∙ ap (λ ys. begun_again ys (suc i) m.target) (c.replace.ensures.after ∙ ap (λ z. replace_list (s.list z) i block) c.block_at.ensures.same))

pub invariant_of-self-2 : goal.invariant_of-self-2
invariant_of-self-2 g c = record { lie = (put_in g c).1 }

pub returns-clause-after : goal.returns-clause-after
returns-clause-after g c =
    let s = g.S.Sequence in
    let p = c.args.self.now in
    let so = goal.at.returns-clause-after g c in
    edit_made (replace_told (model_of s.list s.room p) c.args.i c.args.m) (start_of p) (s.room p.blocks) _ _ _ _
    (replace_by_place (s.list p.blocks) c.args.i c.begin.result (start_of p) c.begin.ensures c.args.m c.in_ok-block.block (sym c.block_at.ensures.value ∙ c.in_ok-block.was) (s.room p.blocks) ∙ told g so.After-begin_next)
    (c.begin_next.ensures.room ∙ c.replace.ensures.room ∙ ap s.room c.block_at.ensures.same) (put_in g so.After-begin_next).0
