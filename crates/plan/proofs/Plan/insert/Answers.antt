use Rattle.std.proofs.Common.{◌≡◌, suc, map, Ok, sym, refl, ap, ◌∙◌, subst}
use Rattle.std.specs.List.{insert}
use Rattle.motion.specs.Laid.{begun_again}
use Rattle.sequences.specs.Lists.{insert_answer, insert_list}
use Rattle.plan.specs.Keeping.{Lie, entry_of}
use Rattle.plan.specs.Meaning.{start_of, model_of}
use Rattle.plan.specs.Models.{at_full, insert_told}
use Rattle.plan.proofs.Editing.{block_made, insert_by_place, inserted, insert_longer, edit_made}
use Rattle.plan.proofs.Following.{same_plan}
use Rattle.plan.proofs.Plan.insert.Given.{Over}
use Rattle.plan.proofs.Plan.insert.Goals.{After-begin_next}
use Rattle.plan.proofs.Plan.insert.Goals as goal

pub begin_next-requires : goal.begin_next-requires
begin_next-requires g c =
    insert_longer _ _ _ c.args.i _ (sym c.insert.ensures.value ∙ c.in_ok-insert.was) c.insert.ensures.after

pub returns-in_err-block-clause-refused : goal.returns-in_err-block-clause-refused
returns-in_err-block-clause-refused g c = λ why no. same_plan _ _ refl refl refl c.block_at.ensures.same

pub returns-in_err-insert-clause-refused : goal.returns-in_err-insert-clause-refused
returns-in_err-insert-clause-refused g c = λ why no. same_plan _ _ refl refl refl (c.insert.ensures.refused _ c.in_err-insert.was ∙ c.block_at.ensures.same)

told : (g : Over) (c : After-begin_next g) → insert_answer (g.S.Sequence.list c.args.self.now.blocks) (g.S.Sequence.room c.args.self.now.blocks) c.args.i ≡ Ok tt
told g c = subst (λ z. insert_answer (g.S.Sequence.list z) (g.S.Sequence.room z) c.args.i ≡ Ok tt) c.block_at.ensures.same (sym c.insert.ensures.value ∙ c.in_ok-insert.was)

put_in : (g : Over) (c : After-begin_next g) → (map entry_of (g.S.Sequence.list c.begin_next.new.blocks) ≡ insert (map entry_of (g.S.Sequence.list c.args.self.now.blocks)) c.args.i (at_full c.args.m)) × Lie (start_of c.args.self.now) (g.S.Sequence.list c.begin_next.new.blocks)
put_in g c =
    let s = g.S.Sequence in
    let p = c.args.self.now in
    let i = c.args.i in
    let m = c.args.m in
    let block = c.in_ok-block.block in
    inserted (start_of p) (s.list p.blocks) p.lie i (s.list c.begin_next.new.blocks) m (c.block_at.ensures.valid block c.in_ok-block.was) c.block_at.ensures.places block
    (block_made (s.list p.blocks) i c.begin.result (start_of p) c.begin.ensures m block (sym c.block_at.ensures.value ∙ c.in_ok-block.was)) (s.room p.blocks) (told g c)
    (c.begin_next.ensures.after ∙ ap (λ ys. begun_again ys (suc i) m.target) (c.insert.ensures.after ∙ ap (λ z. insert_list (s.list z) (s.room z) i block) c.block_at.ensures.same))

pub invariant_of-self-2 : goal.invariant_of-self-2
invariant_of-self-2 g c = record { lie = (put_in g c).1 }

pub returns-clause-after : goal.returns-clause-after
returns-clause-after g c =
    let s = g.S.Sequence in
    let p = c.args.self.now in
    let so = goal.at.returns-clause-after g c in
    edit_made (insert_told (model_of s.list s.room p) c.args.i c.args.m) (start_of p) (s.room p.blocks) _ _ _ _
    (insert_by_place (s.list p.blocks) c.args.i c.begin.result (start_of p) c.begin.ensures c.args.m c.in_ok-block.block (sym c.block_at.ensures.value ∙ c.in_ok-block.was) (s.room p.blocks) ∙ told g so.After-begin_next)
    (c.begin_next.ensures.room ∙ c.insert.ensures.room ∙ ap s.room c.block_at.ensures.same) (put_in g so.After-begin_next).0
