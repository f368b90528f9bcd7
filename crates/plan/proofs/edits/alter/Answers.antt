use Rattle.std.proofs.Common.{sym, ap, ◌∙◌}
use Rattle.std.proofs.lemmas.List.{set_past}
use Rattle.sequences.proofs.Rulings.{element_missing}
use Rattle.plan.proofs.edits.alter.Goals as goal

pub returns-in_default-clause-after : goal.returns-in_default-clause-after
returns-in_default-clause-after g c = λ f _.
    let s = g.S.Sequence in
    let none = element_missing (s.list c.args.blocks.now) c.args.i _ (sym c.element_at.ensures.value ∙ c.in_default.is) in
    ap s.list c.element_at.ensures.same ∙ sym (set_past _ _ _ none.0)
