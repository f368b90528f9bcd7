use Rattle.std.proofs.Common.{take, sym, refl, ap, ◌∙◌}
use Rattle.std.proofs.lemmas.Slice.{between_is}
use Rattle.kinds.specs.Rules.{summary}
use Rattle.motion.specs.Profiles.{own_at}
use Rattle.motion.specs.Runs.{through, run_down_rule}
use Rattle.plan.proofs.Asking.{run_down_read}
use Rattle.plan.proofs.questions.greatest_start.Goals as goal

pub returns-clause-value : goal.returns-clause-value
returns-clause-value g c =
    let s = g.S.Sequence in
    let xs = s.list c.args.blocks.now in
    let m = c.args.m in
    let before = run_down_read xs xs refl 0 m c.in-Ok.before (sym c.sum_up.ensures.value ∙ c.in-Ok.is) in
    c.through.ensures
    ∙ ap (λ run. through run c.own_cap.result) (before ∙ ap (summary run_down_rule) (between_is xs 0 m))
    ∙ ap (through (summary run_down_rule (take m xs))) (c.own_cap.ensures.value ∙ ap (λ z. own_at (s.list z) m) c.sum_up.ensures.same)
