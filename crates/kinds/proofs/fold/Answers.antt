use Rattle.std.proofs.Common.{◌≡◌, ◌+◌, drop, sym, ap, ◌∙◌, arith, rules}
use Rattle.kinds.specs.Rules.{joined_on, summary}
use Rattle.kinds.proofs.Summaries.{joined_on_more, joined_on_all, summary_append}
use Rattle.kinds.proofs.fold.Goals as goal

pub loop-element-init : goal.loop-element-init
loop-element-init g c = (search rules, ap (λ s. joined_on g.K.Kind.rule s c.args.elements.now) c.unit-sum.ensures)

pub loop-element-preserved : goal.loop-element-preserved
loop-element-preserved g c =
    let m = g.K.Kind.rule in
    let xs = c.args.elements.now in
    let i = c.loop-element.element-index in
    let s = c.loop-element.sum in
    let joined : c.join-sum.result ≡ m.join s (m.one c.element-item.result) = cc (c.join-sum.ensures, c.of.ensures) in (
      omega arith,
      ap (λ z. joined_on m z (drop (i + 1) xs)) joined
          ∙ joined_on_more m s xs i _ c.loop-element-test.true (search rules)
          ∙ c.loop-element.invariant.1,
    )

pub returns : goal.returns
returns g c =
    let k = g.K.Kind in
    let whole : c.loop-element.sum ≡ summary k.rule c.args.elements.now =
    sym (joined_on_all k.rule c.loop-element.sum c.args.elements.now c.loop-element.element-index c.loop-element-test.false)
    ∙ c.loop-element.invariant.1 in
    record { value = whole; parts = λ xs ys cut. whole ∙ ap (summary k.rule) cut ∙ summary_append k.laws xs ys }
