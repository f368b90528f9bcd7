use Rattle.std.proofs.Common.{◌≡◌, ◌+◌, ◌-◌, ◌/◌, Ok, sym, ap, ◌∙◌, subst, arith}
use Rattle.kinds.specs.Models.{thinnest}
use Rattle.kinds.specs.Rules.{summary}
use Rattle.std.specs.List.{between}
use Rattle.sequences.specs.Lists.{ranged}
use Rattle.sequences.proofs.Rulings.{range_there}
use Rattle.survey.specs.Readings.{no_range}
use Rattle.survey.proofs.Searches.{told_other, least, go_right, one_left}
use Rattle.survey.proofs.Survey.first_place.Goals as goal

pub loop-high-preserved : goal.loop-high-preserved
loop-high-preserved g c =
    let inv = c.loop-high.invariant in
    let low = c.loop-high.low in
    let high = c.loop-high.high in
    let middle = low + (high - low) / 2 in
    let s = g.S.Sequence in
    let p = c.args.self.now in
    let xs = s.list p.readings in
    let told : c.least.result ≡ Ok (least xs p.sound low middle) =
    subst (λ z. c.least.result ≡ ranged no_range (s.list z.readings) low middle (summary thinnest (between low middle (s.list z.readings)))) inv.0 c.least.ensures.value
    ∙ range_there no_range xs low middle _ (omega arith) (omega (arith, inv.3, c.requires.within)) in
    (c.least.ensures.same ∙ inv.0, omega (arith, inv.1), omega arith, inv.3, λ whole. go_right xs p.sound c.args.i c.args.j c.args.reading low high c.requires.within (inv.4 whole) middle (omega arith) (omega arith) (λ e. told_other _ c.least.result c.args.reading (sym c.eq.ensures ∙ c.if-eq.false) (told ∙ ap Ok e)))

pub returns-clause-value : goal.returns-clause-value
returns-clause-value g c = λ whole.
    let p = c.args.self.now in
    one_left (g.S.Sequence.list p.readings) p.sound c.args.i c.args.j c.args.reading c.loop-high.low c.loop-high.high c.requires.within (c.loop-high.invariant.4 whole) (omega (arith, c.loop-high-test.false)) whole
