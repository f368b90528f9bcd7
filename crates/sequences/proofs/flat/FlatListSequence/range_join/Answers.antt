use Rattle.std.proofs.Common.{◌≡◌, length, take, Ok, sym, ap, ◌∙◌, arith}
use Rattle.std.proofs.lemmas.List.{length-take-le}
use Rattle.kinds.specs.Rules.{summary}
use Rattle.sequences.specs.Lists.{no_place}
use Rattle.sequences.proofs.Rulings.{range_there, between_take}
use Rattle.sequences.proofs.flat.FlatListSequence.range_join.Goals as goal

pub returns-clause-value : goal.returns-clause-value
returns-clause-value g c =
    let s = c.args.self.now in
    let xs = s.slots.now in
    let i = c.args.i in
    let j = c.args.j in
    let long : length (take s.used xs) ≡ s.used = length-take-le s.used xs (omega (arith, s.within)) in
    ap Ok (c.range.ensures ∙ ap (summary g.K.Kind.rule) (sym (between_take xs i j s.used c.if-j-self.false)))
    ∙ sym (range_there no_place (take s.used xs) i j _ c.if-i-j.false (omega (arith, c.if-j-self.false)))
