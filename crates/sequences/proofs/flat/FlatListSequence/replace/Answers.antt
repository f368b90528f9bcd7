use Rattle.std.proofs.Common.{◌≡◌, length, take, sym, ◌∙◌, arith}
use Rattle.std.proofs.lemmas.List.{length-take-le}
use Rattle.sequences.proofs.Rulings.{replaced}
use Rattle.sequences.proofs.Shifts.{take_set_inside}
use Rattle.sequences.proofs.flat.FlatListSequence.replace.Goals as goal

pub returns-clause-after : goal.returns-clause-after
returns-clause-after g c =
    let s = c.args.self.now in
    let xs = s.slots.now in
    let long : length (take s.used xs) ≡ s.used = length-take-le s.used xs (omega (arith, s.within)) in
    take_set_inside s.used xs c.args.i c.args.element ∙ sym (replaced (take s.used xs) c.args.i c.args.element (omega (arith, c.if-i-self.false)))
