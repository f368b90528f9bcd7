use Rattle.std.proofs.Common.{◌≡◌, ◌-◌, length, take, sym, ap, ◌∙◌, arith}
use Rattle.std.proofs.lemmas.List.{length-take-le}
use Rattle.sequences.proofs.Rulings.{deleted}
use Rattle.sequences.proofs.Shifts.{slots_deleted}
use Rattle.sequences.proofs.flat.FlatListSequence.delete.Goals as goal

pub returns-clause-after : goal.returns-clause-after
returns-clause-after g c =
    let s = c.args.self.now in
    let xs = s.slots.now in
    let long : length (take s.used xs) ≡ s.used = length-take-le s.used xs (omega (arith, s.within)) in
    ap (take (s.used - 1)) c.copy_within.ensures.after
    ∙ slots_deleted xs s.used c.args.i (omega (arith, s.within)) c.if-i-used.false
    ∙ sym (deleted (take s.used xs) c.args.i (omega (arith, c.if-i-used.false)))
