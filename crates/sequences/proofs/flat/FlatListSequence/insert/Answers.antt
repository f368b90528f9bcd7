use Rattle.std.proofs.Common.{◌≡◌, ◌+◌, ◌<◌, min, length, take, set, sym, ap, ◌∙◌, arith}
use Rattle.std.proofs.lemmas.List.{length-take-le}
use Rattle.sequences.proofs.Rulings.{inserted}
use Rattle.sequences.proofs.Shifts.{slots_inserted}
use Rattle.sequences.proofs.flat.FlatListSequence.insert.Goals as goal

pub returns-clause-after : goal.returns-clause-after
returns-clause-after g c =
    let s = c.args.self.now in
    let xs = s.slots.now in
    let i = c.args.i in
    let e = c.args.element in
    let room = min (length xs) 256 in
    let long : length (take s.used xs) ≡ s.used = length-take-le s.used xs (omega (arith, s.within)) in
    let free : s.used < room = omega (arith, s.within, c.room.ensures, c.if-used-room.false) in
    ap (λ ys. take (s.used + 1) (set ys i e)) c.copy_within.ensures.after
    ∙ slots_inserted xs s.used i e (omega arith) c.if-i-used.false
    ∙ sym (inserted (take s.used xs) room i e (omega (arith, c.if-i-used.false)) (omega arith))
