use Rattle.std.proofs.Common.{sym, ◌∙◌, arith}
use Rattle.rows.specs.Layouts.{list_of}
use Rattle.rows.proofs.WholeEdits.{whole, replace_ends}
use Rattle.sequences.proofs.Rulings.{replaced}
use Rattle.tree.proofs.Trees.{sound_of, edited_sound}
use Rattle.tree.proofs.TreeSequence.replace.Goals as goal

pub replace-requires : goal.replace-requires
replace-requires g c = (_, whole (sound_of g.row.K-Element.coded g.row.K-Summary.coded c.args.self.now).laid)

pub invariant_of-self : goal.invariant_of-self
invariant_of-self g c =
    let s = sound_of g.row.K-Element.coded g.row.K-Summary.coded c.args.self.now in
    record { sound = edited_sound (replace_ends c.args.i c.args.element s.laid (c.replace.ensures _ (whole s.laid))) s }

pub returns-clause-after : goal.returns-clause-after
returns-clause-after g c =
    let s = sound_of g.row.K-Element.coded g.row.K-Summary.coded c.args.self.now in
    let e = replace_ends c.args.i c.args.element s.laid (c.replace.ensures _ (whole s.laid)) in
    e.holds ∙ sym (replaced (list_of c.args.self.now.rows.now c.args.self.now.heads.top) c.args.i c.args.element (omega (arith, c.len.ensures.value, c.if-i-len.false)))
