use Rattle.std.proofs.Common.{◌++◌, Some, sym, ap, ◌∙◌}
use Rattle.std.proofs.lemmas.List.{append-nil}
use Rattle.rows.specs.Shape.{elements, Rooted}
use Rattle.rows.proofs.Nodes.{is_leaf}
use Rattle.rows.proofs.Removes.{count_first, whole_right, fewer_mid, taken_mid, taken_end}
use Rattle.rows.proofs.SideEdits.{ready_right}
use Rattle.rows.proofs.path.merge_sides.Goals as goal

pub rebalance-top-requires : goal.rebalance-top-requires
rebalance-top-requires g c =
    let r = c.requires.3 in
    let o = c.requires.4 in
    let sr = c.requires.6 in
    let s : Rooted c.args.rows.now (Some c.in-Some.below) r = (sym c.in-Some.is ∙ sr.0, sr.1) in
    let d = c.remove_first-next.ensures r (whole_right o s) in
    (c.requires.2, d.edit.t, ready_right (fewer_mid o _ d.edit c.requires.5 (count_first d) d.there))

pub returns : goal.returns
returns g c = λ p x l r o sl sr.
    let s : Rooted c.args.rows.now (Some c.in-Some.below) r = (sym c.in-Some.is ∙ sr.0, sr.1) in
    let d = c.remove_first-next.ensures r (whole_right o s) in
    let b = fewer_mid o _ d.edit sl (count_first d) d.there in
    let a = c.rebalance-top.ensures l d.edit.t (ready_right b) in
    taken_mid o _ d.edit b d.there (ap (λ z. elements l ++ z) (sym d.split)) a

pub returns-in_default : goal.returns-in_default
returns-in_default g c = λ p x l r o sl sr.
    let none = is_leaf r (sym c.in_default.is ∙ sr.0) in
    taken_end o none sl (sym (ap (λ z. elements l ++ elements z) none ∙ append-nil (elements l)))
