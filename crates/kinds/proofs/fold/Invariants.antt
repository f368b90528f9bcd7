use Rattle.std.proofs.Common.{◌≡◌, ◌≤◌, length, drop}
use Rattle.kinds.specs.Rules.{joined_on, summary}
use Rattle.kinds.proofs.fold.Given as goal

-- what is left, joined on, gives the summary of all
abbrev pub invariant-loop-element : goal.invariant-loop-element
invariant-loop-element g l =
    let m = g.K.Kind.rule in
    (l.element-index ≤ length l.elements) × (joined_on m l.sum (drop l.element-index l.elements) ≡ summary m l.elements)
