use Rattle.std.proofs.Common.{codes, subst, arith, rules}
use Rattle.job.specs.Lines.{Grown, junction_part}
use Rattle.job.proofs.Laying.{grown_then}
use Rattle.job.proofs.lines.Line.put_named.Goals as goal

pub returns-in-Some-Junction-clause-grown : goal.returns-in-Some-Junction-clause-grown
returns-in-Some-Junction-clause-grown c =
    let grown = grown_then (codes " junction ") _ _ _ _ (omega arith) c.put.ensures.grown c.put_number.ensures.grown in
    let same : Grown (junction_part c.in-Some-Junction.junction) c.args.self.now c.put_number.new.self = subst (λ n. Grown (junction_part n) c.args.self.now c.put_number.new.self) c.from.ensures grown in
    search rules
