use Rattle.std.proofs.Common.{codes, arith}
use Rattle.job.proofs.Laying.{grown_then}
use Rattle.job.proofs.lines.Line.put_speed.Goals as goal

pub returns-clause-grown : goal.returns-clause-grown
returns-clause-grown c =
    let number = grown_then (codes "v ") _ _ _ _ (omega arith) c.put.ensures.grown c.put_number.ensures.grown in
    grown_then _ (codes "\n") _ _ _ (omega arith) number c.put-2.ensures.grown
