use Rattle.std.proofs.Common.{◌+◌, ◌%◌, ◌/◌, [], ◌∷◌, decimal, sym, subst, arith}
use Rattle.std.proofs.lemmas.Fmt.{decimal_digit, decimal_step}
use Rattle.job.specs.Lines.{Grown}
use Rattle.job.proofs.Laying.{grown_then, front_long}
use Rattle.job.proofs.lines.Line.+put_number.Goals as goal

pub put-requires-else-n-lt10 : goal.put-requires-else-n-lt10
put-requires-else-n-lt10 t c =
    let long = front_long c.args.n (omega arith) (omega arith) in
    omega (arith, long.0, long.1, c.put_number.ensures.grown.end, c.put_number.ensures.grown.room)

pub returns-then-n-lt10-clause-grown : goal.returns-then-n-lt10-clause-grown
returns-then-n-lt10-clause-grown t c = subst (λ bs. Grown bs c.args.self.now c.put.new.self) (sym (decimal_digit c.args.n (omega arith))) c.put.ensures.grown

pub returns-else-n-lt10-clause-bound : goal.returns-else-n-lt10-clause-bound
returns-else-n-lt10-clause-bound t c =
    let long = front_long c.args.n (omega arith) (omega arith) in
    omega (arith, long.0, long.1, c.put_number.ensures.grown.end, c.put-else-n-lt10.ensures.grown.end)

pub returns-else-n-lt10-clause-grown : goal.returns-else-n-lt10-clause-grown
returns-else-n-lt10-clause-grown t c =
    let both = grown_then (decimal (c.args.n / 10)) ((48 + c.args.n % 10) ∷ []) _ _ _ (omega arith) c.put_number.ensures.grown c.put-else-n-lt10.ensures.grown in
    subst (λ bs. Grown bs c.args.self.now c.put-else-n-lt10.new.self) (sym (decimal_step c.args.n (omega arith) (omega arith))) both
