use Rattle.std.proofs.Common.{ap}
use Rattle.std.proofs.lemmas.Result.{IfOk-weaker}
use Rattle.sequences.specs.Calls.{answer, after, Unaltering}
use Rattle.sequences.proofs.Runs.{ran_listed, where_made, either_way}
use Rattle.sequences.proofs.calls.run.Goals as goal

pub returns : goal.returns
returns g c =
    let s = g.S.Sequence in
    let done = c.make_all.ensures in
    let made = ran_listed (answer g.S.Kind.Kind.rule) after s.room s.list Unaltering c.args.sequence.now c.args.calls.now in
    record {
      value = IfOk-weaker c.make_all.result _ _ (λ v ran. (made _ _ ran).0) done.ran;
      after = where_made c.make_all.result done.ran (λ v ran. (made _ _ ran).2);
      room = either_way c.make_all.result done.ran (λ v ran. (made _ _ ran).1) (λ no. ap s.room (done.refused no));
      refused = done.refused;
    }
