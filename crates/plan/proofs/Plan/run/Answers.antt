use Rattle.std.proofs.lemmas.Result.{IfOk-weaker}
use Rattle.sequences.proofs.Runs.{ran_told, where_made}
use Rattle.plan.specs.Calls.{answer, after, Unaltering}
use Rattle.plan.specs.Meaning.{model_of}
use Rattle.plan.proofs.Running.{ran_right}
use Rattle.plan.proofs.Plan.run.Goals as goal

pub returns : goal.returns
returns g c =
    let s = g.S.Sequence in
    let done = c.make_all.ensures in
    let p = c.args.self.now in
    let calls = c.args.calls.now in
    let made = ran_told (model_of s.list s.room) answer after Unaltering p calls in
    record {
      value = IfOk-weaker c.make_all.result _ _ (λ v ran. (made _ _ ran).0) done.ran;
      right = IfOk-weaker c.make_all.result _ _ (λ v ran. ran_right (model_of s.list s.room) (λ q. q.lie.entries) p calls _ _ ran) done.ran;
      after = where_made c.make_all.result done.ran (λ v ran. (made _ _ ran).1);
      refused = done.refused;
    }
