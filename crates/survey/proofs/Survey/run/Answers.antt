use Rattle.std.proofs.Common.{ap}
use Rattle.std.proofs.lemmas.Result.{IfOk-weaker}
use Rattle.sequences.proofs.Runs.{ran_listed, where_made, either_way}
use Rattle.survey.specs.Calls.{answer, after, Unaltering}
use Rattle.survey.specs.declared.Survey.{Survey}
use Rattle.survey.proofs.Running.{ran_by_rules, ran_right}
use Rattle.survey.proofs.Survey.run.Goals as goal

pub returns : goal.returns
returns g c =
    let s = g.S.Sequence in
    let room = λ (x : Survey _ _ _ _ g.S.Sequence _). s.room x.readings in
    let list = λ (x : Survey _ _ _ _ g.S.Sequence _). s.list x.readings in
    let done = c.make_all.ensures in
    let p = c.args.self.now in
    let calls = c.args.calls.now in
    let made = ran_listed answer after room list Unaltering p calls in
    let by_rules = ran_by_rules room list p calls in
    record {
      value = IfOk-weaker c.make_all.result _ _ (λ v ran. (made _ _ (by_rules _ _ ran)).0) done.ran;
      right = IfOk-weaker c.make_all.result _ _ (λ v ran. ran_right room list p calls _ _ ran) done.ran;
      after = where_made c.make_all.result done.ran (λ v ran. (made _ _ (by_rules _ _ ran)).2);
      room = either_way c.make_all.result done.ran (λ v ran. (made _ _ (by_rules _ _ ran)).1) (λ no. ap room (done.refused no));
      refused = done.refused;
    }
