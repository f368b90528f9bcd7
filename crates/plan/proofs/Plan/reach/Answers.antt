use Rattle.std.proofs.Common.{Some, refl, of_calls}
use Rattle.plan.specs.Meaning.{start_of}
use Rattle.plan.proofs.Asking.{made_of, reach_some}
use Rattle.plan.proofs.Following.{same_plan}
use Rattle.plan.proofs.Plan.reach.Goals as goal

pub returns : goal.returns
returns g c =
    let s = g.S.Sequence in
    let p = c.args.self.now in
    let i = c.args.i in
    let j = c.args.j in
    let asked = c.sum_up-told in
    let told = made_of (s.list p.blocks) i j _ (λ z. Some z.second.first) asked.result c.map.result _ asked.ensures.value c.map.ensures.cases (search of_calls) in
    let tells = reach_some (start_of p) (s.room p.blocks) (s.list p.blocks) p.lie i j c.if-i-j.false c.map.result told in
    record {
      value = tells.0;
      right = tells.1;
      same = same_plan _ _ refl refl refl asked.ensures.same;
    }

pub returns-in_err-check_range-clause-same : goal.returns-in_err-check_range-clause-same
returns-in_err-check_range-clause-same g c = same_plan _ _ refl refl refl c.check_range.ensures.same

pub returns-then-i-j-clause-same : goal.returns-then-i-j-clause-same
returns-then-i-j-clause-same g c = same_plan _ _ refl refl refl c.check_range.ensures.same
