use Rattle.std.proofs.Common.{refl, of_calls}
use Rattle.plan.specs.Meaning.{start_of}
use Rattle.plan.proofs.Asking.{made_of, span_tells}
use Rattle.plan.proofs.Following.{same_plan}
use Rattle.plan.proofs.Plan.span.Goals as goal

pub returns : goal.returns
returns g c =
    let s = g.S.Sequence in
    let p = c.args.self.now in
    let i = c.args.i in
    let j = c.args.j in
    let asked = c.sum_up in
    let told = made_of (s.list p.blocks) i j _ (λ z. z.second.second) asked.result c.map.result _ asked.ensures.value c.map.ensures.cases (search of_calls) in
    let tells = span_tells (start_of p) (s.room p.blocks) (s.list p.blocks) p.lie i j c.map.result told in
    record {
      value = tells.0;
      right = tells.1;
      same = same_plan _ _ refl refl refl asked.ensures.same;
    }
