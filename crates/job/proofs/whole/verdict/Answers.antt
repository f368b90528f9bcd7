use Rattle.std.proofs.Common.{◌≡◌, length, sym, arith, rules}
use Rattle.plan.specs.declared.calls.Call as call
use Rattle.job.specs.declared.fields.Field.TheVariants.{Call}
use Rattle.job.proofs.Encodings.{encoding}
use Rattle.job.proofs.Walks.{left_start, left_on}
use Rattle.job.proofs.whole.verdict.Goals as goal

pub loop-next-init : goal.loop-next-init
loop-next-init c = (omega arith, (length c.args.job.now, left_start c.args.job.now))

pub loop-next-preserved : goal.loop-next-preserved
loop-next-preserved c =
    let so = c.loop-next.invariant.1 in
    let found = c.in_ok-next.ensures in
    let calls : (it : call.Call) × (c.in_ok-next.field-0.field ≡ Call it) = search rules in
    (found.bound.1, left_on so.0 c.args.job.now c.loop-next.at c.in_ok-next.field-0 calls.0 so.1 (sym found.value) calls.1 found.bound.0 found.bound.1)

pub returns-clause-encoded : goal.returns-clause-encoded
returns-clause-encoded c = encoding c.args.job.now _ (λ i. (c.type_inv.job i).fits) (search rules) (search rules)

pub returns-in_err-next-clause-encoded : goal.returns-in_err-next-clause-encoded
returns-in_err-next-clause-encoded c = encoding c.args.job.now _ (λ i. (c.type_inv.job i).fits) (search rules) (search rules)
