use Rattle.std.proofs.Common.{ℕ, min, length, IfOk, ap, subst, rules}
use Rattle.std.proofs.lemmas.Result.{IfOk-weaker}
use Rattle.plan.specs.Calls.{after_all}
use Rattle.plan.specs.Models.{opened, blocks_of}
use Rattle.panel.specs.declared.Told.{Told}
use Rattle.panel.specs.Standing.{Standing}
use Rattle.panel.proofs.Rows.{standing_from}
use Rattle.panel.proofs.run_on_tree.Goals as goal

pub returns : goal.returns
returns c =
    let calls = c.args.calls.now in
    let left : ℕ → Told → Type 0 = λ room t. Standing (blocks_of (after_all (opened room) calls)) t.depth in
    record {
      whole = search rules;
      stands = subst (λ room. IfOk c.run_deep.result (left room)) (ap (λ rows. min (length rows) 4096) c.open-blocks.ensures.rows)
          (IfOk-weaker c.run_deep.result _ _ (λ t s. standing_from _ _ _ _ _ _ s.1 s.2 s.3) c.run_deep.ensures.stands);
    }
