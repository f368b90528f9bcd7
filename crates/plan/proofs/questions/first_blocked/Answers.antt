use Rattle.std.proofs.Common.{◌≡◌, ℕ, ◌+◌, ◌-◌, ◌/◌, ◌<◌, ◌≤◌, List, length, refl, ap, ◌∙◌, ⊎_elim, arith}
use Rattle.std.proofs.lemmas.Bool.{cases_lt}
use Rattle.motion.specs.declared.blocks.Block.{Block}
use Rattle.motion.specs.ByParts.{run_down_to}
use Rattle.motion.specs.Profiles.{Starts, first_blocked}
use Rattle.motion.proofs.Blocking.{first_blocked_first}
use Rattle.motion.proofs.Parting.{blocked_by_parts}
use Rattle.plan.proofs.questions.first_blocked.Goals as goal

past : (xs : List Block) (s k : ℕ) → (Starts xs (length xs) s → ⊥) → k ≤ length xs → run_down_to xs k < s → first_blocked xs s ≤ k
past xs s k none within high =
    ⊎_elim (λ before. absurd (let low = (blocked_by_parts xs s k none within).0 before in omega arith)) (λ le. le) (cases_lt k (first_blocked xs s))

pub loop-low-init : goal.loop-low-init
loop-low-init g c =
    let xs = g.S.Sequence.list c.args.blocks.now in
    record {
      same = refl;
      order = omega arith;
      within = omega arith;
      between = λ none. (omega arith, omega (arith, (first_blocked_first xs c.args.s none).within));
    }

pub loop-low-preserved : goal.loop-low-preserved
loop-low-preserved g c =
    let inv = c.loop-low.invariant in
    let xs = g.S.Sequence.list c.args.blocks.now in
    let k = c.loop-low.low + (c.loop-low.high - c.loop-low.low) / 2 in
    let known : c.greatest_start.result ≡ run_down_to xs k = c.greatest_start.ensures.value ∙ ap (λ z. run_down_to (g.S.Sequence.list z) k) inv.same in
    record {
      same = c.greatest_start.ensures.same ∙ inv.same;
      order = omega arith;
      within = omega arith;
      between = λ none. ((inv.between none).0, past xs c.args.s k none (omega arith) (omega arith));
    }

pub loop-low-preserved-then-s-greatest_start : goal.loop-low-preserved-then-s-greatest_start
loop-low-preserved-then-s-greatest_start g c =
    let inv = c.loop-low.invariant in
    let xs = g.S.Sequence.list c.args.blocks.now in
    let k = c.loop-low.low + (c.loop-low.high - c.loop-low.low) / 2 in
    let known : c.greatest_start.result ≡ run_down_to xs k = c.greatest_start.ensures.value ∙ ap (λ z. run_down_to (g.S.Sequence.list z) k) inv.same in
    record {
      same = c.greatest_start.ensures.same ∙ inv.same;
      order = omega arith;
      within = inv.within;
      between = λ none. let before = (blocked_by_parts xs c.args.s k none (omega arith)).1 (omega arith) in (omega arith, (inv.between none).1);
    }
