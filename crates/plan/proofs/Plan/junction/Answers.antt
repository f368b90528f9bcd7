use Rattle.std.proofs.Common.{◌≡◌, ◌<◌, ◌≤◌, min, length, take, drop, Ok, Err, sym, refl, ap, ◌∙◌, subst, arith}
use Rattle.std.proofs.lemmas.Slice.{between_is, between_to_end}
use Rattle.refusals.specs.declared.Refusal.TheVariants.{Blocked}
use Rattle.kinds.specs.Rules.{summary}
use Rattle.motion.specs.Profiles.{Starts, first_blocked}
use Rattle.motion.specs.Runs.{through, run_up_rule, run_down_rule}
use Rattle.motion.proofs.Parting.{none_starts}
use Rattle.plan.specs.Meaning.{model_of}
use Rattle.plan.specs.Models.{blocks_of, junction_told}
use Rattle.plan.specs.Promises.{JunctionRight}
use Rattle.plan.proofs.Asking.{run_up_read, run_down_read}
use Rattle.plan.proofs.Following.{same_plan}
use Rattle.plan.proofs.Junctions.{driven_told, blocked_told, told_near, junction_right}
use Rattle.plan.proofs.Plan.junction.Goals as goal

pub returns-then-j-count-clause-same : goal.returns-then-j-count-clause-same
returns-then-j-count-clause-same g c = same_plan _ _ refl refl refl c.count-count.ensures.same

pub returns-then-s-through : goal.returns-then-s-through
returns-then-s-through g c =
    let s = g.S.Sequence in
    let p = c.args.self.now in
    let b = model_of s.list s.room p in
    let j = c.args.j in
    let n = c.count-count.result in
    let xs = blocks_of b in
    let held : s.list c.count-count.new.self ≡ xs = ap s.list c.count-count.ensures.same ∙ p.lie.along in
    let asked : s.list c.sum_up.new.blocks ≡ xs = ap s.list c.sum_up.ensures.same ∙ held in
    let long : n ≡ length xs = c.count-count.ensures.value ∙ ap length p.lie.along in
    let whole = run_down_read xs (s.list c.count-count.new.self) held 0 n c.in_ok-whole.field-0 (sym c.sum_up.ensures.value ∙ c.in_ok-whole.was) ∙ ap (summary run_down_rule) (between_to_end xs 0 n (omega arith)) in
    let high : through (summary run_down_rule xs) 0 < c.args.s = subst (λ z. z < c.args.s) (c.through.ensures ∙ ap (λ run. through run 0) whole) c.if-s-through.true in
    let first = subst (λ ys. (Starts ys (length ys) c.args.s → ⊥) → c.first_blocked.result ≡ first_blocked ys c.args.s) asked c.first_blocked.ensures.value (none_starts xs c.args.s high) in
    let tells : Err (Blocked c.first_blocked.result) ≡ junction_told b j c.args.s =
    ap (λ m. Err (Blocked m)) first ∙ sym (blocked_told xs j c.args.s high) ∙ sym (told_near b j c.args.s c.if-s-gt-MOST_START.false (omega (arith, c.if-j-count.false, long))) in
    record {
      value = tells;
      right = subst (JunctionRight xs j c.args.s) (sym tells) (junction_right b j c.args.s);
      same = same_plan _ _ refl refl refl (c.first_blocked.ensures.same ∙ c.sum_up.ensures.same ∙ c.count-count.ensures.same);
    }

pub returns : goal.returns
returns g c =
    let s = g.S.Sequence in
    let p = c.args.self.now in
    let b = model_of s.list s.room p in
    let j = c.args.j in
    let n = c.count-count.result in
    let xs = blocks_of b in
    let held : s.list c.count-count.new.self ≡ xs = ap s.list c.count-count.ensures.same ∙ p.lie.along in
    let asked : s.list c.sum_up.new.blocks ≡ xs = ap s.list c.sum_up.ensures.same ∙ held in
    let looked : s.list c.sum_up-2.new.blocks ≡ xs = ap s.list c.sum_up-2.ensures.same ∙ asked in
    let long : n ≡ length xs = c.count-count.ensures.value ∙ ap length p.lie.along in
    let within : j ≤ length xs = omega (arith, c.if-j-count.false, long) in
    let whole = run_down_read xs (s.list c.count-count.new.self) held 0 n c.in_ok-whole.field-0 (sym c.sum_up.ensures.value ∙ c.in_ok-whole.was) ∙ ap (summary run_down_rule) (between_to_end xs 0 n (omega arith)) in
    let before = run_up_read xs (s.list c.sum_up.new.blocks) asked 0 j c.in_ok-before.field-0 (sym c.sum_up-2.ensures.value ∙ c.in_ok-before.was) ∙ ap (summary run_up_rule) (between_is xs 0 j) in
    let after = run_down_read xs (s.list c.sum_up-2.new.blocks) looked j n c.in_ok-after.field-0 (sym c.sum_up-3.ensures.value ∙ c.in_ok-after.was) ∙ ap (summary run_down_rule) (between_to_end xs j n (omega arith)) in
    let low : c.args.s ≤ through (summary run_down_rule xs) 0 = subst (λ z. c.args.s ≤ z) (c.through.ensures ∙ ap (λ run. through run 0) whole) c.if-s-through.false in
    let up : c.through-2.result ≡ through (summary run_up_rule (take j xs)) c.args.s = c.through-2.ensures ∙ ap (λ run. through run c.args.s) before in
    let down : c.through-3.result ≡ through (summary run_down_rule (drop j xs)) 0 = c.through-3.ensures ∙ ap (λ run. through run 0) after in
    let tells : Ok c.min.result ≡ junction_told b j c.args.s =
    ap Ok (c.min.ensures ∙ ap (λ z. min z c.through-3.result) up ∙ ap (min (through (summary run_up_rule (take j xs)) c.args.s)) down)
    ∙ sym (driven_told xs j c.args.s low within) ∙ sym (told_near b j c.args.s c.if-s-gt-MOST_START.false within) in
    record {
      value = tells;
      right = subst (JunctionRight xs j c.args.s) (sym tells) (junction_right b j c.args.s);
      same = same_plan _ _ refl refl refl (c.sum_up-3.ensures.same ∙ c.sum_up-2.ensures.same ∙ c.sum_up.ensures.same ∙ c.count-count.ensures.same);
    }
