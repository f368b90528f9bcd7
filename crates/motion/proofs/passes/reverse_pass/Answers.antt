use Rattle.std.proofs.Common.{◌≡◌, ◌+◌, ◌<◌, [], ◌∷◌, length, get_or, set, sym, ap, ◌∙◌, subst, arith}
use Rattle.std.specs.Slice.Iter.{iter_rest}
use Rattle.std.specs.Iterator.Adapters.{rev_source, enumerate_source}
use Rattle.std.proofs.lemmas.List.{append-nil}
use Rattle.motion.specs.Figures.{fall_of}
use Rattle.motion.specs.Profiles.{junction_cap, reverse_at}
use Rattle.motion.specs.Laid.{idle}
use Rattle.motion.proofs.Lawfulness.{passes}
use Rattle.motion.proofs.Passing.{Split, filled_from, filled_all, split_down, reverse_next, last_left}
use Rattle.motion.proofs.passes.reverse_pass.Goals as goal

pub loop-j-init : goal.loop-j-init
loop-j-init c =
    let blocks = c.args.blocks.now in
    let n = length blocks in
    let f = filled_from (junction_cap blocks) n c.args.speeds.now c.requires in
    let all : iter_rest (enumerate_source (rev_source c.into_iter-j-iterator.result)) ≡ blocks = cc in (
      cc,
      ([], sym (append-nil _ ∙ all)),
      subst (λ xs. Split (junction_cap blocks) (reverse_at blocks) n (length xs) c.args.speeds.now) (sym all) (
        f.0,
        λ k l m. f.1 k m,
        λ k l m. (let same : k ≡ n = omega arith in f.1 k m ∙ ap (junction_cap blocks) same ∙ sym (passes blocks).reverse_last ∙ ap (reverse_at blocks) (sym same)),
      ),
    )

pub loop-j-preserved : goal.loop-j-preserved
loop-j-preserved c =
    let blocks = c.args.blocks.now in
    let n = length blocks in
    let v = c.loop-j.speeds in
    let inv = c.loop-j.invariant in
    let steps = c.in-Some.ensures.steps in
    let b = c.in-Some.block.now in
    let j = c.in-Some.j in
    let more = iter_rest (enumerate_source (rev_source c.next.new.self)) in
    let last = last_left blocks _ more inv.1.0 b inv.1.1 steps.1.0 in
    let at : j ≡ length more = omega (arith, steps.1.1, inv.0) in
    let within : j < n = omega (arith, at, last.2) in
    let before : Split (junction_cap blocks) (reverse_at blocks) n (j + 1) v = (inv.2.0, λ k l m. inv.2.1 k (omega (arith, at, last.1)) m, λ k l m. inv.2.2 k (omega (arith, at, last.1)) m) in
    let fall = c.fall.ensures ∙ ap fall_of (last.3 ∙ ap (λ k. get_or blocks k idle) (sym at)) in
    let least : c.next_speed.result ≡ reverse_at blocks j =
    c.next_speed.ensures
    ∙ reverse_next blocks j within (get_or v j 0) (get_or v (j + 1) 0) c.fall.result (before.1 j (omega arith) (omega arith)) (before.2 (j + 1) (omega arith) (omega arith)) fall in (
      steps.0 ∙ inv.0,
      (b ∷ inv.1.0, last.0),
      subst (λ k. Split (junction_cap blocks) (reverse_at blocks) n k (set v j c.next_speed.result)) at (split_down (junction_cap blocks) (reverse_at blocks) n j c.next_speed.result v (omega arith) before least),
    )

pub returns : goal.returns
returns c =
    let blocks = c.args.blocks.now in
    let inv = c.loop-j.invariant in
    filled_all (reverse_at blocks) (length blocks) c.loop-j.speeds (inv.2.0, λ k m. inv.2.2 k (omega (arith, c.in-None.ensures.steps.1.0)) m)
