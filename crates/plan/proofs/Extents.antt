-- What a plan tells of a range: the box of its targets and the sum of its lengths.
use Rattle.std.proofs.Common.{◌≡◌, ℕ, zero, suc, ◌-◌, ◌<◌, ◌≤◌, List, [], ◌∷◌, map, length, take, drop, ℤ, Some, Ok, sym, refl, ap, ◌∙◌, subst, arith}
use Rattle.std.specs.List.{between}
use Rattle.std.proofs.lemmas.List.Edits.{between_none, length-between}
use Rattle.std.proofs.lemmas.List.Elements.{All-head, All-tail}
use Rattle.std.proofs.lemmas.Int.{ints}
use Rattle.kinds.specs.Rules.{summary}
use Rattle.sequences.proofs.Rulings.{range_there, range_nowhere}
use Rattle.motion.specs.declared.blocks.Block.{Block}
use Rattle.motion.specs.Boxes.{Box, Fit}
use Rattle.motion.specs.Extents.{reach_rule, signed32}
use Rattle.motion.specs.Figures.{block_of}
use Rattle.motion.specs.Laid.{Entry, laid}
use Rattle.motion.specs.Ranges.{Within}
use Rattle.motion.proofs.Boxing.{reach_is_box, span_is_sum}
use Rattle.motion.proofs.Laying.{laid_length, laid_take, laid_drop, end_of}
use Rattle.plan.specs.Keeping.{ValidEntry, AllValid}
use Rattle.plan.specs.Models.{Model, blocks_of, no_range, box_of, reach_told, span_told}
use Rattle.plan.specs.Promises.{ReachRight, SpanRight}
use Rattle.plan.proofs.Accepted.{all_between}

-- accepted coordinates fit 32 bits
within_signed : (z : ℤ) (n : ℕ) → n ≤ 100000 → Within z n → signed32 z
within_signed z n small w = (omega (arith, ints, w.low), omega (arith, ints, w.high))

-- what holds of the block of every accepted move holds of each block along such moves
fits : (f : Block → ℤ) → ((s : List ℤ) (e : Entry) → ValidEntry e → signed32 (f (block_of s e.move e.percent))) → (s : List ℤ) (es : List Entry) → AllValid es → Fit (map f (laid s es))
fits f one s [] v j h = absurd (omega arith)
fits f one s (e ∷ es) v zero h = one s e (All-head ValidEntry e es v)
fits f one s (e ∷ es) v (suc j) h = fits f one e.move.target es (All-tail ValidEntry e es v) j (omega arith)

laid_boxed : (s : List ℤ) (es : List Entry) → AllValid es → Box (laid s es) (summary reach_rule (laid s es))
laid_boxed s es v =
    reach_is_box (laid s es)
    (fits (λ b. b.x) (λ _ e w. within_signed _ 100000 (omega arith) w.move.target.x) s es v)
    (fits (λ b. b.y) (λ _ e w. within_signed _ 100000 (omega arith) w.move.target.y) s es v)
    (fits (λ b. b.z) (λ _ e w. within_signed _ 10000 (omega arith) w.move.target.z) s es v)

-- a range of blocks lies along that range of moves
laid_between : (s : List ℤ) (es : List Entry) (i j : ℕ) → between i j (laid s es) ≡ laid (end_of s (take i es)) (between i j es)
laid_between s es i j = ap (take (j - i)) (laid_drop s es i) ∙ laid_take (end_of s (take i es)) (drop i es) (j - i)

pub some_box : (xs : List Block) → 0 < length xs → box_of xs ≡ Some (summary reach_rule xs)
some_box [] h = absurd (omega arith)
some_box (x ∷ xs) h = refl

module _ (b : Model) (i j : ℕ) where
  long : length (blocks_of b) ≡ length b.entries
  long = laid_length b.start b.entries

  pub reach_right : AllValid b.entries → ReachRight (blocks_of b) i j (reach_told b i j)
  reach_right valid =
      let told : i ≤ j → j ≤ length (blocks_of b) → reach_told b i j ≡ Ok (box_of (between i j (blocks_of b))) = λ order within. range_there no_range b.entries i j _ order (omega (arith, long)) in
      record {
        nowhere = λ never. range_nowhere no_range b.entries i j _ (λ order within. never order (omega (arith, long)));
        empty = λ same within. told (omega arith) within ∙ ap (λ k. Ok (box_of (between i k (blocks_of b)))) (sym same) ∙ ap (λ none. Ok (box_of none)) (between_none (blocks_of b) i);
        boxed = λ order within.
            let boxes = laid_boxed (end_of b.start (take i b.entries)) (between i j b.entries) (all_between b.entries i valid j) in
            let some : 0 < length (between i j (blocks_of b)) = omega (arith, length-between (blocks_of b) i j within) in (
              summary reach_rule (between i j (blocks_of b)),
              subst (λ xs. Box xs (summary reach_rule xs)) (sym (laid_between b.start b.entries i j)) boxes,
              told (omega arith) within ∙ ap Ok (some_box (between i j (blocks_of b)) some),
            );
      }

  pub span_right : SpanRight (blocks_of b) i j (span_told b i j)
  span_right = record {
    nowhere = λ never. range_nowhere no_range b.entries i j _ (λ order within. never order (omega (arith, long)));
    summed = λ order within. range_there no_range b.entries i j _ order (omega (arith, long)) ∙ ap Ok (span_is_sum (between i j (blocks_of b)));
  }
