-- One write after another.
use Rattle.std.proofs.Common.{◌≡◌, ℕ, ◌+◌, ◌/◌, ◌^◌, ◌<◌, ◌≤◌, List, ◌++◌, length, decimal, sym, refl, ap, ◌∙◌, arith, length-append}
use lib.Seq.{paste}
use Rattle.std.proofs.lemmas.Fmt.{decimal_step, length-decimal-le}
use Rattle.std.proofs.lemmas.List.Edits.{paste_all, paste-paste}
use Rattle.job.specs.Lines.{Grown, laid}
use Rattle.job.specs.declared.lines.Line.{Line}

laid_paste : (line : List ℕ) (at : ℕ) (bs : List ℕ) → laid line at bs ≡ paste line at bs (length bs)
laid_paste line at bs = sym (paste_all line at bs (length bs) refl)

laid_on : (line : List ℕ) (at : ℕ) (bs cs : List ℕ) → at ≤ length line → laid (laid line at bs) (at + length bs) cs ≡ laid line at (bs ++ cs)
laid_on line at bs cs h =
    laid_paste (laid line at bs) (at + length bs) cs
    ∙ ap (λ l. paste l (at + length bs) cs (length cs)) (laid_paste line at bs)
    ∙ paste-paste line at bs cs (length bs) (length cs) refl refl h
    ∙ ap (paste line at (bs ++ cs)) (sym (length-append bs cs))
    ∙ sym (laid_paste line at (bs ++ cs))

-- two writes one after the other
pub grown_then : (bs cs : List ℕ) (a b c : Line) → a.end ≤ length a.bytes.now → Grown bs a b → Grown cs b c → Grown (bs ++ cs) a c
grown_then bs cs a b c h first next = record {
  end = omega (arith, first.end, next.end, length-append bs cs);
  bytes = next.bytes ∙ (λ i. laid (first.bytes i) (first.end i) cs) ∙ laid_on a.bytes.now a.end bs cs h;
  room = next.room ∙ first.room;
}

-- how long a number is, by its front
pub front_long : (n : ℕ) → 10 ≤ n → n < 2 ^ 32 → (length (decimal n) ≡ length (decimal (n / 10)) + 1) × (length (decimal n) ≤ 10)
front_long n h k = (ap length (decimal_step n h (omega arith)) ∙ length-append _ _, length-decimal-le 10 n (omega arith) (omega arith) (omega arith))
