-- What one turn of the verdict keeps.
use Rattle.std.proofs.Common.{◌≡◌, ℕ, zero, suc, ◌+◌, ◌≤◌, List, [], ◌∷◌, ◌++◌, length, Ok, sym, refl, ap, ◌∙◌, append_assoc, arith}
use Rattle.plan.specs.declared.calls.Call as call
use Rattle.job.specs.Judgements.{Reads}
use Rattle.job.specs.Outputs.{Placed, placed, field_calls, found_calls, calls_from, placed_calls}
use Rattle.job.specs.Verdicts.{checked_at, field_verdict, found_verdict, verdict_from, verdict_of}
use Rattle.job.specs.declared.fields.Field.TheVariants.{Call}
use Rattle.job.specs.declared.fields.Found.{Found}

-- what is left to read from a place on gives the verdict, and what was read leads to that place
pub record Left (n : ℕ) (bs : List ℕ) (at : ℕ) : Type 0 where
  pub enough : length bs ≤ at + n
  pub verdict : verdict_from (suc n) bs at ≡ verdict_of bs
  pub read : List Placed
  pub reads : Reads bs 0 read at
  pub calls : read ++ calls_from (suc n) bs at ≡ placed_calls bs

pub left_start : (bs : List ℕ) → Left (length bs) bs 0
left_start bs = record { enough = omega arith; verdict = refl; read = []; reads = refl; calls = refl }

reads_on : (bs : List ℕ) (from : ℕ) (cs : List Placed) (at : ℕ) (f : Found) (c : call.Call) → Reads bs from cs at → checked_at bs at ≡ Ok f → f.field ≡ Call c → Reads bs from (cs ++ (placed at c ∷ [])) f.next
reads_on bs from [] at f c same e field = (f, sym same, ap (checked_at bs) same ∙ e, field, refl)
reads_on bs from (p ∷ more) at f c (g, begins, is, calls, rest) e field = (g, begins, is, calls, reads_on bs g.next more at f c rest e field)

pub left_on : (n : ℕ) (bs : List ℕ) (at : ℕ) (f : Found) (c : call.Call) → Left n bs at → checked_at bs at ≡ Ok f → f.field ≡ Call c → at + 4 ≤ f.next → f.next ≤ length bs → (m : ℕ) × Left m bs f.next
left_on zero bs at f c so e field lt le = absurd (omega (arith, so.enough))
left_on (suc n) bs at f c so e field lt le =
    let rest : calls_from (suc (suc n)) bs at ≡ placed at c ∷ calls_from (suc n) bs f.next = ap (λ r. found_calls r at (calls_from (suc n) bs)) e ∙ ap (λ g. field_calls g at (calls_from (suc n) bs f.next)) field in (
      n,
      record {
        enough = omega (arith, so.enough);
        verdict = sym (ap (λ r. found_verdict r (verdict_from (suc n) bs)) e ∙ ap (λ g. field_verdict g (verdict_from (suc n) bs f.next)) field) ∙ so.verdict;
        read = so.read ++ (placed at c ∷ []);
        reads = reads_on bs 0 so.read at f c so.reads e field;
        calls = append_assoc so.read (placed at c ∷ []) (calls_from (suc n) bs f.next) ∙ ap (λ cs. so.read ++ cs) (sym rest) ∙ so.calls;
      },
    )
