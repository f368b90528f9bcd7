-- What a write of one row leaves of the trees among the rows, and makes.
use Rattle.std.proofs.Common.{◌≡◌, ℕ, ◌+◌, ◌<◌, ◌≤◌, ◌≢◌, List, length, get_or, sym, refl, ap, ◌∙◌, subst, ⊎_elim, arith, length-set, get_or-set_other, get_or-set_same, eq-eqb}
use Rattle.std.proofs.lemmas.Bool.{cases_eq, cases_lt}
use Rattle.std.proofs.lemmas.Bool.Decides.{nat_tests}
use Rattle.kinds.specs.Rules.{Rule}
use Rattle.rows.specs.Shape.{Shape, leaf, node, same, times, row_of, refreshed_row, node_of, Lies}
use Rattle.rows.specs.Edits.{Refreshed}
use Rattle.rows.specs.declared.Row.{Row}

pub same_self : (p : ℕ) → same p p ≡ 1
same_self p = let h = eq-eqb p p refl in rw h

pub same_not : (p q : ℕ) → same p q ≡ 0 → p ≢ q
same_not p q z e =
    let h = eq-eqb p q e in
    let y : same p q ≡ 1 = rw h in
    omega arith

pub not_same : (p q : ℕ) → p ≢ q → same p q ≡ 0
not_same p q ne = grind (arith, nat_tests)

pub same_most : (p q : ℕ) → same p q ≤ 1
same_most p q = grind (arith, nat_tests)

-- a place that is in a tree is counted there
pub same_at : {E S : Type 0} (k q : ℕ) (t : Shape E S) → times q t ≡ 1 → same k q ≤ times k t
same_at k q t h = ⊎_elim (λ (eq : k ≡ q). omega (arith, same_most k q, ap (λ z. times z t) eq)) (λ ne. omega (arith, not_same k q ne)) (cases_eq k q)

module _ {E S : Type 0} where
  pub lies_within : (rows : List (Row E S)) (k : ℕ) (t : Shape E S) → Lies rows t → 0 < times k t → k < length rows
  lies_within rows k leaf s h = absurd (omega arith)
  lies_within rows k (node p x l r) s h =
      ⊎_elim (λ (eq : k ≡ p). omega (arith, s.0))
      (λ ne. ⊎_elim (λ (lt : 0 < times k l). lies_within rows k l s.2 lt) (λ (ge : times k l ≤ 0). lies_within rows k r s.3 (omega (arith, not_same k p ne))) (cases_lt 0 (times k l)))
      (cases_eq k p)

  -- rows that agree where a tree lies
  pub lies_kept : (rows more : List (Row E S)) (t : Shape E S) → length rows ≡ length more → ((q : ℕ) (d : Row E S) → 0 < times q t → get_or more q d ≡ get_or rows q d) → Lies rows t → Lies more t
  lies_kept rows more leaf long agree k = tt
  lies_kept rows more (node p x l r) long agree k =
      let one = same_self p in (
        subst (λ n. p < n) long k.0,
        agree p (row_of x l r) (omega arith) ∙ k.1,
        lies_kept rows more l long (λ q d h. agree q d (omega arith)) k.2,
        lies_kept rows more r long (λ q d h. agree q d (omega arith)) k.3,
      )

  -- the row at p was written over l and r
  module _ {m : Rule E S} {rows more : List (Row E S)} {p : ℕ} {e : E} {l r : Shape E S} (w : Refreshed m rows p e l r more) where
    pub long_put : length rows ≡ length more
    long_put = sym (ap length w.is ∙ length-set rows p (refreshed_row m e l r))

    pub within_put : (k : ℕ) → k < length rows → k < length more
    within_put k h = subst (λ n. k < n) long_put h

    pub kept_put : (k : ℕ) (d : Row E S) → same k p ≡ 0 → get_or more k d ≡ get_or rows k d
    kept_put k d z = ap (λ v. get_or v k d) w.is ∙ get_or-set_other rows p k (refreshed_row m e l r) d (same_not k p z)

    -- a tree that p is not in lies as it did
    pub lies_put : (t : Shape E S) → times p t ≡ 0 → Lies rows t → Lies more t
    lies_put t z k =
        lies_kept rows more t long_put (λ q d h. kept_put q d (not_same q p (λ eq. let y : times q t ≡ 0 = subst (λ v. times v t ≡ 0) (sym eq) z in omega arith))) k

    -- l and r are a tree under p now
    pub put_node : p < length rows → times p l + times p r ≡ 0 → Lies rows l → Lies rows r → Lies more (node_of m p e l r)
    put_node within apart kl kr =
        let row = refreshed_row m e l r in (
          within_put p within,
          ap (λ v. get_or v p row) w.is ∙ get_or-set_same rows p row row within,
          lies_put l (omega arith) kl,
          lies_put r (omega arith) kr,
        )
