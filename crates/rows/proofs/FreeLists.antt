-- The free rows, and what a write leaves of them.
use Rattle.std.proofs.Common.{◌≡◌, ℕ, ◌<◌, ◌≢◌, List, [], ◌∷◌, length, get_or, set, Some, None, Option, sym, refl, ap, ◌∙◌, subst, arith, length-set, get_or-set_other, get_or-set_same}
use Rattle.rows.specs.FreeList.{FreeList, among}
use Rattle.rows.specs.declared.Row.{Row}
use Rattle.rows.proofs.Frames.{same_self}

module _ {E S : Type 0} where
  pub free_none : (rows : List (Row E S)) (free : Option ℕ) (fs : List ℕ) → free ≡ None → FreeList rows free fs → length fs ≡ 0
  free_none rows free [] e c = refl
  free_none rows free (p ∷ ps) e c = let b = c.0 in let z : ◌≡◌ {A = ℕ} 0 1 = cc in absurd (omega arith)

  pub record Next (rows : List (Row E S)) (p : ℕ) (fs : List ℕ) : Type 0 where
    pub ps : List ℕ
    pub is : fs ≡ p ∷ ps
    pub within : p < length rows
    pub then : (d : Row E S) → FreeList rows (get_or rows p d).left ps

  pub free_some : (rows : List (Row E S)) (free : Option ℕ) (p : ℕ) (fs : List ℕ) → free ≡ Some p → FreeList rows free fs → Next rows p fs
  free_some rows free p [] e c = let z : ◌≡◌ {A = ℕ} 0 1 = cc in absurd (omega arith)
  free_some rows free p (q ∷ ps) e c =
      let b = c.0 in let z : q ≡ p = cc in
      record { ps = ps; is = ap (λ k. k ∷ ps) z; within = subst (λ k. k < length rows) z c.1; then = λ d. subst (λ k. FreeList rows (get_or rows k d).left ps) z (c.2 d) }

  pub free_kept : (rows more : List (Row E S)) (free : Option ℕ) (fs : List ℕ) → length rows ≡ length more → ((k : ℕ) (d : Row E S) → 0 < among k fs → get_or more k d ≡ get_or rows k d) → FreeList rows free fs → FreeList more free fs
  free_kept rows more free [] long agree c = c
  free_kept rows more free (p ∷ ps) long agree c =
      let me = same_self p in (
        c.0,
        subst (λ z. p < z) long c.1,
        λ d. subst (λ z. FreeList more z.left ps) (sym (agree p d (omega arith))) (free_kept rows more (get_or rows p d).left ps long (λ k e h. agree k e (omega arith)) (c.2 d)),
      )

  pub free_put : (rows more : List (Row E S)) (free : Option ℕ) (p : ℕ) (row : Row E S) (fs : List ℕ) → more ≡ set rows p row → row.left ≡ free → p < length rows → among p fs ≡ 0 → FreeList rows free fs → FreeList more (Some p) (p ∷ fs)
  free_put rows more free p row fs w is within away c = (
    refl,
    subst (λ z. p < length z) (sym w) (rw length-set within),
    λ d. let at : get_or more p d ≡ row = ap (λ z. get_or z p d) w ∙ get_or-set_same rows p row d within in
        subst (λ z. FreeList more z fs) (sym (ap (λ z. z.left) at ∙ is))
        (free_kept rows more free fs (sym (ap length w ∙ length-set rows p row))
        (λ k e h. let ne : k ≢ p = (λ eq. let y : among k fs ≡ 0 = subst (λ z. among z fs ≡ 0) (sym eq) away in omega arith) in ap (λ z. get_or z k e) w ∙ get_or-set_other rows p k row e ne) c),
  )
