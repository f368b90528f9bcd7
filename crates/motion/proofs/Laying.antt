-- The blocks along a list of moves, by parts and after edits.
use Rattle.std.proofs.Common.{◌≡◌, ℕ, zero, suc, ◌<◌, ◌≤◌, List, [], ◌∷◌, length, get_or, take, drop, set, ℤ, refl, ap, ◌∙◌, arith}
use Rattle.std.specs.List.{insert, remove}
use Rattle.motion.specs.declared.moves.Move.{Move}
use Rattle.motion.specs.declared.blocks.Block.{Block}
use Rattle.motion.specs.Figures.{block_of, move_of, at_percent}
use Rattle.motion.specs.Laid.{Entry, laid, overridden, idle, begin_of, block_at, begun_again, Edits}

pub laid_length : (s : List ℤ) (es : List Entry) → length (laid s es) ≡ length es
laid_length s [] = refl
laid_length s (e ∷ es) = ap suc (laid_length e.move.target es)

-- where a list of entries ends
abbrev pub end_of : List ℤ → List Entry → List ℤ
end_of s [] = s
end_of s (e ∷ es) = end_of e.move.target es

pub laid_take : (s : List ℤ) (es : List Entry) (j : ℕ) → take j (laid s es) ≡ laid s (take j es)
laid_take s es zero = refl
laid_take s [] (suc j) = refl
laid_take s (e ∷ es) (suc j) = ap (λ bs. block_of s e.move e.percent ∷ bs) (laid_take e.move.target es j)

pub laid_drop : (s : List ℤ) (es : List Entry) (j : ℕ) → drop j (laid s es) ≡ laid (end_of s (take j es)) (drop j es)
laid_drop s es zero = refl
laid_drop s [] (suc j) = refl
laid_drop s (e ∷ es) (suc j) = laid_drop e.move.target es j

-- the place after the first block begins where that ends: only the coordinates of a position count
next_begin : (s : List ℤ) (x : Entry) (bs : List Block) (i : ℕ) (m : Move) (p : ℕ) → block_of (begin_of x.move.target bs i) m p ≡ block_of (begin_of s (block_of s x.move x.percent ∷ bs) (suc i)) m p
next_begin s x bs zero m p = refl
next_begin s x bs (suc i) m p = refl

-- each block is the one of its entry, where the one before it ends
pub laid_get_or : (s : List ℤ) (es : List Entry) (i : ℕ) (e : Entry) → i < length es → get_or (laid s es) i idle ≡ block_at s (laid s es) i (get_or es i e)
laid_get_or s [] i e h = absurd (omega arith)
laid_get_or s (x ∷ xs) zero e h = refl
laid_get_or s (x ∷ xs) (suc i) e h =
    laid_get_or x.move.target xs i e (omega arith)
    ∙ next_begin s x (laid x.move.target xs) i (get_or xs i e).move (get_or xs i e).percent

pub laid_restart : (s : List ℤ) (es : List Entry) (p : List ℤ) → laid p es ≡ begun_again (laid s es) 0 p
laid_restart s [] p = refl
laid_restart s (e ∷ es) p = refl

pub laid_override : (s : List ℤ) (es : List Entry) (i percent : ℕ) (e : Entry) → laid s (set es i (overridden (get_or es i e) percent)) ≡ set (laid s es) i (at_percent (get_or (laid s es) i idle) percent)
laid_override s [] i percent e = refl
laid_override s (x ∷ xs) zero percent e = refl
laid_override s (x ∷ xs) (suc i) percent e = ap (λ bs. block_of s x.move x.percent ∷ bs) (laid_override x.move.target xs i percent e)

pub laid_insert : (s : List ℤ) (es : List Entry) (i : ℕ) (e : Entry) → i ≤ length es → laid s (insert es i e) ≡ begun_again (insert (laid s es) i (block_at s (laid s es) i e)) (suc i) e.move.target
laid_insert s es zero e h = ap (λ bs. block_of s e.move e.percent ∷ bs) (laid_restart s es e.move.target)
laid_insert s [] (suc i) e h = absurd (omega arith)
laid_insert s (x ∷ xs) (suc i) e h =
    let b = block_of s x.move x.percent in
    let bs = laid x.move.target xs in
    ap (λ cs. b ∷ cs) (laid_insert x.move.target xs i e (omega arith))
    ∙ ap (λ c. b ∷ begun_again (insert bs i c) (suc i) e.move.target) (next_begin s x bs i e.move e.percent)

pub laid_remove : (s : List ℤ) (es : List Entry) (i : ℕ) → i < length es → laid s (remove es i) ≡ begun_again (remove (laid s es) i) i (begin_of s (laid s es) i)
laid_remove s [] i h = absurd (omega arith)
laid_remove s (x ∷ xs) zero h = laid_restart x.move.target xs s
laid_remove s (x ∷ xs) (suc i) h =
    let b = block_of s x.move x.percent in
    let bs = laid x.move.target xs in
    let c = get_or (remove bs i) i idle in
    ap (λ cs. b ∷ cs) (laid_remove x.move.target xs i (omega arith))
    ∙ ap (λ d. b ∷ set (remove bs i) i d) (next_begin s x bs i (move_of c) c.percent)

pub laid_replace : (s : List ℤ) (es : List Entry) (i : ℕ) (e : Entry) → i < length es → laid s (set es i e) ≡ begun_again (set (laid s es) i (block_at s (laid s es) i e)) (suc i) e.move.target
laid_replace s [] i e h = absurd (omega arith)
laid_replace s (x ∷ xs) zero e h = ap (λ bs. block_of s e.move e.percent ∷ bs) (laid_restart x.move.target xs e.move.target)
laid_replace s (x ∷ xs) (suc i) e h =
    let b = block_of s x.move x.percent in
    let bs = laid x.move.target xs in
    ap (λ cs. b ∷ cs) (laid_replace x.move.target xs i e (omega arith))
    ∙ ap (λ c. b ∷ begun_again (set bs i c) (suc i) e.move.target) (next_begin s x bs i e.move e.percent)

pub edits : (s : List ℤ) (es : List Entry) → Edits s es
edits s es = record {
  insert = laid_insert s es;
  remove = laid_remove s es;
  replace = laid_replace s es;
  override = laid_override s es;
  restart = laid_restart s es;
}
