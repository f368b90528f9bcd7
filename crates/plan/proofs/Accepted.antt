-- Edits of a list of accepted moves leave accepted moves.
use Rattle.std.proofs.Common.{ℕ, suc, List, ◌∷◌, map, take, drop}
use Rattle.std.specs.List.{insert, remove, between}
use Rattle.std.proofs.lemmas.List.Elements.{All-append, All-cons, All-take, All-drop, All-map, All-weaker}
use Rattle.motion.specs.Laid.{Entry}
use Rattle.plan.specs.Keeping.{ValidEntry, AllValid}
use Rattle.plan.specs.Models.{changed_in}

module _ (xs : List Entry) (i : ℕ) (valid : AllValid xs) where
  front : AllValid (take i xs)
  front = All-take ValidEntry i xs valid

  pub all_inserted : (e : Entry) → ValidEntry e → AllValid (insert xs i e)
  all_inserted e v = All-append ValidEntry (take i xs) (e ∷ drop i xs) front (All-cons ValidEntry e (drop i xs) v (All-drop ValidEntry i xs valid))

  pub all_removed : AllValid (remove xs i)
  all_removed = All-append ValidEntry (take i xs) (drop (suc i) xs) front (All-drop ValidEntry (suc i) xs valid)

  pub all_between : (j : ℕ) → AllValid (between i j xs)
  all_between j = All-take ValidEntry _ (drop i xs) (All-drop ValidEntry i xs valid)

  pub all_changed : (f : Entry → Entry) → ((e : Entry) → ValidEntry e → ValidEntry (f e)) → (j : ℕ) → AllValid (changed_in f xs i j)
  all_changed f keeps j =
      let part = between i j xs in
      All-append ValidEntry (take i xs) _ front
      (All-append ValidEntry (map f part) (drop j xs) (All-map ValidEntry f part (All-weaker ValidEntry (λ e. ValidEntry (f e)) keeps part (all_between j))) (All-drop ValidEntry j xs valid))
