-- How two summaries side by side are printed.
use Rattle.std.specs.Prelude.{ℕ, List, Some, Option, codes}
use Rattle.std.specs.Fmt.{◌++?◌}
use Rattle.kinds.specs.declared.Pair.{Pair}

-- both in brackets, each as its own type prints it
abbrev pub pair_text : {A B : Type 0} → (A → Option (List ℕ)) → (B → Option (List ℕ)) → Pair A B → Option (List ℕ)
pair_text first second p = Some (codes "(") ++? first p.first ++? Some (codes ", ") ++? second p.second ++? Some (codes ")")
