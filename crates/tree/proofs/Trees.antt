-- What the type of a tree says, and what an edit of the rows makes of the sequence.
use Rattle.std.proofs.Common.{List}
use base.Stored.{Coded, Coded-set}
use Rattle.kinds.specs.Rules.{Rule}
use Rattle.kinds.specs.declared.Kind.{Ghosts}
use Rattle.rows.specs.Layouts.{Sound, Edited}
use Rattle.rows.specs.declared.Heads.{Heads}
use Rattle.rows.specs.declared.Row.{Row}
use Rattle.rows.proofs.Layouts.{sound_out}
use Rattle.tree.specs.declared.Tree.{Tree}

pub sound_of : {K E S : Type 0} {gs : Ghosts K E S} → Coded E → Coded S → (t : Tree K E S gs) → Sound gs.rule t.rows.now t.heads
sound_of e s t = sound_out (Coded-set e) (Coded-set s) t.rows.now t.sound

module _ {E S : Type 0} {m : Rule E S} {rows more : List (Row E S)} {was heads : Heads} {xs : List E} (e : Edited m rows more was heads xs) where
  pub edited_sound : Sound m rows was → ∥ Sound m more heads ∥₁
  edited_sound s = ∣ record { laid = e.laid; told = e.told s.told } ∣₁
