-- What an accepted call of a plan leaves, and when two plans are one.
use Rattle.std.proofs.Common.{◌≡◌, Ok, Result, sym, ap, ◌∙◌}
use mathlib.Core.HLevel.{is_prop→PathP}
use Rattle.refusals.specs.declared.Refusal.{Refusal}
use Rattle.plan.specs.declared.Plan.{Plan, lie-type}
use Rattle.plan.specs.Models.{place, settled}

-- a call that was accepted leaves what it makes of the model
pub made_so : {T X : Type 0} (told : Result T Refusal) (altered before after : X) (x : T) → told ≡ Ok x → after ≡ altered → after ≡ settled told altered before
made_so told altered before after x e same = same ∙ sym (ap (λ z. settled z altered before) e)

-- plans of the same start over the same blocks are one: what a plan keeps has one proof at most
pub same_plan : {S E M K : Type 0} {g h : _} (p q : Plan S E M K g h) → p.start_x ≡ q.start_x → p.start_y ≡ q.start_y → p.start_z ≡ q.start_z → p.blocks ≡ q.blocks → p ≡ q
same_plan {S} {E} {M} {K} {g} {h} p q x y z e = λ i. record { start_x = x i; start_y = y i; start_z = z i; blocks = e i; lie = is_prop→PathP (λ j. lie-type S E M K g h (x j) (y j) (z j) (e j)) (λ j. (h.sound (place (x j) (y j) (z j)) (g.list (e j))).once) p.lie q.lie i }
