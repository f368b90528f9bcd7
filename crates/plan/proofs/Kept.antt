-- Every model that is kept is the own model but for how its moves list a target, so it does as well.
use Rattle.std.proofs.Common.{◌≡◌, ℕ, List, [], ◌∷◌, map, ℤ, sym, refl, ap, ◌∙◌, subst}
use Rattle.std.proofs.lemmas.List.Elements.{All-cons, All-head, All-tail}
use mathlib.Core.List.{map-map}
use Rattle.motion.specs.declared.blocks.Block.{Block}
use Rattle.motion.specs.Laid.{Entry, laid}
use Rattle.motion.specs.Ranges.{ValidPosition}
use Rattle.plan.specs.Calls.{after, after_all}
use Rattle.plan.specs.Keeping.{ValidEntry, AllValid, Lie, entry_of, modelled}
use Rattle.plan.specs.Kept.{Keeps, AsOwn, EveryModel}
use Rattle.plan.specs.Models.{Model, model}
use Rattle.plan.proofs.Alike.{cut_entry, cut, same_blocks, answer_alike, right_alike, after_alike, answers_alike, all_right_alike, after_all_alike}

-- the entries of the blocks of moves are those moves, cut
entries_laid : (s : List ℤ) (es : List Entry) → map entry_of (laid s es) ≡ map cut_entry es
entries_laid s [] = refl
entries_laid s (e ∷ es) = ap (λ fs. cut_entry e ∷ fs) (entries_laid e.move.target es)

-- and the entries of blocks are cut already
entries_cut : (xs : List Block) → map cut_entry (map entry_of xs) ≡ map entry_of xs
entries_cut xs = map-map cut_entry entry_of xs

-- what is accepted of a cut entry is accepted of the entry
valid_uncut : (e : Entry) → ValidEntry (cut_entry e) → ValidEntry e
valid_uncut e v =
    let m = v.move in
    record {
      move = record {
        target = record { x = m.target.x; y = m.target.y; z = m.target.z };
        moving = m.moving;
        acceleration = m.acceleration;
        feeding = m.feeding;
        feed = m.feed;
        corner = m.corner;
      };
      least = v.least;
      most = v.most;
    }

all_uncut : (es : List Entry) → AllValid (map cut_entry es) → AllValid es
all_uncut [] valid = valid
all_uncut (e ∷ es) valid = All-cons ValidEntry e es (valid_uncut e (All-head ValidEntry (cut_entry e) (map cut_entry es) valid)) (all_uncut es (All-tail ValidEntry (cut_entry e) (map cut_entry es) valid))

module _ (b : Model) (start : List ℤ) (room : ℕ) (blocks : List Block) where
  -- a model that is kept is like the own one
  kept_alike : Keeps b start room blocks → cut (modelled start room blocks) ≡ cut b
  kept_alike keeps =
      let entries = entries_cut blocks ∙ ap (map entry_of) keeps.holds ∙ entries_laid b.start b.entries in
      λ k. model (keeps.starts k) (keeps.fits k) (entries k)

  -- and one that is like it is kept
  alike_kept : Lie start blocks → cut (modelled start room blocks) ≡ cut b → Keeps b start room blocks
  alike_kept lie alike = record {
    starts = ap (λ m. m.start) alike;
    fits = ap (λ m. m.room) alike;
    holds = lie.along ∙ same_blocks (modelled start room blocks) b alike;
    begins = subst ValidPosition (ap (λ m. m.start) alike) lie.begins;
    entries = all_uncut b.entries (subst AllValid (sym (entries_cut blocks) ∙ ap (λ m. m.entries) alike) lie.entries);
  }

-- a model that is like the own one does as well
as_own : (own b : Model) → cut own ≡ cut b → AsOwn own b
as_own own b alike = record {
  answered = answer_alike own b alike;
  right = right_alike own b alike;
  kept = λ call start room blocks lie made. alike_kept (after b call) start room blocks lie (ap cut made ∙ after_alike own b alike call);
  all_answered = answers_alike own b alike;
  all_right = all_right_alike own b alike;
  all_kept = λ calls start room blocks lie made. alike_kept (after_all b calls) start room blocks lie (ap cut made ∙ after_all_alike own b alike calls);
}

pub every_model : EveryModel
every_model = record {
  own = λ start room blocks lie. alike_kept (modelled start room blocks) start room blocks lie refl;
  every = λ b start room blocks keeps. as_own (modelled start room blocks) b (kept_alike b start room blocks keeps);
}
