use Rattle.std.proofs.Common.{sym, subst}
use Rattle.survey.specs.Readings.{Sound}
use Rattle.survey.proofs.Sounds.{same_survey, sound_struck}
use Rattle.survey.proofs.Survey.strike.Goals as goal

pub invariant_of-self : goal.invariant_of-self
invariant_of-self g c = record { sound = subst Sound (sym c.delete.ensures.after) (sound_struck _ c.args.i c.args.self.now.sound) }

pub returns-clause-refused : goal.returns-clause-refused
returns-clause-refused g c = λ why no. same_survey _ _ (c.delete.ensures.refused why no)
