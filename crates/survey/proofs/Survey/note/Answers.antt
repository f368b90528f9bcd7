use Rattle.survey.proofs.Sounds.{same_survey}
use Rattle.survey.proofs.Survey.note.Goals as goal

pub returns-clause-refused : goal.returns-clause-refused
returns-clause-refused g c = λ why no. same_survey _ _ (c.insert.ensures.refused why no)
