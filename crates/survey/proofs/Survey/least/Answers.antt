use Rattle.survey.proofs.Sounds.{same_survey}
use Rattle.survey.proofs.Survey.least.Goals as goal

pub returns-clause-same : goal.returns-clause-same
returns-clause-same g c = same_survey _ _ c.range_join.ensures.same
