use Rattle.std.proofs.Common.{rules, append_assoc}
use Rattle.motion.proofs.moves.MoveDisplay.fmt.Goals as goal

-- the parts of the position are regrouped with the rest
pub returns-clause-writes : goal.returns-clause-writes
returns-clause-writes g c = simp append_assoc (search rules)
