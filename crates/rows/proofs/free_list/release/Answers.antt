use Rattle.std.proofs.Common.{refl}
use Rattle.rows.proofs.FreeLists.{free_put}
use Rattle.rows.proofs.free_list.release.Goals as goal

pub returns-clause-free_list : goal.returns-clause-free_list
returns-clause-free_list g c = λ fs away ch. free_put _ _ _ _ _ fs c.put.ensures refl c.requires away ch
