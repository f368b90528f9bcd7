use Rattle.std.proofs.Common.{rules}
use Rattle.kinds.specs.Sums.{sum_laws}
use Rattle.kinds.proofs.saturating_sum.Goals as goal

pub returns : goal.returns
returns c = record { value = search rules; laws = sum_laws }
