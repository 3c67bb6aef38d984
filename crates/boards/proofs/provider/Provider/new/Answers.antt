use Rattle.std.proofs.Common.{ap}
use Rattle.boards.specs.Quotes.{fits}
use Rattle.boards.proofs.Fresh.{none_row}
use Rattle.boards.proofs.provider.Provider.new.Goals as goal

pub invariant_of-result-clause-ranged : goal.invariant_of-result-clause-ranged
invariant_of-result-clause-ranged c = λ k. ap (fits k) (none_row 29 k)
