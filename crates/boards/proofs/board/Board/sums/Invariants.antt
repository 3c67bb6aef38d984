use Rattle.std.proofs.Common.{◌≡◌}
use Rattle.boards.specs.Mean.{weight, total}
use Rattle.boards.specs.Board.{shares_of, quotes_of}
use Rattle.boards.proofs.board.Board.sums.Given as goal

abbrev pub invariant-loop-provider : goal.invariant-loop-provider
invariant-loop-provider l = record {
  weights : l.weight ≡ weight (shares_of l.self) (quotes_of l.self) l.line l.provider-index;
  totals : l.total ≡ total (shares_of l.self) (quotes_of l.self) l.line l.provider-index;
}
