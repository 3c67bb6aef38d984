use Rattle.std.proofs.Common.{refl, ap, ◌∙◌}
use Rattle.boards.specs.Quotes.{latest}
use Rattle.boards.specs.Board.{shares_of, quotes_of}
use Rattle.boards.proofs.Fresh.{no_quotes}
use Rattle.boards.proofs.board.Board.new.Goals as goal

pub returns : goal.returns
unfolding shares_of quotes_of
returns c = record {
  dated = refl;
  tabled = refl;
  shared = c.silent.ensures.0;
  empty = λ p k. ap (λ q. latest q p k) c.silent.ensures.1 ∙ no_quotes 8 29 p k;
}
