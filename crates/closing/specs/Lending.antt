-- What lending a board out of the market leaves of the market. Assumes nothing.
use Rattle.std.specs.Prelude.{Ok, Option, Result}
use Rattle.std.specs.Borrow.{LendsIf, LendsIfOk, MutBor, Fml}
use Rattle.boards.specs.declared.board.Board.{Board}
use Rattle.boards.specs.contracts.board.Board.{the_row as board_row}
use Rattle.journal.specs.declared.command.Which.{Which}
use Rattle.closing.specs.Markets.{with_board}
use Rattle.closing.specs.contracts.market.Market.{the_row}
use Rattle.closing.specs.declared.market.Market.{Market}

-- the board of a name is lent, if it was made: the market ends with what is left in its place
abbrev pub LendsFound : Which → MutBor Market → Option (MutBor Board) → Fml
LendsFound w s r = LendsIf the_row board_row s r (λ b. with_board w (Ok b) s.now) s.now

abbrev pub LendsBoard : {E : Type 0} → Which → MutBor Market → Result (MutBor Board) E → Fml
LendsBoard w s r = LendsIfOk the_row board_row s r (λ b. with_board w (Ok b) s.now) s.now
