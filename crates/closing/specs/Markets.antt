-- What a call leaves of the market, and which boards a source is made of. Assumes nothing.
use Rattle.std.specs.Prelude.{◌≡◌, Some, Ok, Err, Option, Result}
use Rattle.boards.specs.declared.board.Board.{Board}
use Rattle.days.specs.declared.fault.SourceFault.{SourceFault}
use Rattle.days.specs.declared.table.DayTable.{DayTable}
use Rattle.closing.specs.Answers.{on_board}
use Rattle.closing.specs.declared.answer.Answer.{Answer}
use Rattle.closing.specs.declared.answer.Answer.TheVariants.{Done}
use Rattle.journal.specs.declared.complaint.Complaint.{Complaint}
use Rattle.journal.specs.declared.command.Base.{Base}
use Rattle.journal.specs.declared.command.Base.TheVariants.{Today as OfToday, ReserveTodayYesterday}
use Rattle.journal.specs.declared.command.Pile.{Pile}
use Rattle.journal.specs.declared.command.Which.{Which}
use Rattle.journal.specs.declared.command.Which.TheVariants.{Today, Yesterday}
use Rattle.closing.specs.declared.market.Market.{Market}

-- the board of a name, if it was made
abbrev pub board_of : Which → Market → Option Board
board_of Today m = m.today
board_of Yesterday m = m.yesterday

-- choosing a source needs the boards that it is made of, today's first
abbrev pub choosing : Base → Market → Result Answer Complaint
choosing OfToday m = on_board Today m.today (Ok Done)
choosing ReserveTodayYesterday m = on_board Today m.today (on_board Yesterday m.yesterday (Ok Done))

abbrev pub chosen : Pile → Market → Market
chosen p m = record { days = m.days; today = m.today; yesterday = m.yesterday; pile = Some p }

-- a refused table changes nothing
abbrev pub with_days : Result DayTable SourceFault → Market → Market
with_days (Ok t) m = record { days = t; today = m.today; yesterday = m.yesterday; pile = m.pile }
with_days (Err e) m = m

-- a refused board changes nothing
abbrev pub with_board : Which → Result Board SourceFault → Market → Market
with_board Today (Ok b) m = record { days = m.days; today = Some b; yesterday = m.yesterday; pile = m.pile }
with_board Yesterday (Ok b) m = record { days = m.days; today = m.today; yesterday = Some b; pile = m.pile }
with_board w (Err e) m = m

-- all but the board of a name is as it was
abbrev pub Beside : Which → Market → Market → Type 0
Beside Today m n = (n.days ≡ m.days) × (n.yesterday ≡ m.yesterday) × (n.pile ≡ m.pile)
Beside Yesterday m n = (n.days ≡ m.days) × (n.today ≡ m.today) × (n.pile ≡ m.pile)
