-- What carrying a command out gives, and what it leaves of the market. Assumes nothing.
use Rattle.std.specs.Prelude.{◌≡◌, ℕ, List, cond, is_ok, Some, None, Ok, Result, MatchResult}
use Rattle.days.specs.Days.{blank_days}
use Rattle.days.specs.Tabled.{Tabled}
use Rattle.days.specs.Questions.{refusal_of, first_failing}
use Rattle.days.specs.Told.{told_source}
use Rattle.days.specs.declared.fault.SourceFault.{SourceFault}
use Rattle.days.specs.declared.table.DayTable.{DayTable}
use Rattle.boards.specs.Board.{Fresh}
use Rattle.boards.specs.Quoting.{quoting, unquoting, Refused}
use Rattle.boards.specs.declared.board.Board.{Board}
use Rattle.closing.specs.Answers.{answer_to, answer_on, Called}
use Rattle.closing.specs.Pages.{Paged}
use Rattle.closing.specs.Markets.{board_of, choosing, chosen, with_days, with_board, Beside}
use Rattle.closing.specs.declared.answer.Answer.{Answer}
use Rattle.journal.specs.declared.command.Command.{Command}
use Rattle.journal.specs.declared.command.Command.TheVariants.{BlankDays, Days, Make, Quote, Unquote, Source as Choose, Page}
use Rattle.journal.specs.declared.command.Which.{Which}
use Rattle.journal.specs.declared.complaint.Complaint.{Complaint}
use Rattle.closing.specs.declared.market.Market.{Market}

-- setting the day table to these days, or not: market m becomes n
abbrev pub DaysSet : List ℕ → Market → Market → Result (Unit {0}) SourceFault → Type 0
DaysSet d m n r = (t : Result DayTable SourceFault) × Tabled d t × (refusal_of told_source r ≡ refusal_of told_source t) × (n ≡ with_days t m)

-- making the board of a name, or not: market m becomes n
abbrev pub BoardMade : Which → ℕ → List ℕ → Market → Market → Result (Unit {0}) SourceFault → Type 0
BoardMade w v s m n r =
    (b : Result Board SourceFault) × MatchResult b (Fresh v m.days s) (Refused v s) × (refusal_of told_source r ≡ refusal_of told_source b) × (n ≡ with_board w b m)

-- market m becomes n, and r is the answer
abbrev pub Carried : Command → Market → Market → Result Answer Complaint → Type 0
Carried BlankDays m n r = (t : DayTable) × (t.days ≡ blank_days) × (r ≡ Ok (answer_to None)) × (n ≡ with_days (Ok t) m)
Carried (Days d) m n r = (t : Result DayTable SourceFault) × Tabled d t × (r ≡ Ok (answer_to (refusal_of told_source t))) × (n ≡ with_days t m)
Carried (Make w v s) m n r =
    (b : Result Board SourceFault) × MatchResult b (Fresh v m.days s) (Refused v s) × (r ≡ Ok (answer_to (refusal_of told_source b))) × (n ≡ with_board w b m)
Carried (Quote w p k x) m n r =
    (r ≡ answer_on w (board_of w m) (first_failing (quoting p k x))) × Called (first_failing (quoting p k x)) (board_of w m) (board_of w n) p k (Some x) × Beside w m n
Carried (Unquote w p k) m n r =
    (r ≡ answer_on w (board_of w m) (first_failing (unquoting p k))) × Called (first_failing (unquoting p k)) (board_of w m) (board_of w n) p k None × Beside w m n
Carried (Choose pile) m n r = (r ≡ choosing pile.base m) × (n ≡ cond (is_ok r) (chosen pile m) m)
Carried Page m n r = Paged m.pile m r × (n ≡ m)
