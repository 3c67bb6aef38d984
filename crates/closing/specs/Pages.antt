-- What is printed of a source: its page, line by line. Assumes nothing.
use Rattle.std.specs.Prelude.{◌≡◌, ℕ, ◌<◌, Bool, cond, length, Some, None, Ok, Err, Option, Result, slice_index_or}
use Rattle.boards.specs.Board.{board_page}
use Rattle.boards.specs.declared.board.Board.{Board}
use Rattle.days.specs.Days.{day}
use Rattle.layers.specs.GapPage.{gap_page}
use Rattle.layers.specs.ReservePage.{reserve_page}
use Rattle.sources.specs.Page.{Page as Meant}
use Rattle.closing.specs.declared.answer.Answer.{Answer}
use Rattle.closing.specs.declared.answer.Answer.TheVariants.{Done, Refused, Page as Shows}
use Rattle.journal.specs.declared.command.Base.{Base}
use Rattle.journal.specs.declared.command.Base.TheVariants.{Today, ReserveTodayYesterday}
use Rattle.closing.specs.Markets.{choosing}
use Rattle.journal.specs.declared.command.Pile.{Pile}
use Rattle.journal.specs.declared.complaint.Complaint.{Complaint}
use Rattle.journal.specs.declared.complaint.Complaint.TheVariants.{NoSourceChosen}
use Rattle.closing.specs.declared.market.Market.{Market}
use Rattle.closing.specs.declared.page.Page.{Page}
use Rattle.closing.specs.declared.page.Row.{Row}

abbrev pub row_of : Meant → ℕ → Row
row_of p k = record { day = day p.days k; figure = p.figure k }

abbrev pub no_row : Row
no_row = record { day = 0; figure = None }

-- the valuation day and all 29 rows are those of the page
abbrev pub RowsOf : Meant → Page → Type 0
RowsOf p r = (r.valuation ≡ p.valuation) × (length r.rows ≡ 29) × ((k : ℕ) → k < 29 → slice_index_or r.rows k no_row ≡ row_of p k)

abbrev pub filled_page : Bool → Meant → Meant
filled_page filled p = cond filled (gap_page p) p

-- what a source means over today's and yesterday's boards, if those that it is made of were made
abbrev pub base_page : Base → Option Board → Option Board → Option Meant
base_page Today (Some t) y = Some (board_page t)
base_page Today None y = None
base_page ReserveTodayYesterday (Some t) (Some y) = Some (reserve_page (board_page t) (board_page y))
base_page ReserveTodayYesterday (Some t) None = None
base_page ReserveTodayYesterday None y = None

-- it is that page, with its gaps filled if the source says so
abbrev pub RowsIf : Bool → Option Meant → Page → Type 0
RowsIf filled None r = ⊥
RowsIf filled (Some p) r = RowsOf (filled_page filled p) r

-- the answer is the page of the chosen source
abbrev pub PageOf : Option Pile → Option Board → Option Board → Answer → Type 0
PageOf None t y a = ⊥
PageOf (Some p) t y (Shows r) = RowsIf p.filled (base_page p.base t y) r
PageOf (Some p) t y Done = ⊥
PageOf (Some p) t y (Refused r) = ⊥

-- the answer is the page of the chosen source; without one, or without a board that it is made of, there is no command
abbrev pub Paged : Option Pile → Market → Result Answer Complaint → Type 0
Paged None m r = r ≡ Err NoSourceChosen
Paged (Some p) m (Ok a) = PageOf (Some p) m.today m.yesterday a
Paged (Some p) m (Err c) = choosing p.base m ≡ Err c
