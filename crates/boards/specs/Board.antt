-- What a board means, and what a call changes of it. Assumes nothing.
use Rattle.std.specs.Prelude.{◌≡◌, ℕ, List, map, ℤ, None, Option, ◌≢◌}
use Rattle.days.specs.declared.table.DayTable.{DayTable}
use Rattle.sources.specs.Page.{Page}
use Rattle.boards.specs.declared.board.Board.{Board}
use Rattle.boards.specs.declared.provider.Provider.{Provider}
use Rattle.boards.specs.Quotes.{latest}
use Rattle.boards.specs.Mean.{shown}

-- its providers' shares, and their quotes
unfoldable pub shares_of : Board → List ℕ
shares_of b = map (λ (p : Provider). p.share) b.providers

unfoldable pub quotes_of : Board → List (List (Option ℤ))
quotes_of b = map (λ (p : Provider). p.quotes) b.providers

abbrev pub board_page : Board → Page
board_page b = record { valuation = b.valuation; days = b.days.days; figure = shown (shares_of b) (quotes_of b) }

-- a new board holds what it is made of, and no quote
pub record Fresh (v : ℕ) (d : DayTable) (s : List ℕ) (b : Board) : Type 0 where
  pub dated : b.valuation ≡ v
  pub tabled : b.days ≡ d
  pub shared : shares_of b ≡ s
  pub empty : (p k : ℕ) → latest (quotes_of b) p k ≡ None

-- board a is board b but for provider p's latest quote for line k, which is o
pub record OnlyQuote (b a : Board) (p k : ℕ) (o : Option ℤ) : Type 0 where
  pub here : latest (quotes_of a) p k ≡ o
  pub others : (i j : ℕ) → (i ≡ p → j ≢ k) → latest (quotes_of a) i j ≡ latest (quotes_of b) i j
  pub dated : a.valuation ≡ b.valuation
  pub tabled : a.days ≡ b.days
  pub shared : shares_of a ≡ shares_of b

-- page p' is page p but for the figure of line k
pub record OnlyLine (p p' : Page) (k : ℕ) : Type 0 where
  pub dated : p'.valuation ≡ p.valuation
  pub tabled : p'.days ≡ p.days
  pub others : (j : ℕ) → (j ≢ k) → p'.figure j ≡ p.figure j
