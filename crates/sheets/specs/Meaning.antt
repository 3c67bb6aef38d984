-- What a sheet means. Assumes nothing.
use Rattle.std.specs.Prelude.{ℕ, Bool, cond, not, List, [], map, is_some, None, slice_index, slice_index_or}
use Rattle.days.specs.Days.{blank_days}
use Rattle.days.specs.Questions.{first_failing}
use Rattle.sources.specs.Page.{Page}
use Rattle.sheets.specs.Asked.{asked}
use Rattle.sheets.specs.Entries.{Item, entries_of, day_in, figure_in}
use Rattle.sheets.specs.Words.{load}

-- the blank page: its days, valuation day 0, and no figure
abbrev pub blank_page : Page
blank_page = record { valuation = 0; days = blank_days; figure = λ k. None }

-- the page that the words tell: the opening word's valuation day, and each entry's day and figure
abbrev pub told_page : List ℕ → Page
told_page ws = record {
  valuation = load (slice_index ws 0);
  days = map day_in (entries_of ws);
  figure = λ k. slice_index_or (map figure_in (entries_of ws)) k None;
}

-- every question passes
abbrev pub accepted : List ℕ → Bool
accepted ws = not (is_some (first_failing (asked ws)))

-- a sheet means the page that its words tell; one that is refused means the blank page
unfoldable pub sheet_page : List ℕ → Page
sheet_page ws = cond (accepted ws) (told_page ws) blank_page

-- and has no entries
unfoldable pub sheet_entries : List ℕ → List Item
sheet_entries ws = cond (accepted ws) (entries_of ws) []
