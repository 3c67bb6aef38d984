-- The page with its gaps filled, by looking from line to line: the one page so filled (see Gap.Gapped). Assumes nothing.
use Rattle.std.specs.Prelude.{ℕ, zero, suc, cond, ℤ, None, Option, nat_lt}
use Rattle.std.specs.Option.{option_map, option_or, option_zip}
use Rattle.days.specs.Days.{day}
use Rattle.days.specs.Lines.{by_group}
use Rattle.sources.specs.Page.{Page}
use Rattle.layers.specs.Gap.{straight}

-- a line with its figure, if it has one
abbrev pub seen : Page → ℕ → Option (ℕ × ℤ)
seen p k = option_map (λ y. (k, y)) (p.figure k)

-- the nearest present line below line k, from line `from` on
abbrev pub below : Page → ℕ → ℕ → Option (ℕ × ℤ)
below p from zero = None
below p from (suc k) = cond (nat_lt k from) None (option_or (seen p k) (below p from k))

-- the nearest present line above line k, before line `end`
abbrev pub above : Page → ℕ → ℕ → Option (ℕ × ℤ)
above p zero k = None
above p (suc end) k = option_or (above p end k) (cond (nat_lt k end) (seen p end) None)

-- the straight line between two lines with their figures, at line k
abbrev pub line_at : Page → ℕ → ((ℕ × ℤ) × (ℕ × ℤ)) → ℤ
line_at p k n = straight (day p.days n.0.0) n.0.1 (day p.days n.1.0) n.1.1 (day p.days k)

-- between the nearest lines below and above line k, in the group from line `from` to before line `end`
unfoldable pub bridged : Page → ℕ → ℕ → ℕ → Option ℤ
bridged p from end k = option_map (line_at p k) (option_zip (below p from k) (above p end k))

unfoldable pub gap_figure : Page → ℕ → Option ℤ
gap_figure p k = option_or (p.figure k) (by_group k None None (bridged p 8 16 k) (bridged p 16 29 k))

abbrev pub gap_page : Page → Page
gap_page p = record { valuation = p.valuation; days = p.days; figure = gap_figure p }
