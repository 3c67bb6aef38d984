-- The page p with the page q in reserve, by a test: the one page so made (see Reserve.Reserved). Assumes nothing.
use Rattle.std.specs.Prelude.{ℕ, zero, suc, ◌+◌, Bool, false, cond, not, ◌&&◌, ◌||◌, ℤ, is_some, Option}
use Rattle.std.specs.Option.{option_or}
use Rattle.days.specs.Lines.{by_group}
use Rattle.sources.specs.Page.{Page}

abbrev pub absent : Page → ℕ → Bool
absent p k = not (is_some (p.figure k))

-- line k and the two after it are absent
abbrev pub gone : Page → ℕ → Bool
gone p k = absent p k && (absent p (k + 1) && absent p (k + 2))

-- some three in a row are absent, from one of the n lines from line 8 on
abbrev pub thin_among : Page → ℕ → Bool
thin_among p zero = false
thin_among p (suc n) = gone p (8 + n) || thin_among p n

unfoldable pub thin : Page → Bool
thin p = thin_among p 6

abbrev pub reserve_figure : Page → Page → ℕ → Option ℤ
reserve_figure p q k =
    by_group k (option_or (p.figure k) (q.figure k)) (p.figure k) (cond (thin p) (q.figure k) (p.figure k)) (p.figure k)

abbrev pub reserve_page : Page → Page → Page
reserve_page p q = record { valuation = p.valuation; days = p.days; figure = reserve_figure p q }
