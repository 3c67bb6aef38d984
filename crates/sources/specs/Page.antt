-- What a quote source means: its page. Assumes nothing.
use Rattle.std.specs.Prelude.{◌≡◌, ℕ, ◌≤◌, true, List, length, ℤ, is_some, Some, None, Option}
use Rattle.days.specs.Days.{Lawful}
use Rattle.days.specs.Lines.{InRange}

-- a valuation day, each line's day, and for each line a figure or nothing
pub record Page : Type 0 where
  pub valuation : ℕ
  pub days : List ℕ
  pub figure : ℕ → Option ℤ

-- what holds of every source's page
pub record Sound (p : Page) : Type 0 where
  pub dated : p.valuation ≤ 100000
  pub long : length p.days ≡ 29
  pub lawful : Lawful p.days
  pub ranged : (k : ℕ) (x : ℤ) → p.figure k ≡ Some x → InRange k x
  pub past : (k : ℕ) → 29 ≤ k → p.figure k ≡ None

-- a line that shows a figure
abbrev pub Present : Page → ℕ → Type 0
Present p k = is_some (p.figure k) ≡ true
