-- Division rounding down, towards minus infinity. Assumes nothing.
use Rattle.std.specs.Prelude.{ℕ, ℤ, pos, ◌+ℤ◌, ◌*ℤ◌, ◌≤ℤ◌, ◌<ℤ◌}
use Rattle.std.specs.Int.{int_div_euclid}

-- the one rounding of means and of filled figures
abbrev pub floor_div : ℤ → ℕ → ℤ
floor_div z n = int_div_euclid z (pos n)

-- what it is: the greatest whole number q with q times n at most z
pub record Floor (z : ℤ) (n : ℕ) (q : ℤ) : Type 0 where
  pub reached : (q *ℤ pos n) ≤ℤ z
  pub next : z <ℤ ((q +ℤ pos 1) *ℤ pos n)
