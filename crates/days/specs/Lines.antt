-- The 29 quoted lines and the range of each one's figure. Assumes nothing.
use Rattle.std.specs.Prelude.{ℕ, Bool, cond, ◌&&◌, ℤ, pos, negsuc, ◌≤ℤ◌, ◌==◌, int_le, nat_lt}

-- by group: line 0 is the spot dollar in ticks, 1 to 7 are rates in millionths a year,
-- 8 to 15 forward points in ticks, 16 to 28 the UF in ticks
abbrev pub by_group : {A : Type 0} → ℕ → A → A → A → A → A
by_group k spot rate points uf = cond (k == 0) spot (cond (nat_lt k 8) rate (cond (nat_lt k 16) points uf))

abbrev pub lowest : ℕ → ℤ
lowest k = by_group k (pos 4000000) (pos 0) (negsuc 1999999) (pos 200000000)

abbrev pub highest : ℕ → ℤ
highest k = by_group k (pos 20000000) (pos 500000) (pos 2000000) (pos 800000000)

abbrev pub InRange : ℕ → ℤ → Type 0
InRange k x = (lowest k ≤ℤ x) × (x ≤ℤ highest k)

-- the same as a test
abbrev pub in_range : ℕ → ℤ → Bool
in_range k x = int_le (lowest k) x && int_le x (highest k)
