-- What a word of a sheet holds: 32 bits, the top two of them its kind. Assumes nothing.
use Rattle.std.specs.Prelude.{ℕ, ◌/◌, ◌%◌, ◌^◌, ℤ, pos, ◌-ℤ◌}
use Rattle.days.specs.Lines.{by_group}

-- 0 is a head, 1 a figure, 2 opens a sheet and 3 closes it
abbrev pub kind : ℕ → ℕ
kind w = w / 2 ^ 30

-- the thirty bits below: a valuation day, a figure or a count
abbrev pub load : ℕ → ℕ
load w = w % 2 ^ 30

-- a head tells its line in bits 29 to 24 and the line's day in bits 15 to 0; those between are spare
abbrev pub line_of : ℕ → ℕ
line_of w = w / 2 ^ 24 % 64

abbrev pub spare_of : ℕ → ℕ
spare_of w = w / 2 ^ 16 % 256

abbrev pub day_of : ℕ → ℕ
day_of w = w % 2 ^ 16

-- forward points, lines 8 to 15, stand raised, so that no figure is below zero
abbrev pub raise : ℕ → ℕ
raise k = by_group k 0 0 2000000 0

-- the figure that a word tells of line k
abbrev pub figure_of : ℕ → ℕ → ℤ
figure_of k w = pos (load w) -ℤ pos (raise k)
