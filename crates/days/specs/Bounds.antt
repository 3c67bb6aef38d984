-- The lawful-day rule as a least and a greatest day for each line, the form that a day table's type carries.
-- DayTable::new shows that it is the rule of Days. Assumes nothing.
use Rattle.std.specs.Prelude.{ℕ, ◌+◌, ◌-◌, ◌≤◌, min, Bool, cond, ◌&&◌, List, ◌==◌, nat_le, nat_lt}
use Rattle.days.specs.Days.{day}

abbrev pub least : List ℕ → ℕ → ℕ
least d k =
    cond (k == 0) (day d 2)
    (cond (k == 1) 1
    (cond (k == 2) (day d 1 + 1)
    (cond (k == 3) (day d 2 + 1)
    (cond (k == 8) (day d 2 + 1)
    (cond (k == 16) 0
    (cond (k == 17) 1
    (day d (k - 1) + 1)))))))

abbrev pub most : List ℕ → ℕ → ℕ
most d k =
    cond (k == 0) (min 600 (day d 2))
    (cond (nat_lt k 8) 600
    (cond (k == 16) 0
    (min 600 (day d 7))))

abbrev pub Bounded : List ℕ → ℕ → Type 0
Bounded d k = (least d k ≤ day d k) × (day d k ≤ most d k)

-- the same as a test
abbrev pub bounded : List ℕ → ℕ → Bool
bounded d k = nat_le (least d k) (day d k) && nat_le (day d k) (most d k)
