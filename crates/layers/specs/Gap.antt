-- What filling the gaps of a page means. Assumes nothing.
use Rattle.std.specs.Prelude.{◌≡◌, ℕ, ◌-◌, ◌<◌, ◌≤◌, ◌⊎◌, ℤ, pos, ◌+ℤ◌, ◌*ℤ◌, Some, None, Option}
use Rattle.days.specs.Days.{day}
use Rattle.sources.specs.Page.{Page}
use Rattle.sources.specs.Rounding.{floor_div}

-- the straight line by days through the figures y at day x and y' at day x', read at day s and rounded down
abbrev pub straight : ℕ → ℤ → ℕ → ℤ → ℕ → ℤ
straight x y x' y' s = floor_div (pos (x' - s) *ℤ y +ℤ pos (s - x) *ℤ y') (x' - x)

-- the two groups in which holes are filled, each from one line to before another: forward points, and the UF
abbrev pub Group : ℕ → ℕ → Type 0
Group from end = ((from ≡ 8) × (end ≡ 16)) ⊎ ((from ≡ 16) × (end ≡ 29))

-- line k is an absent line of the group
pub record Hole (p : Page) (from end k : ℕ) : Type 0 where
  pub group : Group from end
  pub low : from ≤ k
  pub high : k < end
  pub absent : p.figure k ≡ None

-- line j, with figure y, is the nearest present line below line k in the group from line `from` on
pub record Below (p : Page) (from k j : ℕ) (y : ℤ) : Type 0 where
  pub within : from ≤ j
  pub under : j < k
  pub there : p.figure j ≡ Some y
  pub nearest : (i : ℕ) → j < i → i < k → p.figure i ≡ None

-- line j, with figure y, is the nearest present line above line k in the group before line `end`
pub record Above (p : Page) (end k j : ℕ) (y : ℤ) : Type 0 where
  pub over : k < j
  pub within : j < end
  pub there : p.figure j ≡ Some y
  pub nearest : (i : ℕ) → k < i → i < j → p.figure i ≡ None

abbrev pub NoneBelow : Page → ℕ → ℕ → Type 0
NoneBelow p from k = (i : ℕ) → from ≤ i → i < k → p.figure i ≡ None

abbrev pub NoneAbove : Page → ℕ → ℕ → Type 0
NoneAbove p end k = (i : ℕ) → k < i → i < end → p.figure i ≡ None

-- o is what line k of the page p has once its gaps are filled
pub data Fills (p : Page) (k : ℕ) (o : Option ℤ) : Type 0 where
  -- a line that is there stays
  kept : (x : ℤ) → p.figure k ≡ Some x → o ≡ Some x → Fills p k o
  -- an absent one lies on the straight line between its nearest neighbours
  drawn : (from end i j : ℕ) (y z : ℤ) → Hole p from end k → Below p from k i y → Above p end k j z →
      o ≡ Some (straight (day p.days i) y (day p.days j) z (day p.days k)) → Fills p k o
  -- without both it stays absent
  bare : (from end : ℕ) → Hole p from end k → NoneBelow p from k ⊎ NoneAbove p end k → o ≡ None → Fills p k o
  -- and so does an absent line of neither group
  apart : p.figure k ≡ None → (k < 8) ⊎ (29 ≤ k) → o ≡ None → Fills p k o

-- q is the page p with its gaps filled
pub record Gapped (p q : Page) : Type 0 where
  pub dated : q.valuation ≡ p.valuation
  pub tabled : q.days ≡ p.days
  pub filled : (k : ℕ) → Fills p k (q.figure k)
