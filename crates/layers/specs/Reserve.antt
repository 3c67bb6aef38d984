-- What a page with another in reserve means. Assumes nothing.
use Rattle.std.specs.Prelude.{◌≡◌, ℕ, ◌+◌, ◌≤◌, ◌⊎◌, ℤ, Some, None}
use Rattle.sources.specs.Page.{Page}

-- some three point lines in a row, of lines 8 to 15, are absent
abbrev pub Thin : Page → Type 0
Thin p = (i : ℕ) × ((8 ≤ i) × (i ≤ 13)) × ((p.figure i ≡ None) × (p.figure (i + 1) ≡ None) × (p.figure (i + 2) ≡ None))

-- r is the page p with the page q in reserve
pub record Reserved (p q r : Page) : Type 0 where
  pub dated : r.valuation ≡ p.valuation
  pub tabled : r.days ≡ p.days
  -- a spot that is there stays, an absent one comes from the reserve
  pub spot : (x : ℤ) → p.figure 0 ≡ Some x → r.figure 0 ≡ Some x
  pub spot_lent : p.figure 0 ≡ None → r.figure 0 ≡ q.figure 0
  -- all eight point lines come from the reserve where they are thin, and none otherwise
  pub points_lent : Thin p → (k : ℕ) → 8 ≤ k → k ≤ 15 → r.figure k ≡ q.figure k
  pub points : (Thin p → ⊥) → (k : ℕ) → 8 ≤ k → k ≤ 15 → r.figure k ≡ p.figure k
  pub others : (k : ℕ) → ((1 ≤ k) × (k ≤ 7)) ⊎ (16 ≤ k) → r.figure k ≡ p.figure k
