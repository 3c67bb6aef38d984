-- The lowest of a row of places at which something fails. Assumes nothing.
use Rattle.std.specs.Prelude.{ℕ, ◌<◌}

-- k is the lowest of the places below n at which P does not hold
pub record Lowest (n : ℕ) (P : ℕ → Type 0) (k : ℕ) : Type 0 where
  pub place : k < n
  pub fails : P k → ⊥
  pub before : (j : ℕ) → j < k → P j
