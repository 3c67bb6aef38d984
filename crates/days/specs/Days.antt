-- The days of the 29 lines, and which tables of them are lawful. Assumes nothing.
use Rattle.std.specs.Prelude.{◌≡◌, ℕ, ◌-◌, ◌<◌, ◌≤◌, ◌⊎◌, List, [], ◌∷◌, slice_index}
use Rattle.days.specs.Lowest.{Lowest}

-- the term from the valuation day to a line's date; 0 above line 28
abbrev pub day : List ℕ → ℕ → ℕ
day d k = slice_index d k

-- lines 4 to 7, 9 to 15 and 18 to 28 follow the line before them
abbrev pub Follows : ℕ → Type 0
Follows k = ((4 ≤ k) × (k ≤ 7)) ⊎ (((9 ≤ k) × (k ≤ 15)) ⊎ ((18 ≤ k) × (k ≤ 28)))

-- lines 8 to 15 and 17 to 28 lie within line 7's day
abbrev pub Reached : ℕ → Type 0
Reached k = ((8 ≤ k) × (k ≤ 15)) ⊎ ((17 ≤ k) × (k ≤ 28))

-- the sentences of the lawful-day rule that are about line k
pub record Ruled (d : List ℕ) (k : ℕ) : Type 0 where
  pub limit : day d k ≤ 600
  pub spot : k ≡ 0 → day d 0 ≡ day d 2
  pub tip : k ≡ 1 → 1 ≤ day d 1
  pub tpm : k ≡ 2 → day d 1 < day d 2
  pub first : (k ≡ 3) ⊎ (k ≡ 8) → day d 2 < day d k
  pub rising : Follows k → day d (k - 1) < day d k
  pub uf : k ≡ 16 → day d 16 ≡ 0
  pub forwards : k ≡ 17 → 1 ≤ day d 17
  pub reach : Reached k → day d k ≤ day d 7

abbrev pub Lawful : List ℕ → Type 0
Lawful d = (k : ℕ) → k < 29 → Ruled d k

-- the lowest line in breach of the rule
abbrev pub Breach : List ℕ → ℕ → Type 0
Breach d = Lowest 29 (Ruled d)

abbrev pub blank_days : List ℕ
blank_days =
    2 ∷ 1 ∷ 2 ∷ 92 ∷ 183 ∷ 275 ∷ 367 ∷ 550 ∷ 9 ∷ 32 ∷ 62 ∷ 92 ∷ 183 ∷ 275 ∷ 367 ∷ 550 ∷ 0 ∷ 30 ∷ 60 ∷ 90 ∷ 120 ∷ 150 ∷ 180
    ∷ 210 ∷ 240 ∷ 270 ∷ 300 ∷ 330 ∷ 360 ∷ []
