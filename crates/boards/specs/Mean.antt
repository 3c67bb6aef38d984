-- The mean of the quotes for one line, weighted by share and rounded down. Assumes nothing.
use Rattle.std.specs.Prelude.{◌≡◌, ℕ, zero, suc, ◌+◌, ◌<◌, true, cond, List, ℤ, pos, ◌+ℤ◌, ◌*ℤ◌, is_some, Some, None, Option, ◌==◌}
use Rattle.sources.specs.Rounding.{Floor, floor_div}
use Rattle.boards.specs.Quotes.{share_of, latest}

-- what a provider of share s adds at a line to the sum of shares, and to the sum of shares times figures
abbrev pub counted : ℕ → Option ℤ → ℕ
counted s None = 0
counted s (Some x) = s

abbrev pub weighed : ℕ → Option ℤ → ℤ
weighed s None = pos 0
weighed s (Some x) = pos s *ℤ x

module _ (s : List ℕ) (q : List (List (Option ℤ))) (k : ℕ) where
  -- both sums at line k, over the first n providers
  abbrev pub weight : ℕ → ℕ
  weight zero = 0
  weight (suc n) = weight n + counted (share_of s n) (latest q n k)

  abbrev pub total : ℕ → ℤ
  total zero = pos 0
  total (suc n) = total n +ℤ weighed (share_of s n) (latest q n k)

  -- provider p has a quote for line k that counts: share 0 counts nowhere
  abbrev pub Counts : ℕ → Type 0
  Counts p = (p < 8) × (0 < share_of s p) × (is_some (latest q p k) ≡ true)

  -- o is what line k shows
  pub data Shows (o : Option ℤ) : Type 0 where
    absent : ((p : ℕ) → Counts p → ⊥) → o ≡ None → Shows o
    mean : (p : ℕ) (x : ℤ) → Counts p → Floor (total 8) (weight 8) x → o ≡ Some x → Shows o

-- the one such figure
abbrev pub mean_of : ℤ → ℕ → Option ℤ
mean_of z w = cond (w == 0) None (Some (floor_div z w))

abbrev pub shown : List ℕ → List (List (Option ℤ)) → ℕ → Option ℤ
shown s q k = mean_of (total s q k 8) (weight s q k 8)
