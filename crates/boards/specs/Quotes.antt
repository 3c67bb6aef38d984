-- The quotes that a board holds, a row of 29 for each provider. Assumes nothing.
use Rattle.std.specs.Prelude.{ℕ, Bool, true, List, [], ℤ, Some, None, Option, slice_index, slice_index_or}
use Rattle.days.specs.Lines.{in_range}

-- a provider's share in every mean; 0 for a provider that there is not
abbrev pub share_of : List ℕ → ℕ → ℕ
share_of s p = slice_index s p

-- a provider's latest quote for a line, or nothing
abbrev pub latest : List (List (Option ℤ)) → ℕ → ℕ → Option ℤ
latest q p k = slice_index_or (slice_index_or q p []) k None

-- a quote that is there lies in its line's range
abbrev pub fits : ℕ → Option ℤ → Bool
fits k None = true
fits k (Some x) = in_range k x
