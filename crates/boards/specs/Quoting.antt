-- The questions of a board's calls, in their order. Assumes nothing.
use Rattle.std.specs.Prelude.{◌≡◌, ℕ, ◌<◌, ◌≤◌, ◌⊎◌, List, [], ◌∷◌, ◌++◌, ℤ, nat_lt}
use Rattle.days.specs.declared.fault.SourceFault.{SourceFault}
use Rattle.days.specs.declared.refusal.Layer.TheVariants.{Source}
use Rattle.days.specs.Lines.{in_range}
use Rattle.days.specs.Lowest.{Lowest}
use Rattle.days.specs.Questions.{Question, ask, refusal}
use Rattle.days.specs.Told.{told_source}
use Rattle.boards.specs.Quotes.{share_of}

-- a provider from 0 to 7?
abbrev pub of_provider : ℕ → List Question
of_provider p = ask (nat_lt p 8) (refusal 21 Source p) ∷ []

-- a line from 0 to 28?
abbrev pub of_line : ℕ → List Question
of_line k = ask (nat_lt k 29) (refusal 22 Source k) ∷ []

-- a figure in the line's range?
abbrev pub of_figure : ℕ → ℤ → List Question
of_figure k x = ask (in_range k x) (refusal 23 Source k) ∷ []

-- unquoting asks of the provider and of the line
abbrev pub unquoting : ℕ → ℕ → List Question
unquoting p k = of_provider p ++ of_line k

-- quoting asks these, and then of the figure
abbrev pub quoting : ℕ → ℕ → ℤ → List Question
quoting p k x = unquoting p k ++ of_figure k x

-- making a board: a valuation day of at most 100,000? Every share at most 10,000? The lowest provider's is told
abbrev pub Refused : ℕ → List ℕ → SourceFault → Type 0
Refused v s f =
    ((100000 < v) × (told_source f ≡ refusal 25 Source 0))
    ⊎ ((v ≤ 100000) × ((p : ℕ) × (told_source f ≡ refusal 24 Source p) × Lowest 8 (λ i. share_of s i ≤ 10000) p))
