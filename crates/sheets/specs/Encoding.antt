-- The words of a page. Assumes nothing.
use Rattle.std.specs.Prelude.{ℕ, zero, suc, ◌+◌, ◌*◌, ◌^◌, List, [], ◌∷◌, ◌++◌, length, ℤ, pos, ◌+ℤ◌, Some, None, Option, unsigned_abs}
use Rattle.days.specs.Days.{day}
use Rattle.sources.specs.Page.{Page}
use Rattle.sheets.specs.Words.{raise}

-- a word of a kind, with its load below
abbrev pub of_kind : ℕ → ℕ → ℕ
of_kind kind load = kind * 2 ^ 30 + load

-- line k at day d
abbrev pub head_word : ℕ → ℕ → ℕ
head_word k d = of_kind 0 (k * 2 ^ 24 + d)

abbrev pub figure_word : ℕ → ℤ → ℕ
figure_word k x = of_kind 1 (unsigned_abs (x +ℤ pos (raise k)))

-- a line's head and, where it shows a figure, its figure
abbrev pub line_words : ℕ → ℕ → Option ℤ → List ℕ
line_words k d None = head_word k d ∷ []
line_words k d (Some x) = head_word k d ∷ figure_word k x ∷ []

-- the words of n lines, from line k on
unfoldable pub lines_from : Page → ℕ → ℕ → List ℕ
lines_from p zero k = []
lines_from p (suc n) k = line_words k (day p.days k) (p.figure k) ++ lines_from p n (suc k)

abbrev pub body : Page → List ℕ
body p = lines_from p 29 0

-- the valuation day opens, each line follows, and the count of words before it closes
abbrev pub words_of : Page → List ℕ
words_of p = of_kind 2 p.valuation ∷ (body p ++ (of_kind 3 (1 + length (body p)) ∷ []))
