-- The questions that checking a sheet puts, word by word and in their order. Assumes nothing.
use Rattle.std.specs.Prelude.{ℕ, zero, suc, ◌+◌, false, cond, ◌&&◌, List, [], ◌∷◌, ◌++◌, map, Some, None, Option, ◌==◌, nat_le, nat_lt}
use Rattle.days.specs.Bounds.{bounded}
use Rattle.days.specs.Lines.{in_range}
use Rattle.days.specs.Questions.{Question, ask, refusal}
use Rattle.days.specs.declared.refusal.Layer.TheVariants.{Sheet}
use Rattle.sheets.specs.Entries.{Item, entries_of, day_in}
use Rattle.sheets.specs.Words.{kind, load, line_of, spare_of, figure_of}

-- what is due at a place
pub data Due : Type 0 where
  opening : Due
  head : ℕ → Due
  figure : ℕ → Due
  closing : Due
  end : Due

-- line k's head; after line 28 the closing word
abbrev pub line : ℕ → Due
line k = cond (nat_lt k 29) (head k) closing

-- what is due at the next place, where the words ws stand from there on: a word of kind 1 straight after a head is its line's figure
abbrev pub next : Due → List ℕ → Due
next opening ws = line 0
next (head k) [] = line (suc k)
next (head k) (w ∷ ws) = cond (kind w == 1) (figure k) (line (suc k))
next (figure k) ws = line (suc k)
next closing ws = end
next end ws = end

-- of the word w at place i. 11: of a kind due? 12: the line due, spare bits zero?
-- 13: valuation day or figure in range, closing count right? 14: nothing after the closing word?
abbrev pub of_word : Due → ℕ → ℕ → List Question
of_word opening i w = ask (kind w == 2) (refusal 11 Sheet i) ∷ ask (nat_le (load w) 100000) (refusal 13 Sheet i) ∷ []
of_word (head k) i w = ask (kind w == 0) (refusal 11 Sheet i) ∷ ask (line_of w == k && spare_of w == 0) (refusal 12 Sheet i) ∷ []
of_word (figure k) i w = ask (kind w == 1) (refusal 11 Sheet i) ∷ ask (in_range k (figure_of k w)) (refusal 13 Sheet i) ∷ []
of_word closing i w = ask (kind w == 3) (refusal 11 Sheet i) ∷ ask (load w == i) (refusal 13 Sheet i) ∷ []
of_word end i w = ask false (refusal 14 Sheet i) ∷ []

-- where no word is left at place i. 11: is it there? Only after the closing word none is due
abbrev pub of_none : Due → ℕ → List Question
of_none opening i = ask false (refusal 11 Sheet i) ∷ []
of_none (head k) i = ask false (refusal 11 Sheet i) ∷ []
of_none (figure k) i = ask false (refusal 11 Sheet i) ∷ []
of_none closing i = ask false (refusal 11 Sheet i) ∷ []
of_none end i = []

-- of the words from place i on
unfoldable pub of_words : Due → ℕ → List ℕ → List Question
of_words due i [] = of_none due i
of_words due i (w ∷ ws) = of_word due i w ++ of_words (next due ws) (i + 1) ws

-- of the days of n lines, from line k on. 15: lawful?
unfoldable pub of_days : List ℕ → ℕ → ℕ → List Question
of_days d zero k = []
of_days d (suc n) k = ask (bounded d k) (refusal 15 Sheet k) ∷ of_days d n (suc k)

-- all of them: of the words, and then of the days that they tell
abbrev pub asked : List ℕ → List Question
asked ws = of_words opening 0 ws ++ of_days (map day_in (entries_of ws)) 29 0

-- the same by entries, whose words are of their kinds: what is asked of a figure at place i, and of an entry where line k is due
abbrev pub of_figure : ℕ → ℕ → Option ℕ → List Question
of_figure k i None = []
of_figure k i (Some f) = ask (in_range k (figure_of k f)) (refusal 13 Sheet i) ∷ []

abbrev pub of_entry : ℕ → Item → List Question
of_entry k e = ask (line_of e.head == k && spare_of e.head == 0) (refusal 12 Sheet e.place) ∷ of_figure k (e.place + 1) e.figure
