-- The entries of a sheet: each line's head alone or with its figure, as words, with the place of the head. Assumes nothing.
use Rattle.std.specs.Prelude.{◌≡◌, ℕ, ◌+◌, ◌<◌, cond, List, [], ◌∷◌, ◌++◌, length, get_or, drop, ℤ, Some, None, Option, ◌==◌, slice_index, slice_index_or}
use Rattle.std.specs.List.{flat_map}
use Rattle.std.specs.Option.{option_map, option_to_list}
use Rattle.sheets.specs.Words.{kind, line_of, day_of, figure_of}

pub record Item : Type 0 where
  pub place : ℕ
  pub head : ℕ
  pub figure : Option ℕ

abbrev pub item : ℕ → ℕ → Option ℕ → Item
item i h f = record { place = i; head = h; figure = f }

-- the entries of the words from place i on, up to the first word that is no head:
-- a word of kind 1 straight after a head is its line's figure
unfoldable pub entries_from : ℕ → List ℕ → List Item
entries_from i [] = []
entries_from i (h ∷ []) = cond (kind h == 0) (item i h None ∷ []) []
entries_from i (h ∷ f ∷ ws) =
    cond (kind h == 0)
    (cond (kind f == 1) (item i h (Some f) ∷ entries_from (i + 2) ws) (item i h None ∷ entries_from (i + 1) (f ∷ ws))) []

-- an entry's own words
abbrev pub words_in : Item → List ℕ
words_in e = e.head ∷ option_to_list e.figure

-- the entries of a sheet begin after its opening word
abbrev pub entries_of : List ℕ → List Item
entries_of ws = entries_from 1 (drop 1 ws)

-- what an entry tells: a line, its day, and its figure if there is one
abbrev pub line_in : Item → ℕ
line_in e = line_of e.head

abbrev pub day_in : Item → ℕ
day_in e = day_of e.head

abbrev pub figure_in : Item → Option ℤ
figure_in e = option_map (figure_of (line_in e)) e.figure

abbrev pub no_item : Item
no_item = item 0 0 None

-- the k-th of them, from 0
abbrev pub entry_at : List Item → ℕ → Item
entry_at es k = slice_index_or es k no_item

-- an entry's words stand among the words ws at its place
pub record Stands (ws : List ℕ) (e : Item) : Type 0 where
  pub head_there : get_or ws e.place 0 ≡ e.head
  pub figure_there : (f : ℕ) → e.figure ≡ Some f → slice_index ws (e.place + 1) ≡ f

-- the entries of the words ws: one for each line in order, each standing at its place, and all words but the first and the last
pub record AllOf (ws : List ℕ) (es : List Item) : Type 0 where
  pub many : length es ≡ 29
  pub in_order : (k : ℕ) → k < 29 → line_in (entry_at es k) ≡ k
  pub stand : (k : ℕ) → k < 29 → Stands ws (entry_at es k)
  pub first : ℕ
  pub last : ℕ
  pub all : ws ≡ first ∷ (flat_map words_in es ++ (last ∷ []))
