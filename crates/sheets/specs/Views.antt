-- What the code's entries and kinds stand for. Assumes nothing.
use Rattle.std.specs.Prelude.{ℕ, Some, None, Option}
use Rattle.sheets.specs.Entries.{Item, item, day_in, figure_in}
use Rattle.sheets.specs.declared.checking.Line.{Line}
use Rattle.sheets.specs.declared.entry.Entry.{Entry}
use Rattle.sheets.specs.declared.entry.Entry.TheVariants.{Bare, Quoted}
use Rattle.sheets.specs.declared.entry.Placed.{Placed}
use Rattle.sheets.specs.declared.word.Kind.{Kind}
use Rattle.sheets.specs.declared.word.Kind.TheVariants.{Head, Figure, Opening, Closing}

abbrev pub kind_number : Kind → ℕ
kind_number Head = 0
kind_number Figure = 1
kind_number Opening = 2
kind_number Closing = 3

-- the words of an entry
abbrev pub head_of : Entry → ℕ
head_of (Bare h) = h.now
head_of (Quoted h f) = h.now

abbrev pub figure_word_of : Entry → Option ℕ
figure_word_of (Bare h) = None
figure_word_of (Quoted h f) = Some f.now

-- an entry at a place
abbrev pub seen_at : ℕ → Entry → Item
seen_at i e = item i (head_of e) (figure_word_of e)

abbrev pub seen : Placed → Item
seen x = seen_at x.place x.entry

-- what an item tells of its line
abbrev pub line_told : Item → Line
line_told e = record { day = day_in e; figure = figure_in e }
