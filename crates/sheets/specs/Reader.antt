-- What a reader of entries hands out. Assumes nothing.
use Rattle.std.specs.Prelude.{◌≡◌, ℕ, ◌+◌, ◌*◌, true, false, List, [], ◌∷◌, ◌++◌, map, length, take, Some, None, Option}
use Rattle.std.specs.Borrow.{Bor}
use Rattle.sheets.specs.Entries.{Item, entries_from, words_in, AllOf}
use Rattle.sheets.specs.Meaning.{accepted, sheet_entries}
use Rattle.days.specs.Questions.{first_failing}
use Rattle.sheets.specs.Asked.{line, of_words}
use Rattle.sheets.specs.Views.{seen, line_told}
use Rattle.sheets.specs.declared.checking.Line.{Line}
use Rattle.sheets.specs.declared.entry.Entries.{Entries}
use Rattle.sheets.specs.declared.entry.Entry.{Entry}
use Rattle.sheets.specs.declared.entry.Entry.TheVariants.{Bare, Quoted}
use Rattle.sheets.specs.declared.entry.Placed.{Placed}

-- the entries that are left
abbrev pub left : Entries → List Item
left s = entries_from s.place s.rest.now

-- where the n-th of the words ws lies in memory: a word has four bytes
abbrev pub address : Bor (List ℕ) → ℕ → ℕ × ℕ
address ws n = (ws.ref_ptr.0, n * 4 + ws.ref_ptr.1)

-- the reader's words are those of ws from its place on
abbrev pub ReadsFrom : Bor (List ℕ) → Entries → Type 0
ReadsFrom ws s = s.rest.ref_ptr ≡ address ws s.place

-- the entry's words are those very words of ws, from place i on
abbrev pub LiesAt : Bor (List ℕ) → ℕ → Entry → Type 0
LiesAt ws i (Bare h) = h.ref_ptr ≡ address ws i
LiesAt ws i (Quoted h f) = (h.ref_ptr ≡ address ws i) × (f.ref_ptr ≡ address ws (i + 1))

-- a reader s hands the entry x out and becomes t: x is the first entry that is left, and borrows the very words that it is read from
pub record Hands (s : Entries) (x : Placed) (t : Entries) : Type 0 where
  pub first : left s ≡ seen x ∷ left t
  pub here : x.place ≡ s.place
  pub words : s.rest.now ≡ words_in (seen x) ++ t.rest.now
  pub onward : t.place ≡ s.place + length (words_in (seen x))
  pub lies : (ws : Bor (List ℕ)) → ReadsFrom ws s → LiesAt ws x.place x.entry × ReadsFrom ws t

-- one call of a reader: the next entry, or at the end nothing, and the reader stays there
abbrev pub Steps : Entries → Option Placed → Entries → Type 0
Steps s None t = (left s ≡ []) × (t.rest ≡ s.rest) × (t.place ≡ s.place)
Steps s (Some x) t = Hands s x t

-- the reader of the sheet of the words ws: its entries are left, all of an accepted sheet's and none of a refused one's,
-- and it reads from those very words
pub record ReaderOf (ws : Bor (List ℕ)) (s : Entries) : Type 0 where
  pub entries : left s ≡ sheet_entries ws.now
  pub all : accepted ws.now ≡ true → AllOf ws.now (left s)
  pub none : accepted ws.now ≡ false → left s ≡ []
  pub lent : accepted ws.now ≡ true → ReadsFrom ws s

-- the n lines that are read between the readers s and t are these, and what is left to ask is what was
pub record ReadSo (n : ℕ) (s t : Entries) (lines : List Line) : Type 0 where
  pub asked : first_failing (of_words (line n) t.place t.rest.now) ≡ first_failing (of_words (line 0) s.place s.rest.now)
  pub told : take n lines ++ map line_told (left t) ≡ map line_told (left s)
