-- The entries of an accepted sheet are all of its words between the first and the last, each at its place.
use Rattle.std.proofs.Common.{◌≡◌, ℕ, ◌+◌, ◌≤◌, true, false, cond, List, [], ◌∷◌, ◌++◌, length, sym, refl, ap, ◌∙◌, subst, arith, Bor}
use Rattle.std.proofs.lemmas.Bool.{both_ways}
use Rattle.sheets.specs.Encoding.{of_kind}
use Rattle.sheets.specs.Entries.{entries_from, entries_of, AllOf}
use Rattle.sheets.specs.Meaning.{accepted, sheet_entries}
use Rattle.sheets.specs.Reader.{left, ReadsFrom, ReaderOf}
use Rattle.sheets.specs.declared.entry.Entries.{Entries}
use Rattle.sheets.proofs.Exact.{Opened, accepted_opened}
use Rattle.sheets.proofs.Spelled.{spelled_from}

-- the entries of an accepted sheet
opened_all : (w : ℕ) (vs : List ℕ) → Opened w vs → AllOf (w ∷ vs) (entries_of (w ∷ vs))
opened_all w vs o =
    let t = o.lines in
    let close = of_kind 3 (1 + length (spelled_from 0 (entries_from 1 vs))) in
    record {
      many = t.many;
      in_order = λ k h. t.in_order k h ∙ omega arith;
      stand = λ k h. t.stand (w ∷ []) refl k (let m = t.many in omega arith);
      first = w;
      last = close;
      all = ap (λ l. w ∷ l) (t.words ∙ ap (λ l. l ++ (close ∷ [])) (sym t.own));
    }

pub all_of : (ws : List ℕ) → accepted ws ≡ true → AllOf ws (entries_of ws)
all_of [] e = absurd (accepted_opened [] e)
all_of (w ∷ vs) e = opened_all w vs (accepted_opened (w ∷ vs) e)

-- what a sheet has of entries, by its test
entries_told : (ws : List ℕ) → accepted ws ≡ true → sheet_entries ws ≡ entries_of ws
unfolding sheet_entries
entries_told ws e = ap (λ b. cond b (entries_of ws) []) e

entries_refused : (ws : List ℕ) → accepted ws ≡ false → sheet_entries ws ≡ []
unfolding sheet_entries
entries_refused ws e = ap (λ b. cond b (entries_of ws) []) e

some_words : (ws : List ℕ) → accepted ws ≡ true → 1 ≤ length ws
some_words [] e = absurd (accepted_opened [] e)
some_words (w ∷ vs) e = omega arith

-- the reader after the first word of an accepted sheet, and after that of no words
pub reads_all : (ws : Bor (List ℕ)) (s : Entries) → accepted ws.now ≡ true → left s ≡ entries_of ws.now → (1 ≤ length ws.now → ReadsFrom ws s) → ReaderOf ws s
reads_all ws s is entries lent = record {
  entries = entries ∙ sym (entries_told ws.now is);
  all = λ e. subst (AllOf ws.now) (sym entries) (all_of ws.now e);
  lent = λ e. lent (some_words ws.now e);
  none = λ e. absurd (both_ways _ e is);
}

pub reads_none : (ws : Bor (List ℕ)) (s : Entries) → accepted ws.now ≡ false → left s ≡ [] → ReaderOf ws s
reads_none ws s is none = record {
  entries = none ∙ sym (entries_refused ws.now is);
  all = λ e. absurd (both_ways _ is e);
  lent = λ e. absurd (both_ways _ is e);
  none = λ _. none;
}
