-- Where a reading ends: refused at a word, at a day, or accepted.
use Rattle.std.proofs.Common.{◌≡◌, ℕ, ◌<◌, true, false, eqb, List, [], ◌∷◌, ◌++◌, map, length, get_or, drop, take, ℤ, Some, None, Ok, Err, Option, sym, ap, ◌∙◌, arith}
use Rattle.std.proofs.lemmas.List.{take_all, append-nil, length-map, ext_get_or, get_or-map}
use Rattle.std.proofs.lemmas.Simd.{map-map}
use Rattle.std.proofs.lemmas.Bool.{eqb-true, ne_eqb}
use Rattle.days.proofs.Asked.{passed}
use Rattle.days.specs.Questions.{first_failing}
use Rattle.sheets.specs.Asked.{opening, closing, line, of_words, of_days, asked}
use Rattle.sheets.specs.Entries.{Item, entries_from, entries_of, no_item}
use Rattle.sheets.specs.Kept.{AfterOpening, Kept}
use Rattle.sheets.specs.Reader.{left, ReadSo}
use Rattle.sheets.specs.Told.{told_sheet}
use Rattle.sheets.specs.Views.{line_told}
use Rattle.sheets.specs.Words.{kind}
use Rattle.sheets.specs.declared.checking.Line.{Line}
use Rattle.sheets.specs.declared.entry.Entries.{Entries}
use Rattle.sheets.specs.declared.fault.SheetFault.{SheetFault}
use Rattle.sheets.specs.declared.reading.Reading.{Reading}
use Rattle.sheets.proofs.Due.{refused_first, passed_first}
use Rattle.sheets.proofs.Handed.{entries_none}

-- a closing word that passes is no head
no_head : (w : ℕ) → eqb (kind w) 3 ≡ true → eqb (kind w) 0 ≡ false
no_head w e = let k = eqb-true (kind w) 3 e in ne_eqb (kind w) 0 (λ z. omega arith)

pub none_after : (i : ℕ) (ws : List ℕ) → first_failing (of_words closing i ws) ≡ None → entries_from i ws ≡ []
unfolding of_words
none_after i [] e = entries_none i [] (λ h. absurd (omega arith))
none_after i (w ∷ ws) e = entries_none i (w ∷ ws) (λ h. no_head w (passed (eqb (kind w) 3) _ _ e).0)

-- lines that are told by all the entries
all_told : (lines : List Line) (es all : List Item) → length lines ≡ 29 → es ≡ [] → take 29 lines ++ map line_told es ≡ map line_told all → lines ≡ map line_told all
all_told lines es all long none e =
    sym (take_all 29 lines (omega arith)) ∙ sym (append-nil (take 29 lines)) ∙ ap (λ l. take 29 lines ++ map line_told l) (sym none) ∙ e

module _ (ws : List ℕ) where
  pub word_refused : (f : SheetFault) → first_failing (of_words opening 0 ws) ≡ Some (told_sheet f) → Kept ws (Err f)
  word_refused f e = record {
    told = sym (refused_first (of_words opening 0 ws) _ _ e);
    page = tt;
  }

  -- a reader of the words after an opening word that passes
  module _ (v : ℕ) (s : Entries) (begun : AfterOpening ws v) (second : s.place ≡ 1) (rest : s.rest.now ≡ drop 1 ws) where
    asked_on : first_failing (of_words opening 0 ws) ≡ first_failing (of_words (line 0) s.place s.rest.now)
    asked_on = begun.asked_on ∙ sym (λ i. first_failing (of_words (line 0) (second i) (rest i)))

    pub line_refused : (f : SheetFault) → first_failing (of_words (line 0) s.place s.rest.now) ≡ Some (told_sheet f) → Kept ws (Err f)
    line_refused f e = word_refused f (asked_on ∙ e)

    -- the 29 lines that it read
    module _ (t : Entries) (lines : List Line) (read : ReadSo 29 s t lines) where
      pub closing_refused : (f : SheetFault) → Some (told_sheet f) ≡ first_failing (of_words closing t.place t.rest.now) → Kept ws (Err f)
      closing_refused f e = line_refused f (sym read.asked ∙ sym e)

      -- before a closing word that passes
      module _ (long : length lines ≡ 29) (closed : None ≡ first_failing (of_words closing t.place t.rest.now)) where
        told : lines ≡ map line_told (entries_of ws)
        told = all_told lines (left t) (left s) long (none_after t.place t.rest.now (sym closed)) read.told ∙ ap (map line_told) (λ i. entries_from (second i) (rest i))

        -- a list of what a function gives of each line
        mapped : {B : Type 0} (h : Line → B) (ys : List B) → length ys ≡ 29 → ((k : ℕ) (d : B) → k < 29 → get_or ys k d ≡ h (get_or lines k (line_told no_item))) → ys ≡ map (λ e. h (line_told e)) (entries_of ws)
        mapped h ys many each =
            let d = line_told no_item in
            ext_get_or (h d) ys (map h lines) (many ∙ sym long ∙ sym (length-map lines h))
            (λ i l. each i (h d) (omega (arith, many)) ∙ sym (get_or-map h lines i d (h d) (omega (arith, many))))
            ∙ ap (map h) told ∙ map-map h line_told (entries_of ws)

        -- the days of the lines
        module _ (days : List ℕ) (many : length days ≡ 29) (each : (k d : ℕ) → k < 29 → get_or days k d ≡ (get_or lines k (line_told no_item)).day) where
          then_days : first_failing (asked ws) ≡ first_failing (of_days days 29 0)
          then_days =
              passed_first (of_words opening 0 ws) _ (asked_on ∙ sym read.asked ∙ sym closed)
              ∙ ap (λ (d : List ℕ). first_failing (of_days d 29 0)) (sym (mapped (λ l. l.day) days many each))

          pub day_refused : (f' : SheetFault) → first_failing (of_days days 29 0) ≡ Some (told_sheet f') → Kept ws (Err f')
          day_refused f' e = record { told = sym (then_days ∙ e); page = tt }

          pub all_passed : (r : Reading) → r.valuation ≡ v → (r.days.days ≡ days) × (first_failing (of_days days 29 0) ≡ None) → length r.figures ≡ 29 → ((k : ℕ) (x : Option ℤ) → k < 29 → get_or r.figures k x ≡ (get_or lines k (line_told no_item)).figure) → Kept ws (Ok r)
          all_passed r dated tabled long' shows = record {
            told = sym (then_days ∙ tabled.1);
            page = record {
              dated = dated ∙ begun.dated;
              tabled = tabled.0 ∙ mapped (λ l. l.day) days many each;
              shown = λ n. ap (λ (l : List (Option ℤ)). get_or l n None) (mapped (λ l. l.figure) r.figures long' shows);
            };
          }
