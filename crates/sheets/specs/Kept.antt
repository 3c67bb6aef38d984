-- What reading a sheet's words gives. Assumes nothing.
use Rattle.std.specs.Prelude.{◌≡◌, ℕ, List, drop, IfOk, MatchResult, Some, None, Result, slice_index, slice_index_or}
use Rattle.days.specs.Questions.{Question, refusal_of, first_failing}
use Rattle.sources.specs.Page.{Page}
use Rattle.sheets.specs.Asked.{opening, line, of_words, asked}
use Rattle.sheets.specs.Words.{load}
use Rattle.sheets.specs.Meaning.{told_page}
use Rattle.sheets.specs.Told.{told_sheet}
use Rattle.sheets.specs.declared.fault.SheetFault.{SheetFault}
use Rattle.sheets.specs.declared.reading.Reading.{Reading}

-- the reading holds this page
pub record Holds (p : Page) (r : Reading) : Type 0 where
  pub dated : r.valuation ≡ p.valuation
  pub tabled : r.days.days ≡ p.days
  pub shown : (k : ℕ) → slice_index_or r.figures k None ≡ p.figure k

-- the refusal of the first question that fails, or the page that the words tell
pub record Kept (ws : List ℕ) (r : Result Reading SheetFault) : Type 0 where
  pub told : refusal_of told_sheet r ≡ first_failing (asked ws)
  pub page : IfOk r (Holds (told_page ws))

-- a step of reading: P holds of what it gives, or it refuses as the first of the questions that fails
abbrev pub Step : {T : Type 0} → Result T SheetFault → (T → Type 0) → List Question → Type 0
Step r P questions = MatchResult r P (λ f. first_failing questions ≡ Some (told_sheet f))

-- the opening word passes: what it leaves to ask are the words after it, at which line 0 is due, and it tells this valuation day
pub record AfterOpening (ws : List ℕ) (valuation : ℕ) : Type 0 where
  pub asked_on : first_failing (of_words opening 0 ws) ≡ first_failing (of_words (line 0) 1 (drop 1 ws))
  pub dated : valuation ≡ load (slice_index ws 0)
