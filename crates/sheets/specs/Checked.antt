-- What a sheet's check promises. Assumes nothing.
use Rattle.std.specs.Prelude.{◌≡◌, ℕ, ◌≤◌, true, List, length, is_ok, IfOk, IfErr, Result}
use Rattle.days.specs.Days.{Breach}
use Rattle.days.specs.Questions.{refusal, refusal_of, first_failing}
use Rattle.days.specs.declared.refusal.Layer.TheVariants.{Sheet}
use Rattle.sources.specs.Page.{Page, Sound}
use Rattle.sheets.specs.Asked.{asked}
use Rattle.sheets.specs.Encoding.{words_of}
use Rattle.sheets.specs.Meaning.{told_page, accepted, sheet_page}
use Rattle.sheets.specs.Told.{told_sheet}
use Rattle.sheets.specs.declared.fault.SheetFault.{SheetFault}

-- r is the answer to the words ws
pub record Checked {T : Type 0} (ws : List ℕ) (r : Result T SheetFault) : Type 0 where
  -- it tells the first question that fails, and accepts where none does
  pub answer : refusal_of told_sheet r ≡ first_failing (asked ws)
  -- a refusal 15 tells the lowest line in breach of the lawful-day rule
  pub breach : IfErr r (λ f. (k : ℕ) → told_sheet f ≡ refusal 15 Sheet k → Breach (told_page ws).days k)
  -- an accepted sheet means a sound page, and is exactly the words of that page
  pub sound : IfOk r (λ _. Sound (sheet_page ws))
  pub exact : IfOk r (λ _. ws ≡ words_of (sheet_page ws))
  -- it has 31 to 60 words
  pub size : IfOk r (λ _. (31 ≤ length ws) × (length ws ≤ 60))
  -- and no other sheet that is accepted means the same page
  pub one : IfOk r (λ _. (vs : List ℕ) → accepted vs ≡ true → sheet_page vs ≡ sheet_page ws → vs ≡ ws)
  -- the words of every sound page are accepted and mean that page
  pub every : (p : Page) → Sound p → ws ≡ words_of p → (is_ok r ≡ true) × (sheet_page ws ≡ p)
