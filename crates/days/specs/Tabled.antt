-- What making a day table of some days gives. Assumes nothing.
use Rattle.std.specs.Prelude.{◌≡◌, ℕ, List, Result, MatchResult}
use Rattle.days.specs.Days.{Lawful, Breach}
use Rattle.days.specs.Questions.{refusal}
use Rattle.days.specs.Told.{told_source}
use Rattle.days.specs.declared.fault.SourceFault.{SourceFault}
use Rattle.days.specs.declared.refusal.Layer.TheVariants.{Source}
use Rattle.days.specs.declared.table.DayTable.{DayTable}

-- the table of these days, which are lawful; or 15 at the lowest line in breach
abbrev pub Tabled : List ℕ → Result DayTable SourceFault → Type 0
Tabled d r = MatchResult r (λ t. (t.days ≡ d) × Lawful d) (λ f. (k : ℕ) × (told_source f ≡ refusal 15 Source k) × Breach d k)
