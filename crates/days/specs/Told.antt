-- Number, layer and place of every refusal of a quote source. Assumes nothing.
use Rattle.days.specs.declared.fault.SourceFault.{SourceFault}
use Rattle.days.specs.declared.fault.SourceFault.TheVariants.{UnlawfulDay, NoProvider, NoLine, FigureOutOfRange, ShareTooLarge, ValuationDayTooLate}
use Rattle.days.specs.declared.refusal.Layer.TheVariants.{Source}
use Rattle.days.specs.declared.refusal.Refusal.{Refusal}
use Rattle.days.specs.Questions.{refusal}

abbrev pub told_source : SourceFault → Refusal
told_source (UnlawfulDay line) = refusal 15 Source line
told_source (NoProvider provider) = refusal 21 Source provider
told_source (NoLine line) = refusal 22 Source line
told_source (FigureOutOfRange line) = refusal 23 Source line
told_source (ShareTooLarge provider) = refusal 24 Source provider
told_source ValuationDayTooLate = refusal 25 Source 0
