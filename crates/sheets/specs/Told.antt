-- Number, layer and place of every refusal of a sheet. Assumes nothing.
use Rattle.days.specs.Questions.{refusal}
use Rattle.days.specs.declared.refusal.Layer.TheVariants.{Sheet}
use Rattle.days.specs.declared.refusal.Refusal.{Refusal}
use Rattle.sheets.specs.declared.fault.SheetFault.{SheetFault}
use Rattle.sheets.specs.declared.fault.SheetFault.TheVariants.{NotDue, WrongHead, OutOfRange, Surplus, UnlawfulDay}

-- 11 to 14 tell the place of a word, 15 a line
abbrev pub told_sheet : SheetFault → Refusal
told_sheet (NotDue word) = refusal 11 Sheet word
told_sheet (WrongHead word) = refusal 12 Sheet word
told_sheet (OutOfRange word) = refusal 13 Sheet word
told_sheet (Surplus word) = refusal 14 Sheet word
told_sheet (UnlawfulDay line) = refusal 15 Sheet line
