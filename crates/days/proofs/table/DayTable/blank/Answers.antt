use Rattle.std.proofs.Common.{refl}
use Rattle.days.specs.Days.{blank_days}
use Rattle.days.proofs.Rules.{bounded_from_test, lawful_from_bounded}
use Rattle.days.proofs.table.DayTable.blank.Goals as goal

pub invariant_of-result : goal.invariant_of-result
invariant_of-result c = record { long = refl; lawful = bounded_from_test blank_days refl }

pub returns : goal.returns
returns c = record { days = refl; lawful = lawful_from_bounded blank_days (bounded_from_test blank_days refl) }
