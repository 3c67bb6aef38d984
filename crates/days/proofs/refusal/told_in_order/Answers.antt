use Rattle.days.proofs.Asked.{told_in_order}
use Rattle.days.proofs.refusal.told_in_order.Goals as goal

pub returns : goal.returns
returns c = told_in_order
