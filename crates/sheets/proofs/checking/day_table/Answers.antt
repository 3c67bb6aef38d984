use Rattle.std.proofs.Common.{rules}
use Rattle.sheets.proofs.Tabled.{told_as_own}
use Rattle.sheets.proofs.checking.day_table.Goals as goal

pub returns : goal.returns
returns c = told_as_own c.args.days c.new.result c.map_err.result (λ f g is. search rules) c.new.ensures c.map_err.ensures.cases
