use Rattle.std.proofs.Common.{rules}
use Rattle.sheets.specs.Asked.{opening}
use Rattle.sheets.proofs.Due.{no_word, refused_at, passed_at}
use Rattle.sheets.proofs.checking.valuation_day.Goals as goal

pub returns-in-empty : goal.returns-in-empty
returns-in-empty c = no_word opening 0 c.args.words.now (search rules)

pub returns-in-len1-up : goal.returns-in-len1-up
returns-in-len1-up c = refused_at opening 0 c.args.words.now _ (search rules) (search rules)

pub returns-in-len1-up-2 : goal.returns-in-len1-up-2
returns-in-len1-up-2 c = refused_at opening 0 c.args.words.now _ (search rules) (search rules)

pub returns-in-len1-up-3 : goal.returns-in-len1-up-3
returns-in-len1-up-3 c = record { asked_on = passed_at opening 0 c.args.words.now (search rules) (search rules); dated = search rules }
