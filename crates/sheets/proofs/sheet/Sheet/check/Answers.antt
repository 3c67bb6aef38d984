use Rattle.sheets.proofs.Meant.{verdict_told}
use Rattle.sheets.proofs.Verdicts.{checked}
use Rattle.sheets.proofs.sheet.Sheet.check.Goals as goal

pub returns : goal.returns
returns c =
    let s = c.args.self.now in
    checked s.words.now c.map.result (verdict_told s.words.now _ s.outcome c.map.result s.read c.map.ensures.cases)
