use Rattle.sheets.proofs.Exact.{sheet_sound}
use Rattle.sheets.proofs.Meant.{means}
use Rattle.sheets.proofs.sheet.Sheet.reading.Goals as goal

pub returns-clause-told : goal.returns-clause-told
returns-clause-told c =
    let s = c.args.self.now in
    rw c.ok.ensures.value (means s.words.now s.outcome c.as_ref.result s.read c.as_ref.ensures.value)

pub returns-clause-sound : goal.returns-clause-sound
returns-clause-sound c = sheet_sound c.args.self.now.words.now
