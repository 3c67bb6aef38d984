use Rattle.std.proofs.Common.{◌≡◌, true, false, is_ok, [], sym, ◌∙◌, arith, rules}
use Rattle.sheets.proofs.Handed.{entries_none, all_left}
use Rattle.sheets.proofs.Meant.{tested}
use Rattle.sheets.proofs.Standing.{reads_all, reads_none}
use Rattle.sheets.proofs.sheet.Sheet.entries.Goals as goal

pub returns-then-is_err : goal.returns-then-is_err
returns-then-is_err c =
    let s = c.args.self.now in
    let refused : is_ok s.outcome ≡ false = search rules in
    reads_none s.words _ (sym (tested s.words.now s.outcome s.read) ∙ refused) (entries_none 0 [] (λ h. absurd (omega arith)))

pub returns : goal.returns
returns c =
    let s = c.args.self.now in
    let made = c.after_opening.ensures in
    let passes : is_ok s.outcome ≡ true = search rules in
    reads_all s.words c.after_opening.result (sym (tested s.words.now s.outcome s.read) ∙ passes) (all_left s.words.now c.after_opening.result made.place made.rest) made.lent
