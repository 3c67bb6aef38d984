use Rattle.std.proofs.Common.{rules, Some, sym, ap, ◌∙◌, length-set}
use Rattle.std.proofs.lemmas.Result.{err_from_is_err_and}
use Rattle.sheets.specs.Told.{told_sheet}
use Rattle.sheets.specs.declared.fault.SheetFault.{SheetFault}
use Rattle.sheets.proofs.Lines.{stopped_none, stopped, read_more}
use Rattle.sheets.proofs.entry.Entries.read_lines.Goals as goal

pub returns-in_default : goal.returns-in_default
returns-in_default c = search (rules, stopped_none c.loop-line.line c.args.self.now c.loop-line.self _ c.loop-line-test.true c.loop-line.invariant.read)

pub returns-in_err-ask : goal.returns-in_err-ask
returns-in_err-ask c =
    let p = err_from_is_err_and c.from_residual.result c.from_residual.ensures.1 in
    let h = c.in-Some.ensures.steps in
    rw p.1 (stopped c.loop-line.line c.args.self.now c.loop-line.self _ c.loop-line-test.true c.loop-line.invariant.read c.in-Some.placed c.next.new.self h _ (sym c.in_err-ask.ensures ∙ ap (λ (f : SheetFault). Some (told_sheet f)) (sym p.2)))

pub loop-line-preserved : goal.loop-line-preserved
loop-line-preserved c =
    let h = c.in-Some.ensures.steps in
    let i = c.loop-line.invariant in
    record {
      long = length-set c.loop-line.told-items _ _ ∙ i.long;
      read = read_more c.loop-line.line c.args.self.now c.loop-line.self _ c.loop-line-test.true i.read _ _ h _ i.long (sym c.in_ok-ask.ensures) (λ j. record { day = c.day.ensures j; figure = c.figure.ensures j });
    }
