use Rattle.std.proofs.Common.{Some, None, refl, rules}
use Rattle.closing.proofs.Called.{called}
use Rattle.closing.proofs.market.Market.carry_out.Goals as goal

pub returns-in-BlankDays : goal.returns-in-BlankDays
returns-in-BlankDays c = rw c.in-BlankDays.is (c.blank-self.result, c.blank-self.ensures.days, refl, refl)

pub returns-in_ok-board_mut-in-Quote : goal.returns-in_ok-board_mut-in-Quote
returns-in_ok-board_mut-in-Quote c =
    rw c.in-Quote.is (called c.in-Quote.which c.args.self.now c.in_ok-board_mut-in-Quote.field-0.now c.quote-outcome.new.self c.quote-outcome.result _ c.in-Quote.provider c.in-Quote.line (Some c.in-Quote.figure)
    c.in_ok-board_mut-in-Quote.ensures.value (search rules) (search rules) c.from-in-Quote.result c.from-in-Quote.ensures)

pub returns-in_ok-board_mut-in-Unquote : goal.returns-in_ok-board_mut-in-Unquote
returns-in_ok-board_mut-in-Unquote c =
    rw c.in-Unquote.is (called c.in-Unquote.which c.args.self.now c.in_ok-board_mut-in-Unquote.field-0.now c.unquote-outcome.new.self c.unquote-outcome.result _ c.in-Unquote.provider c.in-Unquote.line None
    c.in_ok-board_mut-in-Unquote.ensures.value c.unquote-outcome.ensures.answer c.unquote-outcome.ensures.board c.from-in-Unquote.result c.from-in-Unquote.ensures)
