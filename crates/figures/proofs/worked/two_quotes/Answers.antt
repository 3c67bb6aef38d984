use Rattle.std.proofs.Common.{rules}
use Rattle.figures.proofs.Accepted.{accepted}
use Rattle.figures.proofs.worked.two_quotes.Goals as goal

pub returns : goal.returns
returns c =
    let new = accepted _ _ c.new.result c.ok.result c.in_ok-board.board c.ok.ensures.value c.in_ok-board.was c.new.ensures in
    let one = accepted _ _ c.quote.result c.ok-2.result c.in_ok-ok.field-0 c.ok-2.ensures.value c.in_ok-ok.was c.quote.ensures.board in
    let two = accepted _ _ c.quote-2.result c.ok-3.result c.in_ok-ok-2.field-0 c.ok-3.ensures.value c.in_ok-ok-2.was c.quote-2.ensures.board in
    search rules
