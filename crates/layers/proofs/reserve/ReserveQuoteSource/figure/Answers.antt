use Rattle.std.proofs.Common.{sym, ◌∙◌, arith}
use Rattle.layers.proofs.Lending.{points_lent}
use Rattle.layers.proofs.reserve.ReserveQuoteSource.figure.Goals as goal

pub returns-then-is_thin-clause-answer : goal.returns-then-is_thin-clause-answer
returns-then-is_thin-clause-answer g c =
    c.figure-lent.ensures.answer ∙ sym (points_lent (g.A.QuoteSource.page c.args.self.now.first) (g.B.QuoteSource.page c.args.self.now.second) c.args.line (omega arith) (omega arith) (c.is_thin.ensures.0 c.if-is_thin.true))
