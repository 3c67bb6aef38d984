use Rattle.std.proofs.Common.{None, refl, rules}
use Rattle.std.proofs.lemmas.Result.{MatchResult-weaker}
use Rattle.boards.proofs.Moves.{moved, only_line}
use Rattle.boards.proofs.board.Board.unquote.Goals as goal

pub returns-clause-board : goal.returns-clause-board
returns-clause-board c = moved c.args.self.now _ _ _ c.args.provider _ c.unquote.new.self refl c.unquote.result c.args.line None (search rules) c.unquote.ensures.share c.unquote.ensures.quotes

pub returns-clause-page : goal.returns-clause-page
returns-clause-page c = MatchResult-weaker c.unquote.result (returns-clause-board c) (λ _ only. only_line c.args.self.now _ c.args.provider c.args.line None only) (λ _ _. tt)
