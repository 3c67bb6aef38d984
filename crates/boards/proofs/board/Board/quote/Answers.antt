use Rattle.std.proofs.Common.{Some, refl, w32, SFits, rules}
use Rattle.std.proofs.lemmas.Result.{MatchResult-weaker}
use Rattle.std.proofs.lemmas.Int.{to_z-of_z}
use Rattle.boards.proofs.Moves.{moved, only_line, now_present}
use Rattle.boards.proofs.board.Board.quote.Goals as goal

pub returns-clause-board : goal.returns-clause-board
returns-clause-board c =
    let f : SFits w32 c.args.figure = c.ranges.figure in
    moved c.args.self.now _ _ _ c.args.provider _ c.quote.new.self refl c.quote.result c.args.line (Some c.args.figure) (search rules) c.quote.ensures.share (simp to_z-of_z at c.quote.ensures.quotes)

pub returns-clause-page : goal.returns-clause-page
returns-clause-page c = MatchResult-weaker c.quote.result (returns-clause-board c) (λ _ only. only_line c.args.self.now _ c.args.provider c.args.line (Some c.args.figure) only) (λ _ _. tt)

pub returns-clause-shown : goal.returns-clause-shown
returns-clause-shown c = MatchResult-weaker c.quote.result (returns-clause-board c) (λ _ only. now_present c.args.self.now _ c.args.provider c.args.line (Some c.args.figure) only c.args.figure refl (search rules)) (λ _ _. tt)
