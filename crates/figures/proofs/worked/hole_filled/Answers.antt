use Rattle.std.proofs.Common.{ap, ◌∙◌}
use Rattle.boards.specs.declared.board.Board.{Board}
use Rattle.boards.specs.Board.{board_page}
use Rattle.layers.specs.GapPage.{gap_figure}
use Rattle.figures.proofs.Accepted.{accepted}
use Rattle.figures.proofs.Holes.{filled}
use Rattle.figures.proofs.worked.hole_filled.Goals as goal

pub returns : goal.returns
returns c =
    c.figure.ensures.answer
    ∙ ap (λ (b : Board). gap_figure (board_page b) 10) c.over.ensures.kept
    ∙ filled c.blank.result c.in_ok-board.board c.quote.new.self c.quote-2.new.self c.blank.ensures.days
    (accepted _ _ c.new.result c.ok.result c.in_ok-board.board c.ok.ensures.value c.in_ok-board.was c.new.ensures)
    (accepted _ _ c.quote.result c.ok-2.result c.in_ok-ok.field-0 c.ok-2.ensures.value c.in_ok-ok.was c.quote.ensures.board)
    (accepted _ _ c.quote-2.result c.ok-3.result c.in_ok-ok-2.field-0 c.ok-3.ensures.value c.in_ok-ok-2.was c.quote-2.ensures.board)
