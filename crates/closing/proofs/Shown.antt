-- The page of a source that is made of both boards.
use Rattle.std.proofs.Common.{◌≡◌, Bool, Some, Option, sym, ap, ◌∙◌, subst, Bor}
use Rattle.boards.specs.Board.{board_page}
use Rattle.boards.specs.declared.board.Board.{Board}
use Rattle.layers.specs.ReservePage.{reserve_page}
use Rattle.closing.specs.Pages.{RowsOf, RowsIf, base_page, filled_page}
use Rattle.journal.specs.declared.command.Base.{Base}
use Rattle.journal.specs.declared.command.Base.TheVariants.{ReserveTodayYesterday}
use Rattle.closing.specs.declared.page.Page.{Page}

-- a board that is lent on is the one that was found
pub lent : (o : Option Board) (a b : Bor Board) → o ≡ Some a.now → b ≡ a → o ≡ Some b.now
lent o a b found same = found ∙ ap (λ (x : Bor Board). Some x.now) (sym same)

pub both : (filled : Bool) (base : Base) (today yesterday : Option Board) (t y : Board) (r : Page) → base ≡ ReserveTodayYesterday → today ≡ Some t → yesterday ≡ Some y → RowsOf (filled_page filled (reserve_page (board_page t) (board_page y))) r → RowsIf filled (base_page base today yesterday) r
both filled base today yesterday t y r of-both is-t is_y h =
    subst
    (λ (b : Base). RowsIf filled (base_page b today yesterday) r)
    (sym of-both)
    (subst
    (λ (o : Option Board). RowsIf filled (base_page ReserveTodayYesterday o yesterday) r)
    (sym is-t)
    (subst (λ (o : Option Board). RowsIf filled (base_page ReserveTodayYesterday (Some t) o) r) (sym is_y) h))
