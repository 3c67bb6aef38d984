use Rattle.std.proofs.Common.{◌≡◌, Some, Option}
use Rattle.boards.specs.declared.board.Board.{Board}
use Rattle.closing.proofs.Shown.{lent, both}
use Rattle.closing.proofs.market.Market.shown.Goals as goal

pub returns-in_ok-yesterday-in-ReserveTodayYesterday : goal.returns-in_ok-yesterday-in-ReserveTodayYesterday
returns-in_ok-yesterday-in-ReserveTodayYesterday c =
    let today : ◌≡◌ {A = Option Board} c.args.self.now.today (Some c.of.result.first.now) = lent c.args.self.now.today c.in_ok-today.today c.of.result.first c.in_ok-today.ensures c.of.ensures.kept.0 in
    let yesterday : ◌≡◌ {A = Option Board} c.args.self.now.yesterday (Some c.of.result.second.now) = lent c.args.self.now.yesterday c.in_ok-yesterday-in-ReserveTodayYesterday.yesterday c.of.result.second c.in_ok-yesterday-in-ReserveTodayYesterday.ensures c.of.ensures.kept.1 in
    both _ _ _ _ _ _ _ c.in-ReserveTodayYesterday.is today yesterday c.over-in-ReserveTodayYesterday.ensures
