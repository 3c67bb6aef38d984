use Rattle.std.proofs.Common.{◌≡◌, ◌+◌, ◌<◌, length, get_or, pos, ◌*ℤ◌, Some, None, sym, ◌∙◌, arith, w32, SFits, rules}
use Rattle.std.proofs.lemmas.Int.{ints, to_z-of_z}
use Rattle.boards.proofs.Sums.{shares_small, figures_small, shares_more, figures_more}
use Rattle.boards.proofs.board.Board.sums.Goals as goal
use Rattle.boards.proofs.board.Board.sums.Goals.{in-Some, in_default}

pub overflow_add-weight : goal.overflow_add-weight
overflow_add-weight c =
    let b = c.args.self.now in
    let p = c.loop-provider.provider-index in
    record { fits = omega (arith, c.loop-provider.invariant.weights, shares_small b c.args.line p, (get_or b.providers p c.provider-item.result).shared) }

pub overflow_add-total : goal.overflow_add-total
overflow_add-total c =
    let b = c.args.self.now in
    let k = c.args.line in
    let p = c.loop-provider.provider-index in
    let f : SFits w32 c.in-Some.figure = search rules in
    let t : c.weigh-total.result ≡ pos (get_or b.providers p c.provider-item.result).share *ℤ c.in-Some.figure = simp to_z-of_z at c.weigh-total.ensures in
    let here : p < length b.providers = omega arith in
    let e = figures_more b k p c.provider-item.result here (Some c.in-Some.figure) (sym c.latest.ensures ∙ c.in-Some.is) in
    let wide = figures_small b k (p + 1) in
    let small = shares_small b k (p + 1) in
    omega (arith, ints)

pub loop-provider-preserved : goal.loop-provider-preserved
loop-provider-preserved c =
    let b = c.args.self.now in
    let k = c.args.line in
    let p = c.loop-provider.provider-index in
    let x = c.provider-item.result in
    let here : p < length b.providers = omega arith in
    elim c.match-latest.branch [
      | in-Some w ↦
          let f : SFits w32 w.in-Some.figure = search rules in
          let t : w.weigh-total.result ≡ pos (get_or b.providers p x).share *ℤ w.in-Some.figure = simp to_z-of_z at w.weigh-total.ensures in
          let is = sym c.latest.ensures ∙ w.in-Some.is in
          let more = shares_more b k p x here (Some w.in-Some.figure) is in
          let e = figures_more b k p x here (Some w.in-Some.figure) is in
          let wide = figures_small b k (p + 1) in
          let small = shares_small b k (p + 1) in
          record { weights = omega (arith, w.weight-is, c.loop-provider.invariant.weights); totals = omega (arith, ints, w.total-is) }
      | in_default w ↦
          let is = sym c.latest.ensures ∙ w.in_default.is in
          let more = shares_more b k p x here None is in
          let e = figures_more b k p x here None is in
          record { weights = omega (arith, w.weight-is, c.loop-provider.invariant.weights); totals = omega (arith, ints, w.total-is) }
    ]
