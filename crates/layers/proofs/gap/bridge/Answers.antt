use Rattle.std.proofs.Common.{Some, None, refl, ◌∙◌, inl, inr, arith}
use Rattle.layers.specs.Gap.{straight, drawn, bare}
use Rattle.layers.proofs.Filling.{fills_is}
use Rattle.layers.proofs.Neighbours.{between}
use Rattle.layers.proofs.gap.bridge.Goals as goal

pub returns-in_err-low : goal.returns-in_err-low
returns-in_err-low g c =
    c.from_residual.ensures ∙ fills_is (g.S.QuoteSource.page c.args.s.now) c.args.line None (bare _ _ c.requires (inl c.in_err-low.ensures) refl)

pub returns-in_err-high : goal.returns-in_err-high
returns-in_err-high g c =
    c.from_residual-in_err-high.ensures ∙ fills_is (g.S.QuoteSource.page c.args.s.now) c.args.line None (bare _ _ c.requires (inr c.in_err-high.ensures) refl)

pub straight_at-requires : goal.straight_at-requires
straight_at-requires g c =
    let i = c.in_ok-low.ensures in
    let j = c.in_ok-high.ensures in
    let t = between (g.S.QuoteSource.page c.args.s.now) c.day.ensures.sound c.args.line _ _ _ _ _ _ c.requires i.1 j.1 in
    record { after = omega (arith, t.before, i.2, c.day.ensures.answer); before = omega (arith, t.after, j.2, c.day.ensures.answer) }

pub returns : goal.returns
returns g c =
    let i = c.in_ok-low.ensures in
    let j = c.in_ok-high.ensures in
    fills_is (g.S.QuoteSource.page c.args.s.now) c.args.line c.straight_at.result (drawn _ _ _ _ _ _ c.requires i.1 j.1
    (c.straight_at.ensures ∙ (λ t. Some (straight (i.2 t) c.in_ok-low.low.figure (j.2 t) c.in_ok-high.high.figure (c.day.ensures.answer t)))))
