use Rattle.std.proofs.Common.{◌≡◌, ℕ, rules}
use Rattle.closing.specs.Pages.{row_of, no_row}
use Rattle.closing.specs.declared.page.Row.{Row}
use Rattle.days.proofs.Made.{made}
use Rattle.closing.proofs.page.Page.of.Goals as goal

pub returns : goal.returns
returns g c =
    let i = c.from_fn-rows.ensures.items in
    (c.valuation_day.ensures.answer, i.long, made _ _ (λ (k : ℕ) (y : Row). y ≡ row_of (g.S.QuoteSource.page c.args.source.now) k) (λ k y q t. search rules) c.from_fn-rows.result no_row 29 i)
