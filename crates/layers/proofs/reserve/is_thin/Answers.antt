use Rattle.std.proofs.Common.{◌≡◌, ◌-◌, true, arith}
use Rattle.std.proofs.iter.runs.Sources.{ranges}
use Rattle.std.proofs.lemmas.Grind.{common_steps}
use Rattle.layers.specs.Reserve.{Thin}
use Rattle.layers.proofs.reserve.is_thin.Goals as goal

pub returns : goal.returns
returns g c =
    let found : c.any.result ≡ true → Thin (g.S.QuoteSource.page c.args.s.now) = λ e. grind (arith, ranges, common_steps) in
    -- `at` names the place of such a line in the run
    (found, λ t. let at : c.any.ensures.runs.0.at (t.0 - 8) ≡ c.any.ensures.runs.0.at (t.0 - 8) = grind arith in grind (arith, ranges, common_steps, at))
