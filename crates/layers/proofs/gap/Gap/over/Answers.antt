use Rattle.std.proofs.Common.{refl}
use Rattle.layers.proofs.Filling.{gap_means, gap_one}
use Rattle.layers.proofs.gap.Gap.over.Goals as goal

pub returns : goal.returns
returns g c =
    let p = g.S.QuoteSource.page c.args.below in
    record { kept = refl; means = gap_means p; one = gap_one p }
