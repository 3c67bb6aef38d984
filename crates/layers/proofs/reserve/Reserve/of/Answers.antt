use Rattle.std.proofs.Common.{refl}
use Rattle.layers.proofs.Lending.{reserve_means, reserve_one}
use Rattle.layers.proofs.reserve.Reserve.of.Goals as goal

pub returns : goal.returns
returns g c =
    let p = g.A.QuoteSource.page c.args.first in
    let q = g.B.QuoteSource.page c.args.second in
    record { kept = (refl, refl); means = reserve_means p q; one = reserve_one p q }
