use Rattle.std.proofs.Common.{rules}
use Rattle.std.proofs.iter.runs.Sources.{ranges}
use Rattle.layers.proofs.Seeking.{found_above}
use Rattle.layers.proofs.gap.nearest_above.Goals as goal

pub returns : goal.returns
returns g c = found_above (g.S.QuoteSource.page c.args.s.now) c.find_map.ensures.runs.0 c.args.line c.args.end c.find_map.result (search (rules, ranges)) (λ none. search (rules, ranges)) (λ n some. search (rules, ranges))
