use Rattle.std.proofs.Common.{rules}
use Rattle.std.proofs.lemmas.Iterator.{first_from_Range}
use Rattle.days.specs.Bounds.{Bounded}
use Rattle.days.proofs.Rules.{breach_found}
use Rattle.days.proofs.making.lowest_breach.Goals as goal

pub returns : goal.returns
returns c =
    let d = c.args.days.now in
    breach_found d c.find.result (first_from_Range _ _ _ c.find.result (λ k. Bounded d k → ⊥) (Bounded d) c.find.ensures.ran (λ x q k. search rules) (λ x q k. search rules))
