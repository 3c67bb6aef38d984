use Rattle.std.proofs.Common.{◌≡◌, ◌-◌, ℤ, pos, ◌+ℤ◌, ◌*ℤ◌, Some, sym, ap, ◌∙◌, subst, arith, w32, w64, SFits, to_z, of_z, rules}
use Rattle.std.proofs.lemmas.Int.{to_z-of_z, ints}
use Rattle.sources.specs.Rounding.{floor_div}
use Rattle.layers.specs.Gap.{straight}
use Rattle.layers.proofs.Slopes.{weighed, weighed_fits, straight_fits}
use Rattle.layers.proofs.gap.straight_at.Goals as goal
use Rattle.layers.proofs.gap.straight_at.Goals.{After-weigh-2}

module _ (c : After-weigh-2) where
  abbrev sum : ℤ
  sum = weighed c.args.low.day c.args.low.figure c.args.high.day c.args.high.figure c.args.day c.requires.after c.requires.before

  added : to_z w64 (of_z w64 c.weigh.result) +ℤ to_z w64 (of_z w64 c.weigh-2.result) ≡ sum
  added =
      let y : to_z w32 (of_z w32 c.args.low.figure) ≡ c.args.low.figure = omega (arith, ints) in
      let z : to_z w32 (of_z w32 c.args.high.figure) ≡ c.args.high.figure = omega (arith, ints) in
      let a = c.weigh.ensures ∙ ap (λ v. pos (c.args.high.day - c.args.day) *ℤ v) y in
      let b = c.weigh-2.ensures ∙ ap (λ v. pos (c.args.day - c.args.low.day) *ℤ v) z in
      omega (arith, ints)

  fits : SFits w64 sum
  fits = weighed_fits c.args.low.day c.args.low.figure c.args.high.day c.args.high.figure c.args.day c.requires.after c.requires.before (search rules) (search rules) (search rules)

pub overflow_add-sum : goal.overflow_add-sum
overflow_add-sum c = subst (SFits w64) (sym (added c)) (fits c)

module _ (c : goal.In_ok-figure) where
  abbrev line : ℤ
  line = straight c.args.low.day c.args.low.figure c.args.high.day c.args.high.figure c.args.day

  quotient : c.in_ok-figure.figure ≡ line
  quotient =
      let b = (goal.at.returns c).After-weigh-2 in
      c.in_ok-figure.ensures.answer.1 ∙ ap (λ z. floor_div z (c.args.high.day - c.args.low.day)) (to_z-of_z w64 _ (overflow_add-sum b) ∙ added b)

  small : SFits w32 line
  small = straight_fits c.args.low.day c.args.low.figure c.args.high.day c.args.high.figure c.args.day c.requires.after c.requires.before (search rules) (search rules)

pub overflow_cast-result : goal.overflow_cast-result
overflow_cast-result c = let q = quotient c in let s = small c in omega (arith, ints)

pub returns : goal.returns
returns c = let q = quotient c in let s = small c in ap Some (omega (arith, ints))
