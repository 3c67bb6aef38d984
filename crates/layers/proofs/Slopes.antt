-- The straight line between two figures lies where they do. Assumes nothing.
use Rattle.std.proofs.Common.{◌≡◌, ℕ, ◌+◌, ◌-◌, ◌^◌, ◌<◌, ◌≤◌, ℤ, pos, negsuc, ◌+ℤ◌, ◌*ℤ◌, ◌≤ℤ◌, subst, arith, w32, w64, SFits}
use Rattle.std.proofs.lemmas.Int.{ints}
use Rattle.sources.proofs.Floors.{floor_of, floor_low, floor_high, low_more, high_more}
use Rattle.layers.specs.Gap.{straight}

module _ (x : ℕ) (y : ℤ) (x' : ℕ) (y' : ℤ) (s : ℕ) (before : x ≤ s) (after : s < x') where
  abbrev pub weighed : ℤ
  weighed = pos (x' - s) *ℤ y +ℤ pos (s - x) *ℤ y'

  weights : (x' - s) + (s - x) ≡ x' - x
  weights = omega arith

  pub sum_low : (lo : ℤ) → lo ≤ℤ y → lo ≤ℤ y' → (lo *ℤ pos (x' - x)) ≤ℤ weighed
  sum_low lo f g =
      let one = low_more lo (pos 0) y 0 (x' - s) (omega (arith, ints)) f in
      subst (λ n. (lo *ℤ pos n) ≤ℤ weighed) weights (low_more lo (pos (x' - s) *ℤ y) y' (x' - s) (s - x) (omega (arith, ints)) g)

  pub sum_high : (hi : ℤ) → y ≤ℤ hi → y' ≤ℤ hi → weighed ≤ℤ (hi *ℤ pos (x' - x))
  sum_high hi f g =
      let one = high_more hi (pos 0) y 0 (x' - s) (omega (arith, ints)) f in
      subst (λ n. weighed ≤ℤ (hi *ℤ pos n)) weights (high_more hi (pos (x' - s) *ℤ y) y' (x' - s) (s - x) (omega (arith, ints)) g)

  pub straight_low : (lo : ℤ) → lo ≤ℤ y → lo ≤ℤ y' → lo ≤ℤ straight x y x' y' s
  straight_low lo f g = floor_low weighed (x' - x) (straight x y x' y' s) lo (floor_of weighed (x' - x) (omega arith)) (sum_low lo f g)

  pub straight_high : (hi : ℤ) → y ≤ℤ hi → y' ≤ℤ hi → straight x y x' y' s ≤ℤ hi
  straight_high hi f g = floor_high weighed (x' - x) (straight x y x' y' s) hi (omega arith) (floor_of weighed (x' - x) (omega arith)) (sum_high hi f g)

  -- so whatever 32 bits hold, 64 bits hold its weighed sum, and 32 bits the figure between
  pub weighed_fits : SFits w32 y → SFits w32 y' → x' < 2 ^ 32 → SFits w64 weighed
  weighed_fits f g h =
      let l = sum_low (negsuc 2147483647) (omega (arith, ints)) (omega (arith, ints)) in
      let u = sum_high (pos 2147483647) (omega (arith, ints)) (omega (arith, ints)) in
      omega (arith, ints)

  pub straight_fits : SFits w32 y → SFits w32 y' → SFits w32 (straight x y x' y' s)
  straight_fits f g =
      let l = straight_low (negsuc 2147483647) (omega (arith, ints)) (omega (arith, ints)) in
      let u = straight_high (pos 2147483647) (omega (arith, ints)) (omega (arith, ints)) in
      omega (arith, ints)
