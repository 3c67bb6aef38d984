-- Looking from line to line finds the nearest neighbours. Assumes nothing.
use Rattle.std.proofs.Common.{◌≡◌, ℕ, zero, suc, ◌<◌, ◌≤◌, cond, ltb, ℤ, Some, None, Option, refl, ap, subst, true, ◌+◌, ◌-◌, ⊎_elim, arith, MatchOption, IsSomeAnd}
use Rattle.std.specs.Option.{option_map, option_or}
use Rattle.std.proofs.lemmas.Bool.{cases_lt, cond_both, ltb-true, ltb-false}
use Rattle.days.specs.Days.{day}
use Rattle.sources.specs.Page.{Page}
use Rattle.std.specs.Iterator.Runs.{Run, ItemsCountUp, ItemsCountDown, AllItems, AllItemsBelow}
use Rattle.std.proofs.lemmas.Grind.{common_steps}
use Rattle.layers.specs.declared.gap.Dated.{Dated}
use Rattle.layers.specs.Gap.{Below, Above, NoneBelow, NoneAbove}
use Rattle.layers.specs.GapPage.{seen, below, above}

-- one line more
last : (P : ℕ → Type 0) (i k : ℕ) → (i < k → P i) → P k → i ≤ k → P i
last P i k before here h = ⊎_elim before (λ g. subst P (omega arith) here) (cases_lt i k)

module _ (p : Page) where
  abbrev Gone : ℕ → Type 0
  Gone i = p.figure i ≡ None

  abbrev pub SoughtBelow : ℕ → ℕ → Option (ℕ × ℤ) → Type 0
  SoughtBelow from k o = MatchOption o (NoneBelow p from k) (λ n. Below p from k n.0 n.1)

  abbrev pub SoughtAbove : ℕ → ℕ → Option (ℕ × ℤ) → Type 0
  SoughtAbove end k o = MatchOption o (NoneAbove p end k) (λ n. Above p end k n.0 n.1)

  step_below : (from k : ℕ) (s : Option ℤ) (o : Option (ℕ × ℤ)) → from ≤ k → p.figure k ≡ s → SoughtBelow from k o → SoughtBelow from (suc k) (option_or (option_map (λ y. (k, y)) s) o)
  step_below from k (Some y) o inside here rest = record { within = inside; under = omega arith; there = here; nearest = λ i a b. absurd (omega arith) }
  step_below from k None None inside here rest = λ i a b. last Gone i k (rest i a) here (omega arith)
  step_below from k None (Some n) inside here rest = record {
    within = rest.within;
    under = omega (arith, rest.under);
    there = rest.there;
    nearest = λ i a b. last Gone i k (rest.nearest i a) here (omega arith);
  }

  pub seek_below : (from k : ℕ) → SoughtBelow from k (below p from k)
  seek_below from zero = λ i a b. absurd (omega arith)
  seek_below from (suc k) = cond_both (ltb k from) None _ (SoughtBelow from (suc k))
      (λ out i a b. absurd (omega (arith, ltb-true k from out)))
      (λ e. step_below from k (p.figure k) (below p from k) (ltb-false k from e) refl (seek_below from k))

  step_above : (end k : ℕ) (s : Option ℤ) → k < end → p.figure end ≡ s → NoneAbove p end k → SoughtAbove (suc end) k (option_map (λ y. (end, y)) s)
  step_above end k (Some y) inside here rest = record { over = inside; within = omega arith; there = here; nearest = rest }
  step_above end k None inside here rest = λ i a b. last Gone i end (rest i a) here (omega arith)

  more_above : (end k : ℕ) (o : Option (ℕ × ℤ)) → SoughtAbove end k o → SoughtAbove (suc end) k (option_or o (cond (ltb k end) (seen p end) None))
  more_above end k (Some n) f = record { over = f.over; within = omega (arith, f.within); there = f.there; nearest = f.nearest }
  more_above end k None f = cond_both (ltb k end) (seen p end) None (SoughtAbove (suc end) k)
      (λ e. step_above end k (p.figure end) (ltb-true k end e) refl f)
      (λ out i a b. absurd (omega (arith, ltb-false k end out)))

  pub seek_above : (end k : ℕ) → SoughtAbove end k (above p end k)
  seek_above zero k = λ i a b. absurd (omega arith)
  seek_above (suc end) k = more_above end k (above p end k) (seek_above end k)

  -- what is so found is one line with one figure
  place_one : (j j' : ℕ) (y y' : ℤ) → (j < j' → ⊥) → (j' < j → ⊥) → p.figure j ≡ Some y → p.figure j' ≡ Some y' → ◌≡◌ {A = Option (ℕ × ℤ)} (Some (j, y)) (Some (j', y'))
  place_one j j' y y' under over a b =
      let e : j ≡ j' = ⊎_elim (λ l. absurd (under l)) (λ g. ⊎_elim (λ l. absurd (over l)) (λ h. omega arith) (cases_lt j' j)) (cases_lt j j') in
      let f = ap p.figure e in
      let v : y ≡ y' = cc in
      λ t. Some (e t, v t)

  only_below : (from k j : ℕ) (y : ℤ) (o : Option (ℕ × ℤ)) → SoughtBelow from k o → Below p from k j y → o ≡ Some (j, y)
  only_below from k j y None none b = cc (b.there, none j b.within b.under)
  only_below from k j y (Some n) a b = place_one n.0 j n.1 y
      (λ l. cc (b.there, a.nearest j l b.under))
      (λ l. cc (a.there, b.nearest n.0 l a.under)) a.there b.there

  only_above : (end k j : ℕ) (y : ℤ) (o : Option (ℕ × ℤ)) → SoughtAbove end k o → Above p end k j y → o ≡ Some (j, y)
  only_above end k j y None none b = cc (b.there, none j b.over b.within)
  only_above end k j y (Some n) a b = place_one n.0 j n.1 y
      (λ l. cc (a.there, b.nearest n.0 a.over l))
      (λ l. cc (b.there, a.nearest j b.over l)) a.there b.there

  none_below : (from k : ℕ) (o : Option (ℕ × ℤ)) → SoughtBelow from k o → NoneBelow p from k → o ≡ None
  none_below from k None a n = refl
  none_below from k (Some m) a n = cc (a.there, n m.0 a.within a.under)

  none_above : (end k : ℕ) (o : Option (ℕ × ℤ)) → SoughtAbove end k o → NoneAbove p end k → o ≡ None
  none_above end k None a n = refl
  none_above end k (Some m) a n = cc (a.there, n m.0 a.over a.within)

  pub below_is : (from k j : ℕ) (y : ℤ) → Below p from k j y → below p from k ≡ Some (j, y)
  below_is from k j y = only_below from k j y (below p from k) (seek_below from k)

  pub above_is : (end k j : ℕ) (y : ℤ) → Above p end k j y → above p end k ≡ Some (j, y)
  above_is end k j y = only_above end k j y (above p end k) (seek_above end k)

  pub below_none : (from k : ℕ) → NoneBelow p from k → below p from k ≡ None
  below_none from k = none_below from k (below p from k) (seek_below from k)

  pub above_none : (end k : ℕ) → NoneAbove p end k → above p end k ≡ None
  above_none end k = none_above end k (above p end k) (seek_above end k)

-- a run of calls over lines that ends at the first of them with a figure, from line k down to line `from` or from the line after k up to before line `end`
module _ (p : Page) {S : Type 0} {steps : S → Option ℕ → S → Type 0} (run : Run steps) (k : ℕ) where
  abbrev Bare : ℕ → Type 0
  Bare i = p.figure i ≡ None

  abbrev Shows : Dated → ℕ → Type 0
  Shows n j = (p.figure j ≡ Some n.figure) × (n.day ≡ day p.days j)

  -- no line of the run has a figure; its last line alone has one
  abbrev pub NoneShown : Type 0
  NoneShown = (run.whole ≡ true) × AllItems run Bare

  abbrev pub LastShown : Dated → Type 0
  LastShown n = (0 < run.len) × AllItemsBelow run (run.len - 1) Bare × IsSomeAnd (run.at (run.len - 1)) (Shows n)

  pub found_below : (from : ℕ) (r : Option Dated) → ItemsCountDown run from k → (r ≡ None → NoneShown) → ((n : Dated) → r ≡ Some n → LastShown n)
      → MatchOption r (NoneBelow p from k) (λ n. (j : ℕ) × Below p from k j n.figure × (n.day ≡ day p.days j))
  found_below from None down none last = λ i l h. grind (arith, common_steps, none refl, down.3 (k - 1 - i), (none refl).1 (k - 1 - i))
  found_below from (Some n) down none last =
      let f = last n refl in
      let at : run.at (run.len - 1) ≡ Some (k - run.len) = grind (arith, common_steps, down.3 (run.len - 1)) in
      let s : Shows n (k - run.len) = grind (arith, common_steps, at, f.2) in
      (k - run.len, record { within = omega (arith, down.0); under = omega (arith, f.0, down.0); there = s.0; nearest = λ i l h. grind (arith, common_steps, down.3 (k - 1 - i), f.1 (k - 1 - i)) }, s.1)

  pub found_above : (end : ℕ) (r : Option Dated) → ItemsCountUp run (k + 1) end → (r ≡ None → NoneShown) → ((n : Dated) → r ≡ Some n → LastShown n)
      → MatchOption r (NoneAbove p end k) (λ n. (j : ℕ) × Above p end k j n.figure × (n.day ≡ day p.days j))
  found_above end None up none last = λ i l h. grind (arith, common_steps, none refl, up.3 (i - (k + 1)), (none refl).1 (i - (k + 1)))
  found_above end (Some n) up none last =
      let f = last n refl in
      let at : run.at (run.len - 1) ≡ Some (k + run.len) = grind (arith, common_steps, f.0, up.3 (run.len - 1)) in
      let s : Shows n (k + run.len) = grind (arith, common_steps, at, f.2) in
      (k + run.len, record { over = omega (arith, f.0); within = omega (arith, f.0, up.0); there = s.0; nearest = λ i l h. grind (arith, common_steps, up.3 (i - (k + 1)), f.1 (i - (k + 1))) }, s.1)
