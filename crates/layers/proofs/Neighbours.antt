-- Neighbours of one group have rising days and one range, so a filled page is sound. Assumes nothing.
use Rattle.std.proofs.Common.{◌≡◌, ℕ, zero, suc, ◌-◌, ◌<◌, ◌≤◌, List, ℤ, ◌≤ℤ◌, Some, None, Option, sym, refl, ◌∙◌, subst, inl, inr, ⊎_elim, arith, lit<}
use Rattle.std.proofs.lemmas.Bool.{cases_lt}
use Rattle.days.specs.Days.{day, Follows, Lawful}
use Rattle.days.specs.Lines.{by_group, lowest, highest, InRange}
use Rattle.days.proofs.Ranges.{points_of, uf_of}
use Rattle.sources.specs.Page.{Page, Sound}
use Rattle.layers.specs.Gap.{straight, Group, Hole, Below, Above, Fills, kept, drawn, bare, apart}
use Rattle.layers.specs.GapPage.{gap_figure, gap_page}
use Rattle.layers.proofs.Filling.{fills, fills_is}
use Rattle.layers.proofs.Slopes.{straight_low, straight_high}

-- a group's lines have one of whatever goes by groups
group_one : {A : Type 0} (from end i k : ℕ) (a b c d : A) → Group from end → from ≤ i → i < end → from ≤ k → k < end → by_group i a b c d ≡ by_group k a b c d
group_one from end i k a b c d (inl g) l h l' h' = points_of i a b c d (omega (arith, g.0)) (omega (arith, g.1)) ∙ sym (points_of k a b c d (omega (arith, g.0)) (omega (arith, g.1)))
group_one from end i k a b c d (inr g) l h l' h' = uf_of i a b c d (omega (arith, g.0)) ∙ sym (uf_of k a b c d (omega (arith, g.0)))

-- and its days rise
module _ (d : List ℕ) (lawful : Lawful d) (from end : ℕ) where
  after : (i : ℕ) → suc i < 29 → Follows (suc i) → day d i < day d (suc i)
  after i h f = let e : suc i - 1 ≡ i = omega arith in subst (λ n. day d n < day d (suc i)) e ((lawful (suc i) h).rising f)

  next : (i : ℕ) → Group from end → from ≤ i → suc i < end → day d i < day d (suc i)
  next i (inl g) low high = after i (omega (arith, g.1)) (inr (inl (omega (arith, g.0), omega (arith, g.1))))
  next i (inr g) low high = ⊎_elim
      (λ l. let z : i ≡ 16 = omega (arith, g.0) in subst (λ n. day d n < day d (suc n)) (sym z) (omega (arith, (lawful 16 (lit< tt)).uf refl, (lawful 17 (lit< tt)).forwards refl)))
      (λ h. after i (omega (arith, g.1)) (inr (inr (omega arith, omega (arith, g.1)))))
      (cases_lt i 17)

  rising : (i j : ℕ) → Group from end → from ≤ i → i < j → j < end → day d i < day d j
  rising i zero g low h high = absurd (omega arith)
  rising i (suc j) g low h high =
      let n = next j g (omega arith) high in
      ⊎_elim (λ l. omega (arith, rising i j g low l (omega arith))) (λ e. let z : j ≡ i = omega arith in subst (λ k. day d k < day d (suc j)) z n) (cases_lt i j)

-- where a line with both neighbours lies, and what their figures are to it
pub record Between (d : List ℕ) (k i j : ℕ) (y z : ℤ) : Type 0 where
  pub before : day d i < day d k
  pub after : day d k < day d j
  pub lower : InRange k y
  pub upper : InRange k z

module _ (p : Page) (sound : Sound p) (k : ℕ) where
  shares : (from end i : ℕ) (y : ℤ) → Hole p from end k → from ≤ i → i < end → p.figure i ≡ Some y → InRange k y
  shares from end i y h low high there =
      let r = sound.ranged i y there in (
        subst (λ z. z ≤ℤ y) (group_one from end i k _ _ _ _ h.group low high h.low h.high) r.0,
        subst (λ z. y ≤ℤ z) (group_one from end i k _ _ _ _ h.group low high h.low h.high) r.1,
      )

  pub between : (from end i j : ℕ) (y z : ℤ) → Hole p from end k → Below p from k i y → Above p end k j z → Between p.days k i j y z
  between from end i j y z h a b = record {
    before = rising p.days sound.lawful from end i k h.group a.within a.under h.high;
    after = rising p.days sound.lawful from end k j h.group h.low b.over b.within;
    lower = shares from end i y h a.within (omega (arith, a.under, h.high)) a.there;
    upper = shares from end j z h (omega (arith, b.over, h.low)) b.within b.there;
  }

  line_ranged : (i j : ℕ) (y z : ℤ) → Between p.days k i j y z → InRange k (straight (day p.days i) y (day p.days j) z (day p.days k))
  line_ranged i j y z t = (
    straight_low (day p.days i) y (day p.days j) z (day p.days k) (omega (arith, t.before)) t.after (lowest k) t.lower.0 t.upper.0,
    straight_high (day p.days i) y (day p.days j) z (day p.days k) (omega (arith, t.before)) t.after (highest k) t.lower.1 t.upper.1,
  )

  filled_ranged : (o : Option ℤ) (x : ℤ) → Fills p k o → o ≡ Some x → InRange k x
  filled_ranged o x (kept v a e) s = sound.ranged k x (let u = s in cc)
  filled_ranged o x (drawn from end i j y z h a b e) s =
      let v : straight (day p.days i) y (day p.days j) z (day p.days k) ≡ x = cc in
      subst (InRange k) v (line_ranged i j y z (between from end i j y z h a b))
  filled_ranged o x (bare from end h n e) s = cc
  filled_ranged o x (apart n l e) s = cc

pub gap_sound : (p : Page) → Sound p → Sound (gap_page p)
gap_sound p sound = record {
  dated = sound.dated;
  long = sound.long;
  lawful = sound.lawful;
  ranged = λ k x. filled_ranged p sound k (gap_figure p k) x (fills p k);
  past = λ k h. sym (fills_is p k None (apart (sound.past k h) (inr h) refl));
}
