-- The sums of a line's quotes: what one provider more adds, how large they are, and what their mean shows. Assumes nothing.
use Rattle.std.proofs.Common.{◌≡◌, ℕ, zero, suc, ◌+◌, ◌*◌, ◌<◌, ◌≤◌, true, eqb, List, ℤ, pos, negsuc, ◌+ℤ◌, ◌*ℤ◌, ◌≤ℤ◌, is_some, Some, None, Option, sym, refl, ap, ◌∙◌, subst, ⊎_elim, add-zero, arith}
use lib.IntN.{+ℤ_idr}
use Rattle.std.proofs.lemmas.Int.{ints}
use Rattle.std.proofs.lemmas.Bool.{cond_both, cond-true, cond-false, eqb-false, eq-eqb, ne_eqb, cases_lt}
use Rattle.days.specs.Lines.{InRange, lowest, highest}
use Rattle.days.proofs.Ranges.{range_from_test, range_wide}
use Rattle.sources.specs.Rounding.{floor_div}
use Rattle.sources.proofs.Floors.{floor_of, floor_low, floor_high, floor_one, low_more, high_more}
use Rattle.boards.specs.Quotes.{share_of, latest, fits}
use Rattle.boards.specs.Mean.{counted, weighed, weight, total, Counts, Shows, absent, mean, shown}

pub quote_range : (k : ℕ) (o : Option ℤ) (x : ℤ) → fits k o ≡ true → o ≡ Some x → InRange k x
quote_range k o x f e = range_from_test k x (subst (λ v. fits k v ≡ true) e f)

-- one provider more
low_one : (lo : ℤ) (o : Option ℤ) (z : ℤ) (w s : ℕ) → ((x : ℤ) → o ≡ Some x → lo ≤ℤ x) → (lo *ℤ pos w) ≤ℤ z → (lo *ℤ pos (w + counted s o)) ≤ℤ (z +ℤ weighed s o)
low_one lo None z w s e h = rw (add-zero, +ℤ_idr) h
low_one lo (Some x) z w s e h = low_more lo z x w s h (e x refl)

high_one : (hi : ℤ) (o : Option ℤ) (z : ℤ) (w s : ℕ) → ((x : ℤ) → o ≡ Some x → x ≤ℤ hi) → z ≤ℤ (hi *ℤ pos w) → (z +ℤ weighed s o) ≤ℤ (hi *ℤ pos (w + counted s o))
high_one hi None z w s e h = rw (add-zero, +ℤ_idr) h
high_one hi (Some x) z w s e h = high_more hi z x w s h (e x refl)

counted_le : (s : ℕ) (o : Option ℤ) → s ≤ 10000 → counted s o ≤ 10000
counted_le s None h = omega arith
counted_le s (Some x) h = h

module _ (s : List ℕ) (q : List (List (Option ℤ))) (k : ℕ) where
  total_low : (lo : ℤ) → ((p : ℕ) (x : ℤ) → latest q p k ≡ Some x → lo ≤ℤ x) → (n : ℕ) → (lo *ℤ pos (weight s q k n)) ≤ℤ total s q k n
  total_low lo f zero = omega (arith, ints)
  total_low lo f (suc n) = low_one lo (latest q n k) (total s q k n) (weight s q k n) (share_of s n) (f n) (total_low lo f n)

  total_high : (hi : ℤ) → ((p : ℕ) (x : ℤ) → latest q p k ≡ Some x → x ≤ℤ hi) → (n : ℕ) → total s q k n ≤ℤ (hi *ℤ pos (weight s q k n))
  total_high hi f zero = omega (arith, ints)
  total_high hi f (suc n) = high_one hi (latest q n k) (total s q k n) (weight s q k n) (share_of s n) (f n) (total_high hi f n)

  pub weight_le : ((p : ℕ) → share_of s p ≤ 10000) → (n : ℕ) → weight s q k n ≤ 10000 * n
  weight_le h zero = omega arith
  weight_le h (suc n) = omega (arith, weight_le h n, counted_le (share_of s n) (latest q n k) (h n))

  module _ (ranged : (p : ℕ) → fits k (latest q p k) ≡ true) where
    pub total_wide : (n : ℕ) → ((negsuc 1999999 *ℤ pos (weight s q k n)) ≤ℤ total s q k n) × (total s q k n ≤ℤ (pos 800000000 *ℤ pos (weight s q k n)))
    total_wide n = (
      total_low (negsuc 1999999) (λ p x e. (range_wide k x (quote_range k (latest q p k) x (ranged p) e)).0) n,
      total_high (pos 800000000) (λ p x e. (range_wide k x (quote_range k (latest q p k) x (ranged p) e)).1) n,
    )

    pub mean_ranged : 0 < weight s q k 8 → InRange k (floor_div (total s q k 8) (weight s q k 8))
    mean_ranged h =
        let f = floor_of (total s q k 8) (weight s q k 8) h in (
          floor_low (total s q k 8) (weight s q k 8) _ (lowest k) f (total_low (lowest k) (λ p x e. (quote_range k (latest q p k) x (ranged p) e).0) 8),
          floor_high (total s q k 8) (weight s q k 8) _ (highest k) h f (total_high (highest k) (λ p x e. (quote_range k (latest q p k) x (ranged p) e).1) 8),
        )

    pub shown_ranged : (x : ℤ) → shown s q k ≡ Some x → InRange k x
    shown_ranged x = cond_both (eqb (weight s q k 8) 0) None (Some (floor_div (total s q k 8) (weight s q k 8))) (λ o. o ≡ Some x → InRange k x)
        (λ e f. absurd (let z : ◌≡◌ {A = ℕ} 0 1 = cc in omega arith))
        (λ e f. let n = eqb-false (weight s q k 8) 0 e in let g : floor_div (total s q k 8) (weight s q k 8) ≡ x = cc in subst (InRange k) g (mean_ranged (omega arith)))

-- where the sum of the shares comes from
counting : (s : ℕ) (o : Option ℤ) → 0 < counted s o → (0 < s) × (is_some o ≡ true)
counting s None h = absurd (omega arith)
counting s (Some x) h = (h, refl)

counting_back : (s : ℕ) (o : Option ℤ) → 0 < s → is_some o ≡ true → 0 < counted s o
counting_back s None h e = absurd (let z : ◌≡◌ {A = ℕ} 0 1 = cc in omega arith)
counting_back s (Some x) h e = h

module _ (s : List ℕ) (q : List (List (Option ℤ))) (k : ℕ) where
  from_weight : (n : ℕ) → n ≤ 8 → 0 < weight s q k n → (p : ℕ) × Counts s q k p
  from_weight zero l h = absurd (omega arith)
  from_weight (suc n) l h = ⊎_elim
      (λ g. from_weight n (omega arith) g)
      (λ g. let c = counting (share_of s n) (latest q n k) (omega arith) in (n, (omega arith, c.0, c.1)))
      (cases_lt 0 (weight s q k n))

  to_weight : (p n : ℕ) → p < n → 0 < share_of s p → is_some (latest q p k) ≡ true → 0 < weight s q k n
  to_weight p zero l h e = absurd (omega arith)
  to_weight p (suc n) l h e = ⊎_elim
      (λ g. omega (arith, to_weight p n g h e))
      (λ g. let z : p ≡ n = omega arith in omega (arith, subst (λ i. 0 < counted (share_of s i) (latest q i k)) z (counting_back (share_of s p) (latest q p k) h e)))
      (cases_lt p n)

  pub weight_pos : (p : ℕ) → Counts s q k p → 0 < weight s q k 8
  weight_pos p c = to_weight p 8 c.0 c.1 c.2

  pub shown_mean : 0 < weight s q k 8 → shown s q k ≡ Some (floor_div (total s q k 8) (weight s q k 8))
  shown_mean h = cond-false (eqb (weight s q k 8) 0) None _ (ne_eqb (weight s q k 8) 0 (λ e. omega arith))

  pub shown_none : weight s q k 8 ≡ 0 → shown s q k ≡ None
  shown_none e = cond-true (eqb (weight s q k 8) 0) None _ (eq-eqb (weight s q k 8) 0 e)

  -- a line shows this, and nothing else
  pub shows : Shows s q k (shown s q k)
  shows = ⊎_elim
      (λ h. let f = from_weight 8 (omega arith) h in mean f.0 _ f.1 (floor_of (total s q k 8) (weight s q k 8) h) (shown_mean h))
      (λ h. absent (λ p c. omega (arith, weight_pos p c)) (shown_none (omega arith)))
      (cases_lt 0 (weight s q k 8))

  pub shows_one : (o : Option ℤ) → Shows s q k o → o ≡ shown s q k
  shows_one o (absent n e) = e ∙ sym (shown_none (⊎_elim (λ h. let f = from_weight 8 (omega arith) h in absurd (n f.0 f.1)) (λ h. omega arith) (cases_lt 0 (weight s q k 8))))
  shows_one o (mean p x c f e) =
      let h = weight_pos p c in
      e ∙ ap Some (floor_one (total s q k 8) (weight s q k 8) x _ f (floor_of (total s q k 8) (weight s q k 8) h)) ∙ sym (shown_mean h)
