-- The page made by the test is the one page with the reserve, and a sound one. Assumes nothing.
use Rattle.std.proofs.Common.{◌≡◌, ℕ, ◌+◌, ◌-◌, ◌≤◌, cond, not, ◌&&◌, ◌⊎◌, ℤ, is_some, Some, None, Decides, Option, sym, refl, ap, ◌∙◌, subst, inl, inr, ⊎_elim, arith}
use Rattle.std.specs.Option.{option_or}
use Rattle.std.proofs.lemmas.Bool.{cases_lt, cases_Bool, cond-true, cond_both}
use Rattle.std.proofs.lemmas.Bool.Decides.{Decides-and, Decides-like, Decides-below_or, not_from_Decides}
use Rattle.days.proofs.Ranges.{rate_of, points_of, uf_of}
use Rattle.sources.specs.Page.{Page, Sound}
use Rattle.layers.specs.Reserve.{Thin, Reserved}
use Rattle.layers.specs.ReservePage.{absent, gone, thin_among, thin, reserve_figure, reserve_page}

absent_decides : (o : Option ℤ) → Decides (not (is_some o)) (o ≡ None)
absent_decides (Some x) = (λ e. cc, λ e. cc)
absent_decides None = (λ _. refl, λ _. refl)

module _ (p : Page) where
  abbrev pub Row : ℕ → Type 0
  Row i = (p.figure i ≡ None) × (p.figure (i + 1) ≡ None) × (p.figure (i + 2) ≡ None)

  pub row_decides : (i : ℕ) → Decides (gone p i) (Row i)
  row_decides i =
      Decides-like (gone p i) (λ h. (h.0, h.1.0, h.1.1)) (λ h. (h.0, (h.1, h.2)))
      (Decides-and (absent p i) (absent p (i + 1) && absent p (i + 2)) (absent_decides (p.figure i))
      (Decides-and (absent p (i + 1)) (absent p (i + 2)) (absent_decides (p.figure (i + 1))) (absent_decides (p.figure (i + 2)))))

  pub thin_decides : Decides (thin p) (Thin p)
  unfolding thin
  thin_decides =
      Decides-like (thin p) (λ h. (8 + h.0, (omega arith, omega (arith, h.1)), h.2)) (λ h. (h.0 - 8, omega (arith, h.1.0, h.1.1), at h.0 h.1.0 h.2))
      (Decides-below_or (λ k. gone p (8 + k)) (λ k. Row (8 + k)) (thin_among p) (λ k. row_decides (8 + k)) refl (λ _. refl) 6)
    where
      at : (i : ℕ) → 8 ≤ i → Row i → Row (8 + (i - 8))
      at i h r = let e : i ≡ 8 + (i - 8) = omega arith in subst Row e r

  thin_cases : Thin p ⊎ (Thin p → ⊥)
  thin_cases = ⊎_elim (λ e. inl (thin_decides.0 e)) (λ e. inr (not_from_Decides (thin p) thin_decides e)) (cases_Bool (thin p))

abbrev Other : ℕ → Type 0
Other k = ((1 ≤ k) × (k ≤ 7)) ⊎ (16 ≤ k)

-- a line is the spot, a point, or another
by_line : {A : Type 0} (k : ℕ) → (k ≡ 0 → A) → (8 ≤ k → k ≤ 15 → A) → (Other k → A) → A
by_line k spot points other = ⊎_elim
    (λ l. ⊎_elim (λ z. spot (omega arith)) (λ h. other (inl (h, omega arith))) (cases_lt k 1))
    (λ h. ⊎_elim (λ l. points h (omega arith)) (λ g. other (inr g)) (cases_lt k 16))
    (cases_lt k 8)

module _ (p q : Page) where
  at_points : (k : ℕ) → 8 ≤ k → k ≤ 15 → reserve_figure p q k ≡ cond (thin p) (q.figure k) (p.figure k)
  at_points k l h = points_of k _ _ _ _ l (omega arith)

  pub points_lent : (k : ℕ) → 8 ≤ k → k ≤ 15 → Thin p → reserve_figure p q k ≡ q.figure k
  points_lent k l h t = at_points k l h ∙ cond-true (thin p) (q.figure k) (p.figure k) ((thin_decides p).1 t)

  pub points_kept : (k : ℕ) → 8 ≤ k → k ≤ 15 → (Thin p → ⊥) → reserve_figure p q k ≡ p.figure k
  points_kept k l h t = at_points k l h ∙ cond_both (thin p) (q.figure k) (p.figure k) (λ o. o ≡ p.figure k) (λ e. absurd (t ((thin_decides p).0 e))) (λ _. refl)

  pub others_kept : (k : ℕ) → Other k → reserve_figure p q k ≡ p.figure k
  others_kept k (inl h) = rate_of k _ _ _ _ h.0 (omega (arith, h.1))
  others_kept k (inr h) = uf_of k _ _ _ _ h

  pub reserve_means : Reserved p q (reserve_page p q)
  reserve_means = record {
    dated = refl;
    tabled = refl;
    spot = λ x e. ap (λ o. option_or o (q.figure 0)) e;
    spot_lent = λ e. ap (λ o. option_or o (q.figure 0)) e;
    points_lent = λ t k l h. points_lent k l h t;
    points = λ t k l h. points_kept k l h t;
    others = others_kept;
  }

  pub reserve_one : (r : Page) → Reserved p q r → r ≡ reserve_page p q
  reserve_one r a t = record { valuation = a.dated t; days = a.tabled t; figure = λ k. same k t }
    where
      spot_same : (o : Option ℤ) → p.figure 0 ≡ o → r.figure 0 ≡ reserve_figure p q 0
      spot_same (Some x) e = a.spot x e ∙ sym (reserve_means.spot x e)
      spot_same None e = a.spot_lent e ∙ sym (reserve_means.spot_lent e)

      same : (k : ℕ) → r.figure k ≡ reserve_figure p q k
      same k = by_line k
          (λ z. subst (λ n. r.figure n ≡ reserve_figure p q n) (sym z) (spot_same (p.figure 0) refl))
          (λ l h. ⊎_elim (λ t. a.points_lent t k l h ∙ sym (points_lent k l h t)) (λ t. a.points t k l h ∙ sym (points_kept k l h t)) (thin_cases p))
          (λ o. a.others k o ∙ sym (others_kept k o))

  -- every figure is one of the two pages'
  either : (k : ℕ) → (reserve_figure p q k ≡ p.figure k) ⊎ (reserve_figure p q k ≡ q.figure k)
  either k = by_line k
      (λ z. subst (λ n. (reserve_figure p q n ≡ p.figure n) ⊎ (reserve_figure p q n ≡ q.figure n)) (sym z) (either_spot (p.figure 0)))
      (λ l h. ⊎_elim (λ t. inr (points_lent k l h t)) (λ t. inl (points_kept k l h t)) (thin_cases p))
      (λ o. inl (others_kept k o))
    where
      either_spot : (o : Option ℤ) → (option_or o (q.figure 0) ≡ o) ⊎ (option_or o (q.figure 0) ≡ q.figure 0)
      either_spot (Some x) = inl refl
      either_spot None = inr refl

  pub reserve_sound : Sound p → Sound q → Sound (reserve_page p q)
  reserve_sound a b = record {
    dated = a.dated;
    long = a.long;
    lawful = a.lawful;
    ranged = λ k x e. ⊎_elim (λ h. a.ranged k x (sym h ∙ e)) (λ h. b.ranged k x (sym h ∙ e)) (either k);
    past = λ k h. others_kept k (inr (omega arith)) ∙ a.past k h;
  }
