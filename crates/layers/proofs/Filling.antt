-- The page found by looking is the one page with its gaps filled. Assumes nothing.
use Rattle.std.proofs.Common.{◌≡◌, ℕ, ◌<◌, ◌≤◌, eqb, ◌⊎◌, ℤ, Some, None, Option, sym, refl, ap, ◌∙◌, subst, inl, inr, ⊎_elim, arith}
use Rattle.std.specs.Option.{option_map, option_or, option_zip}
use Rattle.std.proofs.lemmas.Bool.{cases_lt, cond-true, eq-eqb}
use Rattle.days.specs.Lines.{by_group}
use Rattle.days.proofs.Ranges.{rate_of, points_of, uf_of}
use Rattle.sources.specs.Page.{Page}
use Rattle.layers.specs.Gap.{Group, Hole, NoneBelow, NoneAbove, Fills, kept, drawn, bare, apart, Gapped}
use Rattle.layers.specs.GapPage.{below, above, line_at, bridged, gap_figure, gap_page}
use Rattle.layers.proofs.Seeking.{SoughtBelow, SoughtAbove, seek_below, seek_above, below_is, above_is, below_none, above_none}

module _ (p : Page) (k : ℕ) where
  abbrev over : Option ℤ
  over = by_group k None None (bridged p 8 16 k) (bridged p 16 29 k)

  -- the figure of a line that is there, of an absent line of a group, and of one of neither
  pub at_line : (x : ℤ) → p.figure k ≡ Some x → gap_figure p k ≡ Some x
  unfolding gap_figure
  at_line x e = ap (λ o. option_or o over) e

  at_hole : (from end : ℕ) → Hole p from end k → gap_figure p k ≡ bridged p from end k
  unfolding gap_figure
  at_hole from end h = ap (λ o. option_or o over) h.absent ∙ by_group_lem h.group
    where
      by_group_lem : Group from end → over ≡ bridged p from end k
      by_group_lem (inl g) = points_of k None None _ _ (omega (arith, g.0, h.low)) (omega (arith, g.1, h.high)) ∙ (λ t. bridged p (sym g.0 t) (sym g.1 t) k)
      by_group_lem (inr g) = uf_of k None None _ _ (omega (arith, g.0, h.low)) ∙ (λ t. bridged p (sym g.0 t) (sym g.1 t) k)

  no_neighbour : (from end : ℕ) → NoneBelow p from k ⊎ NoneAbove p end k → bridged p from end k ≡ None
  unfolding bridged
  no_neighbour from end (inl n) = ap (λ o. option_map (line_at p k) (option_zip o (above p end k))) (below_none p from k n)
  no_neighbour from end (inr n) = ap (λ o. option_map (line_at p k) (option_zip (below p from k) o)) (above_none p end k n) ∙ zip_none (below p from k)
    where
      zip_none : (o : Option (ℕ × ℤ)) → option_map (line_at p k) (option_zip o None) ≡ None
      zip_none None = refl
      zip_none (Some n) = refl

  pub at_apart : p.figure k ≡ None → (k < 8) ⊎ (29 ≤ k) → gap_figure p k ≡ None
  unfolding gap_figure
  at_apart e (inl l) =
      ap (λ o. option_or o over) e ∙ ⊎_elim (λ z. cond-true (eqb k 0) None _ (eq-eqb k 0 (omega arith))) (λ h. rate_of k None None (bridged p 8 16 k) (bridged p 16 29 k) h l) (cases_lt k 1)
  at_apart e (inr l) = ap (λ o. option_or o over) e ∙ uf_of k None None (bridged p 8 16 k) (bridged p 16 29 k) (omega arith) ∙ no_neighbour 16 29 (inr (λ i a b. absurd (omega arith)))

  -- a figure that fills the line is that figure
  pub fills_is : (o : Option ℤ) → Fills p k o → o ≡ gap_figure p k
  unfolding bridged
  fills_is o (kept x a e) = e ∙ sym (at_line x a)
  fills_is o (drawn from end i j y z h a b e) =
      e ∙ (λ t. option_map (line_at p k) (option_zip (sym (below_is p from k i y a) t) (sym (above_is p end k j z b) t))) ∙ sym (at_hole from end h)
  fills_is o (bare from end h n e) = e ∙ sym (at_hole from end h ∙ no_neighbour from end n)
  fills_is o (apart n l e) = e ∙ sym (at_apart n l)

  -- and it fills the line
  bridged_fills : (from end : ℕ) → Hole p from end k → Fills p k (bridged p from end k)
  unfolding bridged
  bridged_fills from end h = by_neighbours (below p from k) (above p end k) (seek_below p from k) (seek_above p end k)
    where
      by_neighbours : (a b : Option (ℕ × ℤ)) → SoughtBelow p from k a → SoughtAbove p end k b → Fills p k (option_map (line_at p k) (option_zip a b))
      by_neighbours None b f g = bare from end h (inl f) refl
      by_neighbours (Some i) None f g = bare from end h (inr g) refl
      by_neighbours (Some i) (Some j) f g = drawn from end i.0 j.0 i.1 j.1 h f g refl

  hole_fills : (from end : ℕ) → Hole p from end k → Fills p k (gap_figure p k)
  hole_fills from end h = subst (Fills p k) (sym (at_hole from end h)) (bridged_fills from end h)

  apart_fills : p.figure k ≡ None → (k < 8) ⊎ (29 ≤ k) → Fills p k (gap_figure p k)
  apart_fills e l = apart e l (at_apart e l)

  absent_fills : p.figure k ≡ None → Fills p k (gap_figure p k)
  absent_fills e =
      let points : 8 ≤ k → k < 16 → Fills p k (gap_figure p k) = λ l h. hole_fills 8 16 (record { group = inl (refl, refl); low = l; high = h; absent = e }) in
      let uf : 16 ≤ k → k < 29 → Fills p k (gap_figure p k) = λ l h. hole_fills 16 29 (record { group = inr (refl, refl); low = l; high = h; absent = e }) in
      let past : 16 ≤ k → Fills p k (gap_figure p k) = λ l. ⊎_elim (uf l) (λ h. apart_fills e (inr h)) (cases_lt k 29) in
      ⊎_elim (λ l. apart_fills e (inl l)) (λ l. ⊎_elim (points l) past (cases_lt k 16)) (cases_lt k 8)

  pub fills : Fills p k (gap_figure p k)
  fills = by_figure (p.figure k) refl
    where
      by_figure : (o : Option ℤ) → p.figure k ≡ o → Fills p k (gap_figure p k)
      by_figure (Some x) e = kept x e (at_line x e)
      by_figure None e = absent_fills e

pub gap_means : (p : Page) → Gapped p (gap_page p)
gap_means p = record { dated = refl; tabled = refl; filled = fills p }

pub gap_one : (p q : Page) → Gapped p q → q ≡ gap_page p
gap_one p q g t = record { valuation = g.dated t; days = g.tabled t; figure = λ k. fills_is p k (q.figure k) (g.filled k) t }
