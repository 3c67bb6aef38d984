-- What one provider more adds to both sums of a board's line, and how large they are. Assumes nothing.
use Rattle.std.proofs.Common.{◌≡◌, ℕ, ◌+◌, ◌*◌, ◌<◌, ◌≤◌, [], length, get_or, ℤ, pos, negsuc, ◌+ℤ◌, ◌*ℤ◌, ◌≤ℤ◌, Some, None, Option, sym, ap, ◌∙◌, subst, add-one}
use Rattle.std.proofs.lemmas.List.{get_or-map}
use Rattle.days.proofs.Ranges.{range_wide}
use Rattle.sources.specs.Rounding.{floor_div}
use Rattle.boards.specs.declared.board.Board.{Board}
use Rattle.boards.specs.declared.provider.Provider.{Provider}
use Rattle.boards.specs.Quotes.{share_of, latest}
use Rattle.boards.specs.Mean.{counted, weighed, weight, total, shown}
use Rattle.boards.specs.Board.{shares_of, quotes_of}
use Rattle.boards.proofs.Means.{weight_le, total_wide, mean_ranged, shown_mean, shown_none}
use Rattle.boards.proofs.Pages.{shared, ranged}

module _ (b : Board) (k : ℕ) where
  abbrev pub shares : ℕ → ℕ
  shares = weight (shares_of b) (quotes_of b) k

  abbrev pub figures : ℕ → ℤ
  figures = total (shares_of b) (quotes_of b) k

  pub shares_small : (n : ℕ) → shares n ≤ 10000 * n
  shares_small = weight_le (shares_of b) (quotes_of b) k (shared b)

  pub figures_small : (n : ℕ) → ((negsuc 1999999 *ℤ pos (shares n)) ≤ℤ figures n) × (figures n ≤ℤ (pos 800000000 *ℤ pos (shares n)))
  figures_small = total_wide (shares_of b) (quotes_of b) k (λ p. ranged b p k)

  module _ (p : ℕ) (d : Provider) (here : p < length b.providers) (o : Option ℤ) (is : get_or (get_or b.providers p d).quotes k None ≡ o) where
    abbrev pub share : ℕ
    share = (get_or b.providers p d).share

    share_is : share_of (shares_of b) p ≡ share
    unfolding shares_of
    share_is = get_or-map (λ (x : Provider). x.share) b.providers p d 0 here

    quote_is : latest (quotes_of b) p k ≡ o
    unfolding quotes_of
    quote_is = ap (λ r. get_or r k None) (get_or-map (λ (x : Provider). x.quotes) b.providers p d [] here) ∙ is

    pub shares_more : shares (p + 1) ≡ shares p + counted share o
    shares_more = rw (add-one, quote_is, share_is)

    pub figures_more : figures (p + 1) ≡ figures p +ℤ weighed share o
    figures_more = rw (add-one, quote_is, share_is)

  -- what the quotient of both sums shows, and that it is as small as a figure
  pub record Quotient (x : ℤ) : Type 0 where
    pub is : shown (shares_of b) (quotes_of b) k ≡ Some x
    pub low : negsuc 1999999 ≤ℤ x
    pub high : x ≤ℤ pos 800000000

  module _ (z : ℤ) (w : ℕ) (totals : z ≡ figures 8) (weights : w ≡ shares 8) where
    pub quotient : (x : ℤ) → (0 < w) × (x ≡ floor_div z w) → Quotient x
    quotient x (some, is) =
        let some_share : 0 < shares 8 = subst (λ n. 0 < n) weights some in
        let e : floor_div (figures 8) (shares 8) ≡ x = sym (is ∙ ap (λ t. floor_div t w) totals ∙ ap (floor_div (figures 8)) weights) in
        let wide = range_wide k _ (mean_ranged (shares_of b) (quotes_of b) k (λ p. ranged b p k) some_share) in
        record {
          is = shown_mean (shares_of b) (quotes_of b) k some_share ∙ ap Some e;
          low = subst (λ t. negsuc 1999999 ≤ℤ t) e wide.0;
          high = subst (λ t. t ≤ℤ pos 800000000) e wide.1;
        }

    pub no_quotient : w ≡ 0 → shown (shares_of b) (quotes_of b) k ≡ None
    no_quotient e = shown_none (shares_of b) (quotes_of b) k (sym weights ∙ e)
