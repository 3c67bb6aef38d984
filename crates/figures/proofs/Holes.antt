-- The worked hole: what a board with two quotes around it shows, and how Gap fills it. Assumes nothing.
use Rattle.std.proofs.Common.{◌≡◌, ℕ, zero, suc, List, [], ◌∷◌, ◌++◌, replicate, ℤ, negsuc, Some, None, Option, sym, refl, ap, ◌∙◌, inl, arith}
use Rattle.days.specs.Days.{day, blank_days}
use Rattle.days.specs.declared.table.DayTable.{DayTable}
use Rattle.boards.specs.declared.board.Board.{Board}
use Rattle.boards.specs.Quotes.{latest}
use Rattle.boards.specs.Mean.{shown}
use Rattle.boards.specs.Board.{shares_of, quotes_of, board_page, Fresh, OnlyQuote}
use Rattle.boards.proofs.Moves.{shown_same}
use Rattle.layers.specs.Gap.{straight, drawn}
use Rattle.layers.specs.GapPage.{gap_figure}
use Rattle.layers.proofs.Filling.{fills_is}

shares : List ℕ
shares = 1 ∷ replicate 7 0

quotes : List (List (Option ℤ))
quotes = (replicate 9 None ++ (Some (negsuc 0) ∷ None ∷ Some (negsuc 1) ∷ [])) ∷ []

module _ (d : DayTable) (a b c : Board) (blank : d.days ≡ blank_days) (new : Fresh 0 d (1 ∷ replicate 7 0) a) (one : OnlyQuote a b 0 9 (Some (negsuc 0))) (two : OnlyQuote b c 0 11 (Some (negsuc 1))) where
  shared : shares_of c ≡ shares
  unfolding shares
  shared = two.shared ∙ one.shared ∙ new.shared

  tabled : c.days.days ≡ blank_days
  tabled = ap (λ (t : DayTable). t.days) (two.tabled ∙ one.tabled ∙ new.tabled) ∙ blank

  other : (p k : ℕ) → (p ≡ 0 → k ≡ 9 → ⊥) → (p ≡ 0 → k ≡ 11 → ⊥) → latest (quotes_of c) p k ≡ None
  other p k f g = two.others p k g ∙ one.others p k f ∙ new.empty p k

  at_9 : (p : ℕ) → latest (quotes_of c) p 9 ≡ latest quotes p 9
  unfolding quotes
  at_9 zero = two.others 0 9 (λ _ e. omega arith) ∙ one.here
  at_9 (suc p) = other (suc p) 9 (λ e _. omega arith) (λ e _. omega arith)

  at_10 : (p : ℕ) → latest (quotes_of c) p 10 ≡ latest quotes p 10
  unfolding quotes
  at_10 zero = other 0 10 (λ _ e. omega arith) (λ _ e. omega arith)
  at_10 (suc p) = other (suc p) 10 (λ e _. omega arith) (λ e _. omega arith)

  at_11 : (p : ℕ) → latest (quotes_of c) p 11 ≡ latest quotes p 11
  unfolding quotes
  at_11 zero = two.here
  at_11 (suc p) = other (suc p) 11 (λ e _. omega arith) (λ e _. omega arith)

  figure : (k : ℕ) → ((p : ℕ) → latest (quotes_of c) p k ≡ latest quotes p k) → (board_page c).figure k ≡ shown shares quotes k
  figure k same = ap (λ s. shown s (quotes_of c) k) shared ∙ shown_same shares quotes (quotes_of c) k same

  pub filled : gap_figure (board_page c) 10 ≡ Some (negsuc 1)
  unfolding shares quotes
  filled = sym (fills_is (board_page c) 10 (Some (negsuc 1)) (drawn 8 16 9 11 (negsuc 0) (negsuc 1)
      (record { group = inl (refl, refl); low = omega arith; high = omega arith; absent = figure 10 at_10 })
      (record { within = omega arith; under = omega arith; there = figure 9 at_9; nearest = λ i l h. absurd (omega arith) })
      (record { over = omega arith; within = omega arith; there = figure 11 at_11; nearest = λ i l h. absurd (omega arith) })
      (ap (λ (t : List ℕ). Some (straight (day t 9) (negsuc 0) (day t 11) (negsuc 1) (day t 10))) (sym tabled))))
