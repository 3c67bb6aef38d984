-- A board's page is sound. Assumes nothing.
use Rattle.std.proofs.Common.{◌≡◌, ℕ, zero, suc, ◌≤◌, true, List, [], ◌∷◌, map, get_or, ℤ, None, Option, refl, ap, arith}
use Rattle.std.proofs.lemmas.List.{get_or_past}
use Rattle.days.proofs.Rules.{lawful_from_bounded}
use Rattle.sources.specs.Page.{Sound}
use Rattle.boards.specs.declared.board.Board.{Board}
use Rattle.boards.specs.declared.provider.Provider.{Provider}
use Rattle.boards.specs.Quotes.{share_of, latest, fits}
use Rattle.boards.specs.Mean.{counted, weight}
use Rattle.boards.specs.Board.{shares_of, quotes_of, board_page}
use Rattle.boards.proofs.Means.{shown_none, shown_ranged}

-- what holds of every provider, and where there is none, holds at every place
of_each : {Y : Type 0} (P : Y → Type 0) (f : Provider → Y) (d : Y) → P d → ((x : Provider) → P (f x)) → (xs : List Provider) (i : ℕ) → P (get_or (map f xs) i d)
of_each P f d h e [] i = h
of_each P f d h e (x ∷ xs) zero = e x
of_each P f d h e (x ∷ xs) (suc i) = of_each P f d h e xs i

module _ (b : Board) where
  pub shared : (p : ℕ) → share_of (shares_of b) p ≤ 10000
  unfolding shares_of
  shared = of_each (λ s. s ≤ 10000) (λ x. x.share) 0 (omega arith) (λ x. x.shared) b.providers

  pub ranged : (p k : ℕ) → fits k (latest (quotes_of b) p k) ≡ true
  unfolding quotes_of
  ranged p k = of_each (λ r. fits k (get_or r k None) ≡ true) (λ x. x.quotes) [] refl (λ x. x.ranged k) b.providers p

  -- no provider quotes a line above 28
  pub latest_past : (p k : ℕ) → 29 ≤ k → latest (quotes_of b) p k ≡ None
  unfolding quotes_of
  latest_past p k h = of_each (λ r. get_or r k None ≡ None) (λ x. x.quotes) [] refl (λ x. get_or_past x.quotes k None (omega (arith, x.long))) b.providers p

weight_none : (s : List ℕ) (q : List (List (Option ℤ))) (k n : ℕ) → ((p : ℕ) → latest q p k ≡ None) → weight s q k n ≡ 0
weight_none s q k zero f = refl
weight_none s q k (suc n) f = let e = ap (counted (share_of s n)) (f n) in omega (arith, weight_none s q k n f, e)

pub board_sound : (b : Board) → Sound (board_page b)
board_sound b = record {
  dated = b.dated;
  long = b.days.long;
  lawful = lawful_from_bounded b.days.days b.days.lawful;
  ranged = λ k. shown_ranged (shares_of b) (quotes_of b) k (λ p. ranged b p k);
  past = λ k h. shown_none (shares_of b) (quotes_of b) k (weight_none (shares_of b) (quotes_of b) k 8 (λ p. latest_past b p k h));
}
