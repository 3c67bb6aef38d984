-- What a quote put on a board, or taken away, moves of its page. Assumes nothing.
use Rattle.std.proofs.Common.{◌≡◌, ℕ, zero, suc, ◌+◌, ◌<◌, ◌≤◌, true, List, [], length, map, get_or, set, ℤ, ◌+ℤ◌, is_some, Some, Option, Result, MatchResult, sym, refl, ap, ◌∙◌, subst, arith}
use Rattle.std.proofs.Math.Bridge.{le_prop}
use Rattle.std.proofs.Math.Nat.{ℕ_set}
use Rattle.std.proofs.Math.Seq.{map-set_same}
use Rattle.std.proofs.lemmas.Result.{MatchResult-weaker}
use Rattle.std.proofs.lemmas.List.{map-set, set-get_or, get_or-map, length-map}
use Rattle.days.specs.declared.table.DayTable.{DayTable}
use Rattle.sources.specs.Page.{Present}
use Rattle.boards.specs.declared.board.Board.{Board}
use Rattle.boards.specs.declared.provider.Provider.{Provider}
use Rattle.boards.specs.Quotes.{share_of, latest}
use Rattle.boards.specs.Mean.{counted, weighed, weight, total, mean_of, shown}
use Rattle.boards.specs.Board.{shares_of, quotes_of, board_page, OnlyQuote, OnlyLine}
use Rattle.boards.proofs.Puts.{put, put_here, put_others}
use Rattle.boards.proofs.Means.{weight_pos, shown_mean}

module _ (s : List ℕ) (q r : List (List (Option ℤ))) (k : ℕ) (same : (p : ℕ) → latest r p k ≡ latest q p k) where
  weight_same : (n : ℕ) → weight s r k n ≡ weight s q k n
  weight_same zero = refl
  weight_same (suc n) = λ i. weight_same n i + counted (share_of s n) (same n i)

  total_same : (n : ℕ) → total s r k n ≡ total s q k n
  total_same zero = refl
  total_same (suc n) = λ i. total_same n i +ℤ weighed (share_of s n) (same n i)

  pub shown_same : shown s r k ≡ shown s q k
  shown_same = λ i. mean_of (total_same 8 i) (weight_same 8 i)

-- one provider of a board's changed
module _ (b : Board) (ps : List Provider) (v : b.valuation ≤ 100000) (l : length ps ≡ 8) (p : ℕ) (x w : Provider) (now : ps ≡ set b.providers p w) where
  abbrev pub before : Provider
  before = get_or b.providers p x

  abbrev pub changed : Board
  changed = record { valuation = b.valuation; days = b.days; providers = ps; dated = v; eight = l }

  nothing_moved : w ≡ before → changed ≡ b
  nothing_moved e =
      subst (λ qs. (m : length qs ≡ 8) → ◌≡◌ {A = Board} (record { valuation = b.valuation; days = b.days; providers = qs; dated = v; eight = m }) b)
      (sym (now ∙ ap (set b.providers p) e ∙ set-get_or b.providers p x))
      (λ m i. record { valuation = b.valuation; days = b.days; providers = b.providers; dated = le_prop v b.dated i; eight = ℕ_set _ _ m b.eight i })
      l

  only_quote : (k : ℕ) (o : Option ℤ) → p < 8 → w.share ≡ before.share → (k < 29) × (w.quotes ≡ set before.quotes k o) → OnlyQuote b changed p k o
  unfolding shares_of quotes_of
  only_quote k o h share (l, quotes) =
      let in_board : p < length b.providers = omega (arith, b.eight) in
      let row : before.quotes ≡ get_or (quotes_of b) p [] = sym (get_or-map (λ (y : Provider). y.quotes) b.providers p x [] in_board) in
      let all : quotes_of changed ≡ put (quotes_of b) p k o = ap (map (λ (y : Provider). y.quotes)) now ∙ map-set (λ (y : Provider). y.quotes) b.providers p w ∙ ap (set (quotes_of b) p) (quotes ∙ ap (λ r. set r k o) row) in
      record {
        here = ap (λ q. latest q p k) all ∙ put_here (quotes_of b) p k o (simp length-map in_board) (subst (λ r. k < length r) row (omega (arith, before.long)));
        others = λ i j ne. ap (λ q. latest q i j) all ∙ put_others (quotes_of b) p k o i j ne;
        dated = refl;
        tabled = refl;
        shared = ap (map (λ (y : Provider). y.share)) now ∙ map-set_same (λ (y : Provider). y.share) b.providers p w x share;
      }

  pub moved : {A E : Type 0} (r : Result A E) (k : ℕ) (o : Option ℤ) → p < 8 → w.share ≡ before.share → MatchResult r (λ _. (k < 29) × (w.quotes ≡ set before.quotes k o)) (λ _. w ≡ before) → MatchResult r (λ _. OnlyQuote b changed p k o) (λ _. changed ≡ b)
  moved r k o h share m = MatchResult-weaker r m (λ _ q. only_quote k o h share q) (λ _ e. nothing_moved e)

module _ (b a : Board) (p k : ℕ) (o : Option ℤ) (only : OnlyQuote b a p k o) where
  pub only_line : OnlyLine (board_page b) (board_page a) k
  only_line = record {
    dated = only.dated;
    tabled = ap (λ (d : DayTable). d.days) only.tabled;
    others = λ j ne. ap (λ s. shown s (quotes_of a) j) only.shared ∙ shown_same (shares_of b) (quotes_of b) (quotes_of a) j (λ i. only.others i j (λ _ e. ne e));
  }

  -- a quote that counts makes its line present
  pub now_present : (x : ℤ) → o ≡ Some x → p < 8 → 0 < share_of (shares_of b) p → Present (board_page a) k
  now_present x e h share =
      let there : is_some (latest (quotes_of a) p k) ≡ true = ap is_some (only.here ∙ e) in
      ap is_some (shown_mean (shares_of a) (quotes_of a) k (weight_pos (shares_of a) (quotes_of a) k p (h, subst (λ s. 0 < share_of s p) (sym only.shared) share, there)))
