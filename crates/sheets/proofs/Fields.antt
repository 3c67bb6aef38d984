-- Words and what they hold, both ways. Assumes nothing.
use Rattle.std.proofs.Common.{◌≡◌, ℕ, ◌^◌, ◌<◌, ◌≤◌, ℤ, pos, ◌+ℤ◌, ◌-ℤ◌, nat_abs, ◌≤ℤ◌, sym, ap, ◌∙◌, subst, ⊎_elim, arith}
use Rattle.std.proofs.lemmas.Int.{ints}
use Rattle.std.proofs.lemmas.Bool.{cases_lt}
use Rattle.days.proofs.Ranges.{rate_of, points_of, uf_of}
use Rattle.days.specs.Lines.{lowest, highest, InRange}
use Rattle.sheets.specs.Encoding.{of_kind, head_word, figure_word}
use Rattle.sheets.specs.Words.{kind, load, line_of, spare_of, day_of, raise, figure_of}

pub kind_of : (k n : ℕ) → k < 4 → n < 2 ^ 30 → kind (of_kind k n) ≡ k
kind_of k n h l = omega arith

pub load_of : (k n : ℕ) → k < 4 → n < 2 ^ 30 → load (of_kind k n) ≡ n
load_of k n h l = omega arith

pub of_kind_lem : (w : ℕ) → w ≡ of_kind (kind w) (load w)
of_kind_lem w = omega arith

-- a head with its line, its day and no spare bit is that line's head word
pub head_is : (k w : ℕ) → kind w ≡ 0 → line_of w ≡ k → spare_of w ≡ 0 → w ≡ head_word k (day_of w)
head_is k w a b c = omega arith

module _ (k d : ℕ) (low : k < 29) (small : d < 65536) where
  pub head_kind : kind (head_word k d) ≡ 0
  head_kind = omega arith

  pub head_line : line_of (head_word k d) ≡ k
  head_line = omega arith

  pub head_spare : spare_of (head_word k d) ≡ 0
  head_spare = omega arith

  pub head_day : day_of (head_word k d) ≡ d
  head_day = omega arith

-- a figure word is that of the figure that it tells
back_up : (a b : ℕ) → nat_abs ((pos a -ℤ pos b) +ℤ pos b) ≡ a
back_up a b = omega (arith, ints)

pub figure_is : (k w : ℕ) → kind w ≡ 1 → w ≡ figure_word k (figure_of k w)
figure_is k w e = let b = back_up (load w) (raise k) in omega arith

-- a figure in range stands raised, and fits thirty bits
record Raised (x : ℤ) (u : ℕ) : Type 0 where
  whole : x +ℤ pos u ≡ pos (nat_abs (x +ℤ pos u))
  fits : nat_abs (x +ℤ pos u) < 2 ^ 30

raised : (x lo hi : ℤ) (u : ℕ) → lo ≤ℤ x → x ≤ℤ hi → pos 0 ≤ℤ (lo +ℤ pos u) → hi ≤ℤ pos 1000000000 → u ≤ 2000000 → Raised x u
raised x lo hi u a b c d e = record { whole = omega (arith, ints); fits = omega (arith, ints) }

module _ (k : ℕ) (x : ℤ) (r : InRange k x) where
  -- in a group of lines
  group : (lo hi : ℤ) (u : ℕ) → lowest k ≡ lo → highest k ≡ hi → raise k ≡ u → pos 0 ≤ℤ (lo +ℤ pos u) → hi ≤ℤ pos 1000000000 → u ≤ 2000000 → Raised x (raise k)
  group lo hi u a b c d e f =
      subst (Raised x) (sym c) (raised x lo hi u (subst (λ z. z ≤ℤ x) a r.0) (subst (λ z. x ≤ℤ z) b r.1) d e f)

  raised_in_range : Raised x (raise k)
  raised_in_range =
      ⊎_elim
      (λ (l : k < 8).
      ⊎_elim
      (λ (z : k < 1). let e : k ≡ 0 = omega arith in group _ _ _ (ap lowest e) (ap highest e) (ap raise e) (omega (arith, ints)) (omega (arith, ints)) (omega arith))
      (λ (n : 1 ≤ k). group _ _ _ (rate_of k _ _ _ _ n l) (rate_of k _ _ _ _ n l) (rate_of k _ _ _ _ n l) (omega (arith, ints)) (omega (arith, ints)) (omega arith))
      (cases_lt k 1))
      (λ (h : 8 ≤ k).
      ⊎_elim
      (λ (l : k < 16). group _ _ _ (points_of k _ _ _ _ h l) (points_of k _ _ _ _ h l) (points_of k _ _ _ _ h l) (omega (arith, ints)) (omega (arith, ints)) (omega arith))
      (λ (n : 16 ≤ k). group _ _ _ (uf_of k _ _ _ _ n) (uf_of k _ _ _ _ n) (uf_of k _ _ _ _ n) (omega (arith, ints)) (omega (arith, ints)) (omega arith))
      (cases_lt k 16))
      (cases_lt k 8)

  pub figure_kind : kind (figure_word k x) ≡ 1
  figure_kind = kind_of 1 _ (omega arith) raised_in_range.fits

  pub figure_back : figure_of k (figure_word k x) ≡ x
  figure_back =
      let g = raised_in_range in
      ap (λ n. pos n -ℤ pos (raise k)) (load_of 1 _ (omega arith) g.fits) ∙ ap (λ z. z -ℤ pos (raise k)) (sym g.whole) ∙ omega (arith, ints)
