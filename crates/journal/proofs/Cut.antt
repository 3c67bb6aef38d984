-- Where the first byte of a kind lies: what comes before it, and what from it on.
use Rattle.std.proofs.Common.{◌≡◌, ℕ, suc, ◌+◌, ◌≤◌, Bool, true, false, cond, not, ltb, List, [], ◌∷◌, length, take, drop, Some, None, Option, position, unwrap_or, refl, ap, ◌∙◌, arith}
use Rattle.std.proofs.lemmas.Bool.Decides.{nat_tests}
use Rattle.std.proofs.lemmas.List.Sums.{prefix_len-le-length}
use Rattle.std.specs.List.{position_or_len}
use Rattle.journal.specs.Speech.{before, since}

one_more : (n : ℕ) → 1 + n ≡ suc n
one_more n = omega arith

front : (is : ℕ → Bool) (bs : List ℕ) → take (position_or_len is bs) bs ≡ before is bs
front is [] = refl
front is (b ∷ bs) =
    elim (is b) as (λ v. take (cond (not v) (1 + position_or_len is bs) 0) (b ∷ bs) ≡ cond v [] (b ∷ before is bs)) [ true ↦ refl | false ↦ rw one_more (ap (λ l. b ∷ l) (front is bs)) ]

back : (is : ℕ → Bool) (bs : List ℕ) → drop (position_or_len is bs) bs ≡ since is bs
back is [] = refl
back is (b ∷ bs) =
    elim (is b) as (λ v. drop (cond (not v) (1 + position_or_len is bs) 0) (b ∷ bs) ≡ cond v (b ∷ bs) (since is bs)) [ true ↦ refl | false ↦ rw one_more (back is bs) ]

or_all : (n m : ℕ) → n ≤ m → unwrap_or (cond (ltb n m) (Some n) None) m ≡ n
or_all n m h = grind (arith, nat_tests)

-- a text is cut there
pub record Cut (is : ℕ → Bool) (bs : List ℕ) (n : ℕ) : Type 0 where
  pub front : take n bs ≡ before is bs
  pub back : drop n bs ≡ since is bs

pub cut : (is : ℕ → Bool) (bs : List ℕ) (r : Option ℕ) (n : ℕ) → r ≡ position is bs → n ≡ unwrap_or r (length bs) → Cut is bs n
cut is bs r n e u =
    let p : n ≡ position_or_len is bs = u ∙ ap (λ o. unwrap_or o (length bs)) e ∙ or_all _ _ (prefix_len-le-length (λ b. not (is b)) bs) in
    record { front = ap (λ k. take k bs) p ∙ front is bs; back = ap (λ k. drop k bs) p ∙ back is bs }
