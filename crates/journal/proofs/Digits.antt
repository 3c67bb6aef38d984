-- Digits whose number is too large for 32 bits.
use Rattle.std.proofs.Common.{◌≡◌, ℕ, ◌+◌, ◌-◌, ◌*◌, ◌^◌, ◌<◌, ◌≤◌, Bool, true, false, cond, ltb, List, [], ◌∷◌, length, get_or, drop, Some, None, Option, refl, ◌∙◌, arith}
use Rattle.std.proofs.lemmas.List.{at_drop_more}
use Rattle.std.proofs.lemmas.Bool.Decides.{nat_tests}
use Rattle.journal.specs.Decimal.{all_digits, value_from, natural_from}

grows : (n : ℕ) (bs : List ℕ) → n ≤ value_from n bs
grows n [] = omega arith
grows n (b ∷ bs) = omega (arith, grows (n * 10 + (b - 48)) bs)

unfit : (t : Bool) (v n : ℕ) → n ≤ v → 2 ^ 32 ≤ n → ◌≡◌ {A = Option ℕ} (cond t (cond (ltb v (2 ^ 32)) (Some v) None) None) None
unfit true v n h k = grind (arith, nat_tests)
unfit false v n h k = refl

-- a number that is too large with its next digit
with_digit : (n b : ℕ) (bs : List ℕ) → 2 ^ 32 ≤ n * 10 + (b - 48) → natural_from n (b ∷ bs) ≡ None
with_digit n b bs k = unfit (all_digits (b ∷ bs)) (value_from n (b ∷ bs)) (n * 10 + (b - 48)) (grows _ bs) k

pub too_large : (n i : ℕ) (w : List ℕ) → i < length w → 2 ^ 32 ≤ n * 10 + (get_or w i 0 - 48) → natural_from n (drop i w) ≡ None
too_large n i w h k = at_drop_more (natural_from n) w i 0 h ∙ with_digit n (get_or w i 0) (drop (i + 1) w) k
