-- Numbers as a journal writes them: one or more decimal digits, leading zeros allowed; a figure may have a minus before them. Assumes nothing.
use Rattle.std.specs.Prelude.{ℕ, zero, suc, ◌+◌, ◌-◌, ◌*◌, ◌^◌, Bool, true, false, cond, List, [], ◌∷◌, ℤ, pos, negsuc, Some, None, Option, ◌==◌, nat_le, nat_lt}
use Rattle.std.specs.Char.{is_ascii_digit}

abbrev pub all_digits : List ℕ → Bool
all_digits [] = true
all_digits (b ∷ bs) = cond (is_ascii_digit b) (all_digits bs) false

-- the value of digits that follow those of a number n
abbrev pub value_from : ℕ → List ℕ → ℕ
value_from n [] = n
value_from n (b ∷ bs) = value_from (n * 10 + (b - 48)) bs

-- a number n and the digits that follow it, where it all fits 32 bits
abbrev pub natural_from : ℕ → List ℕ → Option ℕ
natural_from n bs = cond (all_digits bs) (cond (nat_lt (value_from n bs) (2 ^ 32)) (Some (value_from n bs)) None) None

abbrev pub natural_of : List ℕ → Option ℕ
natural_of [] = None
natural_of (b ∷ bs) = natural_from 0 (b ∷ bs)

abbrev pub minus : ℕ → ℤ
minus zero = pos 0
minus (suc n) = negsuc n

-- a signed number whose size is at most a bound
abbrev pub signed : (ℕ → ℤ) → ℕ → Option ℕ → Option ℤ
signed sign most None = None
signed sign most (Some n) = cond (nat_le n most) (Some (sign n)) None

abbrev pub figure_of : List ℕ → Option ℤ
figure_of [] = None
figure_of (b ∷ bs) = cond (b == 45) (signed minus (2 ^ 31) (natural_of bs)) (signed pos (2 ^ 31 - 1) (natural_of (b ∷ bs)))
