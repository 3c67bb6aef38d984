-- A quotient rounded down is one number, and lies where the whole number of times does. Assumes nothing.
use Rattle.std.proofs.Common.{◌≡◌, ℕ, ◌+◌, ◌*◌, ◌/◌, ◌<◌, ◌≤◌, ℤ, pos, negsuc, ◌+ℤ◌, ◌*ℤ◌, ◌≤ℤ◌, ap, mul-le-mul_right, mod-lt, suc-mul, add-mul, mul-le-mul_left, mul-add, arith}
use borrow.Author.Differences.{up, down, le_out}
use Rattle.std.proofs.lemmas.Nat.{div-add-mod'}
use Rattle.std.proofs.lemmas.Int.{ints, by_lt_z}
use Rattle.sources.specs.Rounding.{Floor, floor_div}

times_mono : (a b : ℤ) (n : ℕ) → a ≤ℤ b → (a *ℤ pos n) ≤ℤ (b *ℤ pos n)
times_mono a b n h =
    let m : (up a + down b) * n ≤ (up b + down a) * n = mul-le-mul_right n (le_out a b h) in
    omega (arith, ints, add-mul (up a) (down b) n, add-mul (up b) (down a) n)

times_next : (a : ℤ) (n : ℕ) → (a +ℤ pos 1) *ℤ pos n ≡ (a *ℤ pos n) +ℤ pos n
times_next a n =
    let r = a +ℤ pos 1 in
    let s : up r + down a ≡ (down r + up a) + 1 = omega (arith, ints) in
    let m : (up r + down a) * n ≡ ((down r + up a) + 1) * n = ap (λ k. k * n) s in
    omega (arith, ints, add-mul (up r) (down a) n, add-mul (down r + up a) 1 n, add-mul (down r) (up a) n)

pub floor_of : (z : ℤ) (n : ℕ) → 0 < n → Floor z n (floor_div z n)
floor_of (pos a) n h = let e = div-add-mod' a n in let m = mod-lt a h in let d = times_next (pos (a / n)) n in record { reached = omega (arith, ints); next = omega (arith, ints) }
floor_of (negsuc a) n h = let e = div-add-mod' a n in let m = mod-lt a h in let d = times_next (negsuc (a / n)) n in let s = suc-mul (a / n) n in record { reached = omega (arith, ints); next = omega (arith, ints) }

pub floor_low : (z : ℤ) (n : ℕ) (q lo : ℤ) → Floor z n q → (lo *ℤ pos n) ≤ℤ z → lo ≤ℤ q
floor_low z n q lo f h =
    by_lt_z q lo
    (λ l. let m = times_mono (q +ℤ pos 1) lo n (omega (arith, ints)) in let g = f.next in absurd (omega (arith, ints)))
    (λ g. g)

pub floor_high : (z : ℤ) (n : ℕ) (q hi : ℤ) → 0 < n → Floor z n q → z ≤ℤ (hi *ℤ pos n) → q ≤ℤ hi
floor_high z n q hi some f h =
    by_lt_z hi q
    (λ l. let m = times_mono (hi +ℤ pos 1) q n (omega (arith, ints)) in let g = f.reached in let e = times_next hi n in absurd (omega (arith, ints)))
    (λ g. g)

pub floor_one : (z : ℤ) (n : ℕ) (q r : ℤ) → Floor z n q → Floor z n r → q ≡ r
floor_one z n q r f g =
    let a = floor_low z n r q g f.reached in
    let b = floor_low z n q r f g.reached in
    omega (arith, ints)

-- a sum of weighed figures and the sum of their weights, with one figure more
pub low_more : (lo z x : ℤ) (w s : ℕ) → (lo *ℤ pos w) ≤ℤ z → lo ≤ℤ x → (lo *ℤ pos (w + s)) ≤ℤ (z +ℤ pos s *ℤ x)
low_more lo z x w s h k =
    let m : s * (up lo + down x) ≤ s * (up x + down lo) = mul-le-mul_left s (le_out lo x k) in
    omega (arith, ints, mul-add (up lo) w s, mul-add (down lo) w s, mul-add s (up lo) (down x), mul-add s (up x) (down lo))

pub high_more : (hi z x : ℤ) (w s : ℕ) → z ≤ℤ (hi *ℤ pos w) → x ≤ℤ hi → (z +ℤ pos s *ℤ x) ≤ℤ (hi *ℤ pos (w + s))
high_more hi z x w s h k =
    let m : s * (up x + down hi) ≤ s * (up hi + down x) = mul-le-mul_left s (le_out x hi k) in
    omega (arith, ints, mul-add (up hi) w s, mul-add (down hi) w s, mul-add s (up x) (down hi), mul-add s (up hi) (down x))
