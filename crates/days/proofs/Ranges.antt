-- The ranges of the lines' figures: as a test, group by group, and how wide they are at most. Assumes nothing.
use Rattle.std.proofs.Common.{◌≡◌, ℕ, ◌<◌, ◌≤◌, true, eqb, ltb, ℤ, pos, negsuc, ◌≤ℤ◌, ◌∙◌, arith}
use lib.Signed.{le_z}
use Rattle.std.proofs.lemmas.Int.{ints}
use Rattle.std.proofs.lemmas.Bool.{and_parts, and_from, cond-true, cond-false, cond_both, lt-ltb, le-ltb, ne_eqb}
use Rattle.days.specs.Lines.{by_group, lowest, highest, InRange, in_range}

pub range_from_test : (k : ℕ) (x : ℤ) → in_range k x ≡ true → InRange k x
range_from_test k x e =
    let p = and_parts (le_z (lowest k) x) (le_z x (highest k)) e in
    let a = p.0 in
    let b = p.1 in
    (omega (arith, ints), omega (arith, ints))

pub test_from_range : (k : ℕ) (x : ℤ) → InRange k x → in_range k x ≡ true
test_from_range k x r = let a = r.0 in let b = r.1 in and_from (le_z (lowest k) x) (le_z x (highest k)) (grind (arith, ints)) (grind (arith, ints))

pub rate_of : {A : Type 0} (k : ℕ) (a b c d : A) → 1 ≤ k → k < 8 → by_group k a b c d ≡ b
rate_of k a b c d h l = cond-false (eqb k 0) a _ (ne_eqb k 0 (λ e. omega arith)) ∙ cond-true (ltb k 8) b _ (lt-ltb k 8 l)

pub points_of : {A : Type 0} (k : ℕ) (a b c d : A) → 8 ≤ k → k < 16 → by_group k a b c d ≡ c
points_of k a b c d h l =
    cond-false (eqb k 0) a _ (ne_eqb k 0 (λ e. omega arith)) ∙ cond-false (ltb k 8) b _ (le-ltb k 8 h) ∙ cond-true (ltb k 16) c _ (lt-ltb k 16 l)

pub uf_of : {A : Type 0} (k : ℕ) (a b c d : A) → 16 ≤ k → by_group k a b c d ≡ d
uf_of k a b c d h =
    cond-false (eqb k 0) a _ (ne_eqb k 0 (λ e. omega arith)) ∙ cond-false (ltb k 8) b _ (le-ltb k 8 (omega arith)) ∙ cond-false (ltb k 16) c _ (le-ltb k 16 h)

by_each : {A : Type 0} (P : A → Type 0) (k : ℕ) (a b c d : A) → P a → P b → P c → P d → P (by_group k a b c d)
by_each P k a b c d u v w x =
    cond_both (eqb k 0) a _ P (λ _. u) (λ _. cond_both (ltb k 8) b _ P (λ _. v) (λ _. cond_both (ltb k 16) c d P (λ _. w) (λ _. x)))

-- every range lies in the widest
pub range_wide : (k : ℕ) (x : ℤ) → InRange k x → (negsuc 1999999 ≤ℤ x) × (x ≤ℤ pos 800000000)
range_wide k x r =
    let a = r.0 in
    let b = r.1 in
    let l = by_each (λ z. negsuc 1999999 ≤ℤ z) k (pos 4000000) (pos 0) (negsuc 1999999) (pos 200000000) (omega (arith, ints)) (omega (arith, ints)) (omega (arith, ints)) (omega (arith, ints)) in
    let h = by_each (λ z. z ≤ℤ pos 800000000) k (pos 20000000) (pos 500000) (pos 2000000) (pos 800000000) (omega (arith, ints)) (omega (arith, ints)) (omega (arith, ints)) (omega (arith, ints)) in
    (omega (arith, ints), omega (arith, ints))
