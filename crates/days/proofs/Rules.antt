-- A line's bounds are the sentences of the lawful-day rule about it. Assumes nothing.
use Rattle.std.proofs.Common.{◌≡◌, ℕ, zero, suc, ◌+◌, ◌-◌, ◌<◌, ◌≤◌, min, Bool, true, ◌&&◌, eqb, ltb, leb, List, Some, None, Option, Decides, sym, refl, ap, subst, inl, inr, ⊎_elim, arith, MatchOption}
use Rattle.std.proofs.lemmas.Bool.{cond_both, cases_lt, eqb-true, eqb-false, ltb-false}
use Rattle.std.proofs.lemmas.Bool.Decides.{Decides-and, Decides-below_and, nat_tests}
use Rattle.days.specs.Days.{day, Follows, Reached, Ruled, Lawful, Breach}
use Rattle.days.specs.Bounds.{least, most, Bounded, bounded}

module _ (d : List ℕ) (k : ℕ) where
  most_600 : most d k ≤ 600
  most_600 =
      let P : ℕ → Type 0 = λ n. n ≤ 600 in
      cond_both (eqb k 0) _ _ P (λ _. omega arith)
      (λ _. cond_both (ltb k 8) _ _ P (λ _. omega arith) (λ _. cond_both (eqb k 16) _ _ P (λ _. omega arith) (λ _. omega arith)))

  least_follows : Follows k → least d k ≡ day d (k - 1) + 1
  least_follows (inl h) = grind (arith, nat_tests)
  least_follows (inr (inl h)) = grind (arith, nat_tests)
  least_follows (inr (inr h)) = grind (arith, nat_tests)

  most_reached : Reached k → most d k ≡ min 600 (day d 7)
  most_reached (inl h) = grind (arith, nat_tests)
  most_reached (inr h) = grind (arith, nat_tests)

at : (P : ℕ → Type 0) (k n : ℕ) → k ≡ n → P k → P n
at P k n e h = subst P e h

pub ruled_from_bounded : (d : List ℕ) (k : ℕ) → Bounded d k → Ruled d k
ruled_from_bounded d k b = record {
  limit = omega (arith, b.1, most_600 d k);
  spot = λ e. let c = at (Bounded d) k 0 e b in omega (arith, c.0, c.1);
  tip = λ e. (at (Bounded d) k 1 e b).0;
  tpm = λ e. let c = at (Bounded d) k 2 e b in omega (arith, c.0);
  first = ⊎_elim
      (λ e. let c = at (Bounded d) k 3 e b in subst (λ n. day d 2 < day d n) (sym e) (omega (arith, c.0)))
      (λ e. let c = at (Bounded d) k 8 e b in subst (λ n. day d 2 < day d n) (sym e) (omega (arith, c.0)));
  rising = λ h. omega (arith, b.0, least_follows d k h);
  uf = λ e. let c = at (Bounded d) k 16 e b in omega (arith, c.1);
  forwards = λ e. (at (Bounded d) k 17 e b).0;
  reach = λ h. omega (arith, b.1, most_reached d k h);
}

module _ (d : List ℕ) (k : ℕ) (line : k < 29) (r : Ruled d k) where
  follows : (k ≡ 0 → ⊥) → (k ≡ 1 → ⊥) → (k ≡ 2 → ⊥) → (k ≡ 3 → ⊥) → (k ≡ 8 → ⊥) → (k ≡ 16 → ⊥) → (k ≡ 17 → ⊥) → Follows k
  follows a b c e f g h = ⊎_elim
      (λ l. inl (omega arith, omega arith))
      (λ m. ⊎_elim (λ l. inr (inl (omega arith, omega arith))) (λ n. inr (inr (omega arith, omega arith))) (cases_lt k 16))
      (cases_lt k 8)

  reached : 8 ≤ k → (k ≡ 16 → ⊥) → Reached k
  reached h n = ⊎_elim (λ l. inl (h, omega arith)) (λ m. inr (omega arith, omega arith)) (cases_lt k 16)

  least_kept : least d k ≤ day d k
  least_kept =
      let P : ℕ → Type 0 = λ n. n ≤ day d k in
      cond_both (eqb k 0) _ _ P (λ e. let z = eqb-true k 0 e in subst (λ n. day d 2 ≤ day d n) (sym z) (omega (arith, r.spot z)))
      (λ a. cond_both (eqb k 1) _ _ P (λ e. let z = eqb-true k 1 e in subst (λ n. 1 ≤ day d n) (sym z) (r.tip z))
      (λ b. cond_both (eqb k 2) _ _ P (λ e. let z = eqb-true k 2 e in subst (λ n. day d 1 + 1 ≤ day d n) (sym z) (omega (arith, r.tpm z)))
      (λ c. cond_both (eqb k 3) _ _ P (λ e. omega (arith, r.first (inl (eqb-true k 3 e))))
      (λ f. cond_both (eqb k 8) _ _ P (λ e. omega (arith, r.first (inr (eqb-true k 8 e))))
      (λ g. cond_both (eqb k 16) _ _ P (λ e. omega arith)
      (λ h. cond_both (eqb k 17) _ _ P (λ e. let z = eqb-true k 17 e in subst (λ n. 1 ≤ day d n) (sym z) (r.forwards z))
      (λ i. omega (arith, r.rising (follows (eqb-false k 0 a) (eqb-false k 1 b) (eqb-false k 2 c) (eqb-false k 3 f) (eqb-false k 8 g) (eqb-false k 16 h) (eqb-false k 17 i))))))))))

  most_kept : day d k ≤ most d k
  most_kept =
      let P : ℕ → Type 0 = λ n. day d k ≤ n in
      cond_both (eqb k 0) _ _ P (λ e. let z = eqb-true k 0 e in let s = r.spot z in let l = r.limit in let j : day d k ≡ day d 0 = ap (day d) z in omega arith)
      (λ a. cond_both (ltb k 8) _ _ P (λ e. r.limit)
      (λ b. cond_both (eqb k 16) _ _ P (λ e. let z = eqb-true k 16 e in let s = r.uf z in let j : day d k ≡ day d 16 = ap (day d) z in omega arith)
      (λ c. let n = ltb-false k 8 b in let s = r.reach (reached n (eqb-false k 16 c)) in let l = r.limit in omega arith)))

  pub bounded_from_ruled : Bounded d k
  bounded_from_ruled = (least_kept, most_kept)

-- the test at every line below n
abbrev bounded_below : List ℕ → ℕ → Bool
bounded_below d zero = true
bounded_below d (suc n) = bounded d n && bounded_below d n

decides_leb : (a b : ℕ) → Decides (leb a b) (a ≤ b)
decides_leb a b = grind (arith, nat_tests)

pub decides_bounded : (d : List ℕ) (k : ℕ) → Decides (bounded d k) (Bounded d k)
decides_bounded d k =
    Decides-and (leb (least d k) (day d k)) (leb (day d k) (most d k)) (decides_leb (least d k) (day d k))
    (decides_leb (day d k) (most d k))

-- a table that passes the test at every line is bounded at every line
pub bounded_from_test : (d : List ℕ) → bounded_below d 29 ≡ true → (k : ℕ) → k < 29 → Bounded d k
bounded_from_test d e = (Decides-below_and (bounded d) (Bounded d) (bounded_below d) (decides_bounded d) refl (λ _. refl) 29).0 e

pub lawful_from_bounded : (d : List ℕ) → ((k : ℕ) → k < 29 → Bounded d k) → Lawful d
lawful_from_bounded d b k h = ruled_from_bounded d k (b k h)

-- what looking through the lines in their order finds
pub breach_found : (d : List ℕ) (o : Option ℕ) →
    MatchOption o ((k : ℕ) → 0 ≤ k → k < 29 → Bounded d k) (λ i. (0 ≤ i) × (i < 29) × (Bounded d i → ⊥) × ((k : ℕ) → 0 ≤ k → k < i → Bounded d k)) →
    MatchOption o (Lawful d) (Breach d)
breach_found d None h = lawful_from_bounded d (λ k. h k (omega arith))
breach_found d (Some i) h = record { place = h.1; fails = λ r. h.2 (bounded_from_ruled d i h.1 r); before = λ k l. ruled_from_bounded d k (h.3 k (omega arith) l) }
