-- What an array holds that is made by calls at each index in turn. Assumes nothing.
use Rattle.std.proofs.Common.{◌≡◌, ℕ, zero, suc, ◌+◌, ◌<◌, ◌≤◌, List, get_or, sym, subst, ⊎_elim, arith}
use Rattle.std.proofs.lemmas.Bool.{cases_lt}
use Rattle.std.specs.Array.{IsFromFnResult, IsFromFnResultFrom}
use Rattle.std.specs.Fn.{Called}
use denote.Param.Members.{Mut}

module _ {F B : Type 0} (g : Mut F (ℕ × Unit {0}) B) (f : F) (P : ℕ → B → Type 0) (one : (i : ℕ) (y : B) (q : F) → Called g f (i, tt) y q → (q ≡ f) × P i y) where
  made_from : (ys : List B) (d : B) (n i : ℕ) (p : F) → p ≡ f → IsFromFnResultFrom g p ys i n → (k : ℕ) → i ≤ k → k < i + n → P k (get_or ys k d)
  made_from ys d zero i p e r k a b = absurd (omega arith)
  made_from ys d (suc n) i p e r k a b =
      let o = one i r.1 r.0 (subst (λ x. Called g x (i, tt) r.1 r.0) e r.3) in
      ⊎_elim
      (λ l. made_from ys d n (i + 1) r.0 o.0 r.4 k (omega arith) (omega arith))
      (λ l. let z : i ≡ k = omega arith in subst (λ j. P j (get_or ys j d)) z (subst (P i) (sym (r.2.1 d)) o.1))
      (cases_lt i k)

  -- of each element holds what a call at its index gives
  pub made : (ys : List B) (d : B) (n : ℕ) → IsFromFnResult g f ys n → (k : ℕ) → k < n → P k (get_or ys k d)
  made ys d n r k l = made_from ys d n 0 f (λ i. f) r.each k (omega arith) (omega arith)
