-- What one quote put on a board leaves of the others. Assumes nothing.
use Rattle.std.proofs.Common.{◌≡◌, ℕ, ◌<◌, List, [], length, get_or, set, ℤ, Option, arith, get_or-set_same}
use Rattle.std.proofs.lemmas.List.{get_or-set_other, set_past}
use Rattle.boards.specs.Quotes.{latest}

-- the quotes with one put at a provider and line
abbrev pub put : List (List (Option ℤ)) → ℕ → ℕ → Option ℤ → List (List (Option ℤ))
put q p k o = set q p (set (get_or q p []) k o)

module _ (q : List (List (Option ℤ))) (p k : ℕ) (o : Option ℤ) where
  pub put_here : p < length q → k < length (get_or q p []) → latest (put q p k o) p k ≡ o
  put_here h l = grind (arith, get_or-set_same)

  pub put_others : (i j : ℕ) → (i ≡ p → j ≡ k → ⊥) → latest (put q p k o) i j ≡ latest q i j
  put_others i j ne = grind (arith, get_or-set_same, get_or-set_other, set_past)
