-- The providers of a board just made. Assumes nothing.
use Rattle.std.proofs.Common.{◌≡◌, ℕ, zero, suc, ◌<◌, List, [], ◌∷◌, map, length, get_or, replicate, ℤ, None, Option, refl, arith}
use Rattle.boards.specs.declared.provider.Provider.{Provider}
use Rattle.boards.specs.Quotes.{latest}

pub none_row : (m k : ℕ) → ◌≡◌ {A = Option ℤ} (get_or (replicate m None) k None) None
none_row zero k = refl
none_row (suc m) zero = refl
none_row (suc m) (suc k) = none_row m k

-- a board without quotes
pub no_quotes : (n m p k : ℕ) → latest (replicate n (replicate m None)) p k ≡ None
no_quotes zero m p k = refl
no_quotes (suc n) m zero k = none_row m k
no_quotes (suc n) m (suc p) k = no_quotes n m p k

-- providers made of n shares, each with one row of quotes
pub made : (r : List (Option ℤ)) (n : ℕ) (s : List ℕ) (ps : List Provider) → length s ≡ n → length ps ≡ n → ((i : ℕ) (d : Provider) → i < n → ((get_or ps i d).share ≡ get_or s i 0) × ((get_or ps i d).quotes ≡ r)) → (map (λ (p : Provider). p.share) ps ≡ s) × (map (λ (p : Provider). p.quotes) ps ≡ replicate n r)
made r zero [] [] l m f = (refl, refl)
made r (suc n) (x ∷ s) (p ∷ ps) l m f =
    let rest = made r n s ps (omega arith) (omega arith) (λ i d h. f (suc i) d (omega arith)) in
    let first = f 0 p (omega arith) in
    (cc, cc)
made r zero [] (p ∷ ps) l m f = absurd (omega arith)
made r zero (x ∷ s) ps l m f = absurd (omega arith)
made r (suc n) [] ps l m f = absurd (omega arith)
made r (suc n) (x ∷ s) [] l m f = absurd (omega arith)
