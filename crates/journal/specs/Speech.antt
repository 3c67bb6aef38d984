-- What a line says: words between blanks, before a comment. Assumes nothing.
use Rattle.std.specs.Prelude.{◌≡◌, ℕ, Bool, true, cond, not, List, [], ◌∷◌, ◌==◌, Option, MatchOption, ◌≢◌}
use Rattle.std.specs.Borrow.{Bor}
use Rattle.journal.specs.declared.words.Words.{Words}

-- a number sign or a newline ends what a line says
abbrev pub is_end : ℕ → Bool
is_end b = cond (b == 35) true (b == 10)

-- space, tab, carriage return
abbrev pub is_blank : ℕ → Bool
is_blank b = cond (b == 32) true (cond (b == 9) true (b == 13))

-- a byte of a word
abbrev pub in_word : ℕ → Bool
in_word b = not (is_blank b)

-- the bytes before the first one of a kind
abbrev pub before : (ℕ → Bool) → List ℕ → List ℕ
before is [] = []
before is (b ∷ bs) = cond (is b) [] (b ∷ before is bs)

-- the bytes from the first one of a kind on
abbrev pub since : (ℕ → Bool) → List ℕ → List ℕ
since is [] = []
since is (b ∷ bs) = cond (is b) (b ∷ bs) (since is bs)

abbrev pub said : List ℕ → List ℕ
said line = before is_end line

abbrev pub first_word : List ℕ → List ℕ
first_word text = before is_blank (since in_word text)

abbrev pub after_word : List ℕ → List ℕ
after_word text = since is_blank (since in_word text)

-- one call of a reader of words: it gives the first word that is left, if there is one, and leaves what follows it
pub record Steps (s : Words) (r : Option (Bor (List ℕ))) (t : Words) : Type 0 where
  pub word : MatchOption r (first_word s.rest.now ≡ []) (λ w. (w.now ≡ first_word s.rest.now) × (w.now ≢ []))
  pub left : t.rest.now ≡ after_word s.rest.now
