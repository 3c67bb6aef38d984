-- The words of a text, one after another. Assumes nothing.
use Rattle.std.proofs.Common.{◌≡◌, ℕ, zero, suc, ◌+◌, ◌<◌, List, length, get_or, set, Some, None, sym, refl, ap, ◌∙◌, add-one, arith, get_or-set_other, get_or-set_same, below_more}
use Rattle.journal.specs.Decimal.{natural_of}
use Rattle.journal.specs.Speech.{first_word, after_word}
use Rattle.journal.specs.Grammar.{word, after, Numbers}

pub word_is : (t : List ℕ) (n : ℕ) → word t n ≡ first_word (after t n)
word_is t zero = refl
word_is t (suc n) = word_is (after_word t) n

after_suc : (t : List ℕ) (n : ℕ) → after t (suc n) ≡ after_word (after t n)
after_suc t zero = refl
after_suc t (suc n) = after_suc (after_word t) n

-- u is what is left of t after its first n words
pub after_more : (t u : List ℕ) (n : ℕ) → u ≡ after t n → after_word u ≡ after t (n + 1)
after_more t u n e = ap after_word e ∙ sym (after_suc t n) ∙ ap (after t) (sym (add-one n))

number_at : (t u : List ℕ) (n : ℕ) → u ≡ after t n → natural_of (first_word u) ≡ natural_of (word t n)
number_at t u n e = ap (λ z. natural_of (first_word z)) e ∙ ap natural_of (sym (word_is t n))

-- its next word is one number more
pub numbers_more : (t u : List ℕ) (i : ℕ) (ds : List ℕ) (v : ℕ) → u ≡ after t i → i < length ds → Numbers t i ds → Some v ≡ natural_of (first_word u) → Numbers t (i + 1) (set ds i v)
numbers_more t u i ds v l h f e =
    below_more (λ k. natural_of (word t k) ≡ Some (get_or (set ds i v) k 0)) i
    (λ k b. f k b ∙ ap Some (sym (get_or-set_other ds i k v 0 (λ z. omega arith))))
    (sym (e ∙ number_at t u i l) ∙ ap Some (sym (get_or-set_same ds i v 0 h)))

-- its next word is no number
pub numbers_stop : (t u : List ℕ) (i n : ℕ) → u ≡ after t i → i < n → None ≡ natural_of (first_word u) → (ds : List ℕ) → Numbers t n ds → ⊥
numbers_stop t u i n l h e ds f = let g = f i h in let m = number_at t u i l in cc
