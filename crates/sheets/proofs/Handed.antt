-- The first entry of a row of words. Assumes nothing.
use Rattle.std.proofs.Common.{◌≡◌, ℕ, ◌+◌, ◌*◌, ◌≤◌, true, false, eqb, List, [], ◌∷◌, length, get_or, drop, Some, None, refl, arith}
use Rattle.sheets.specs.Words.{kind}
use Rattle.sheets.specs.Entries.{item, entries_from, entries_of}
use Rattle.sheets.specs.Reader.{left}
use Rattle.sheets.specs.declared.entry.Entries.{Entries}

pub entries_quoted : (i : ℕ) (ws : List ℕ) → 2 ≤ length ws → eqb (kind (get_or ws 0 0)) 0 ≡ true → eqb (kind (get_or ws 1 0)) 1 ≡ true → entries_from i ws ≡ item i (get_or ws 0 0) (Some (get_or ws 1 0)) ∷ entries_from (i + 2) (drop 2 ws)
unfolding entries_from
entries_quoted i [] l a b = absurd (omega arith)
entries_quoted i (h ∷ []) l a b = absurd (omega arith)
entries_quoted i (h ∷ f ∷ ws) l a b = rw (a, b) refl

pub entries_bare : (i : ℕ) (ws : List ℕ) → 1 ≤ length ws → eqb (kind (get_or ws 0 0)) 0 ≡ true → (2 ≤ length ws → eqb (kind (get_or ws 1 0)) 1 ≡ false) → entries_from i ws ≡ item i (get_or ws 0 0) None ∷ entries_from (i + 1) (drop 1 ws)
unfolding entries_from
entries_bare i [] l a b = absurd (omega arith)
entries_bare i (h ∷ []) l a b = rw a refl
entries_bare i (h ∷ f ∷ ws) l a b = rw (a, b (omega arith)) refl

pub entries_none : (i : ℕ) (ws : List ℕ) → (1 ≤ length ws → eqb (kind (get_or ws 0 0)) 0 ≡ false) → entries_from i ws ≡ []
unfolding entries_from
entries_none i [] a = refl
entries_none i (h ∷ []) a = rw (a (omega arith)) refl
entries_none i (h ∷ f ∷ ws) a = rw (a (omega arith)) refl

-- the entries of words after the first
pub all_left : (ws : List ℕ) (s : Entries) → s.place ≡ 1 → s.rest.now ≡ drop 1 ws → left s ≡ entries_of ws
all_left ws s p r = λ i. entries_from (p i) (r i)

pub one_word : (ws : List ℕ) → 1 ≤ length ws → ws ≡ get_or ws 0 0 ∷ drop 1 ws
one_word [] l = absurd (omega arith)
one_word (h ∷ ws) l = refl

pub two_words : (ws : List ℕ) → 2 ≤ length ws → ws ≡ get_or ws 0 0 ∷ get_or ws 1 0 ∷ drop 2 ws
two_words [] l = absurd (omega arith)
two_words (h ∷ []) l = absurd (omega arith)
two_words (h ∷ f ∷ ws) l = refl

-- where the word n places after place i lies, by where the one at place i does
pub further : (b o i n m : ℕ) (p : ℕ × ℕ) → m ≡ i + n → p ≡ (b, i * 4 + o) → ◌≡◌ {A = ℕ × ℕ} (p.0, n * 4 + p.1) (b, m * 4 + o)
further b o i n m p h e =
    let s : p.1 ≡ i * 4 + o = λ j. (e j).1 in
    let t : n * 4 + p.1 ≡ m * 4 + o = omega arith in
    λ j. ((e j).0, t j)
