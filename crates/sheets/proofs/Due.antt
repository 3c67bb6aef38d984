-- What the words from a place on are asked: the first of them, and then the others. Assumes nothing.
use Rattle.std.proofs.Common.{◌≡◌, ℕ, ◌+◌, ◌<◌, ◌≤◌, List, [], ◌∷◌, ◌++◌, length, get_or, drop, Some, None, Option, refl, ap, ◌∙◌, arith}
use Rattle.std.proofs.lemmas.Bool.{eq-eqb, le-leb}
use Rattle.std.specs.Option.{option_or}
use Rattle.days.proofs.Asked.{first_failing-append}
use Rattle.days.specs.Questions.{Question, first_failing, refusal}
use Rattle.days.specs.declared.refusal.Layer.TheVariants.{Sheet}
use Rattle.days.specs.declared.refusal.Refusal.{Refusal}
use Rattle.sheets.specs.Asked.{Due, opening, closing, end, next, of_word, of_none, of_words}
use Rattle.sheets.specs.Words.{kind, load}

-- questions in two parts: the first part refuses, or passes
pub refused_first : (xs ys : List Question) (r : Refusal) → first_failing xs ≡ Some r → first_failing (xs ++ ys) ≡ Some r
refused_first xs ys r e = first_failing-append xs ys ∙ ap (λ (o : Option Refusal). option_or o (first_failing ys)) e

pub passed_first : (xs ys : List Question) → first_failing xs ≡ None → first_failing (xs ++ ys) ≡ first_failing ys
passed_first xs ys e = first_failing-append xs ys ∙ ap (λ (o : Option Refusal). option_or o (first_failing ys)) e

pub no_word : (d : Due) (i : ℕ) (ws : List ℕ) → length ws < 1 → first_failing (of_words d i ws) ≡ first_failing (of_none d i)
unfolding of_words
no_word d i [] l = refl
no_word d i (w ∷ ws) l = absurd (omega arith)

-- the first word is refused, or passes
pub refused_at : (d : Due) (i : ℕ) (ws : List ℕ) (r : Refusal) → 1 ≤ length ws → first_failing (of_word d i (get_or ws 0 0)) ≡ Some r → first_failing (of_words d i ws) ≡ Some r
unfolding of_words
refused_at d i [] r l e = absurd (omega arith)
refused_at d i (w ∷ ws) r l e = refused_first (of_word d i w) (of_words (next d ws) (i + 1) ws) r e

pub passed_at : (d : Due) (i : ℕ) (ws : List ℕ) → 1 ≤ length ws → first_failing (of_word d i (get_or ws 0 0)) ≡ None → first_failing (of_words d i ws) ≡ first_failing (of_words (next d (drop 1 ws)) (i + 1) (drop 1 ws))
unfolding of_words
passed_at d i [] l e = absurd (omega arith)
passed_at d i (w ∷ ws) l e = passed_first (of_word d i w) (of_words (next d ws) (i + 1) ws) e

-- after the closing word: none, or a surplus one
pub surplus : (i : ℕ) (ws : List ℕ) → 1 ≤ length ws → first_failing (of_words end i ws) ≡ Some (refusal 14 Sheet i)
unfolding of_words
surplus i [] l = absurd (omega arith)
surplus i (w ∷ ws) l = refl

pub ended : (i : ℕ) (ws : List ℕ) → length ws < 1 → first_failing (of_words end i ws) ≡ None
unfolding of_words
ended i [] l = refl
ended i (w ∷ ws) l = absurd (omega arith)

-- an opening and a closing word that pass
pub opening_passes : (i w : ℕ) → kind w ≡ 2 → load w ≤ 100000 → first_failing (of_word opening i w) ≡ None
opening_passes i w a b = rw (eq-eqb (kind w) 2 a, le-leb (load w) 100000 b)

pub closing_passes : (i w : ℕ) → kind w ≡ 3 → load w ≡ i → first_failing (of_word closing i w) ≡ None
closing_passes i w a b = rw (eq-eqb (kind w) 3 a, eq-eqb (load w) i b)
