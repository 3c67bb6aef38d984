-- What a sheet's check promises besides its answer, from its answer.
use Rattle.std.proofs.Common.{◌≡◌, ℕ, ◌+◌, ◌<◌, ◌≤◌, Bool, true, false, cond, not, List, [], ◌∷◌, ◌++◌, length, is_some, is_ok, IfOk, IfErr, Some, None, Ok, Err, Option, Result, sym, refl, ap, ◌∙◌, subst, arith, lit<}
use Rattle.std.specs.Option.{option_or}
use Rattle.days.proofs.Asked.{first_failing-append}
use Rattle.days.specs.Days.{Breach}
use Rattle.days.specs.Questions.{Question, refusal, refusal_of, first_failing}
use Rattle.days.specs.declared.refusal.Layer.TheVariants.{Sheet}
use Rattle.days.specs.declared.refusal.Refusal.{Refusal}
use Rattle.sheets.specs.Asked.{Due, opening, head, figure, closing, end, next, of_word, of_none, of_words, of_days, asked}
use Rattle.sheets.specs.Checked.{Checked}
use Rattle.sheets.specs.Encoding.{words_of}
use Rattle.sheets.specs.Meaning.{accepted, told_page, sheet_page}
use Rattle.sheets.specs.Told.{told_sheet}
use Rattle.sheets.specs.declared.fault.SheetFault.{SheetFault}
use Rattle.sheets.proofs.Accepted.{sheet_size, words_accepted, words_mean}
use Rattle.sheets.proofs.Exact.{exact, sheet_sound, means_told}
use Rattle.sheets.proofs.Tabled.{told_breach}

-- an accepted sheet is the words of the page that it means
own_words : (ws : List ℕ) → accepted ws ≡ true → ws ≡ words_of (sheet_page ws)
own_words ws e = (exact ws e).words ∙ ap words_of (sym (means_told ws e))

-- a question about a word tells a number below 15
abbrev Below : List Question → Type 0
Below [] = Unit {0}
Below (q ∷ qs) = (q.otherwise.number < 15) × Below qs

below-append : (xs ys : List Question) → Below xs → Below ys → Below (xs ++ ys)
below-append [] ys a b = b
below-append (x ∷ xs) ys a b = (a.0, below-append xs ys a.1 b)

below_word : (d : Due) (i w : ℕ) → Below (of_word d i w)
below_word opening i w = (lit< tt, (lit< tt, tt))
below_word (head k) i w = (lit< tt, (lit< tt, tt))
below_word (figure k) i w = (lit< tt, (lit< tt, tt))
below_word closing i w = (lit< tt, (lit< tt, tt))
below_word end i w = (lit< tt, tt)

below_none : (d : Due) (i : ℕ) → Below (of_none d i)
below_none opening i = (lit< tt, tt)
below_none (head k) i = (lit< tt, tt)
below_none (figure k) i = (lit< tt, tt)
below_none closing i = (lit< tt, tt)
below_none end i = tt

below_words : (d : Due) (i : ℕ) (ws : List ℕ) → Below (of_words d i ws)
unfolding of_words
below_words d i [] = below_none d i
below_words d i (w ∷ ws) = below-append (of_word d i w) _ (below_word d i w) (below_words (next d ws) (i + 1) ws)

first_below : (b : Bool) (q r : Refusal) (o : Option Refusal) → q.number < 15 → (o ≡ Some r → r.number < 15) → cond b o (Some q) ≡ Some r → r.number < 15
first_below true q r o a onward e = onward e
first_below false q r o a onward e = let z : q ≡ r = cc in subst (λ (x : Refusal). x.number < 15) z a

told_below : (qs : List Question) (r : Refusal) → Below qs → first_failing qs ≡ Some r → r.number < 15
told_below [] r a e = absurd cc
told_below (q ∷ qs) r a e = first_below q.passes q.otherwise r (first_failing qs) a.0 (told_below qs r a.1) e

-- so that a refusal 15 is one of the days
by_days : (o u : Option Refusal) (k : ℕ) → ((r : Refusal) → o ≡ Some r → r.number < 15) → option_or o u ≡ Some (refusal 15 Sheet k) → u ≡ Some (refusal 15 Sheet k)
by_days None u k b e = e
by_days (Some r) u k b e = let z : r ≡ refusal 15 Sheet k = cc in absurd (let n = b r refl in let m = ap (λ (x : Refusal). x.number) z in omega arith)

module _ {T : Type 0} (ws : List ℕ) where
  pub ok_is : (r : Result T SheetFault) → refusal_of told_sheet r ≡ first_failing (asked ws) → is_ok r ≡ accepted ws
  ok_is (Ok x) e = ap (λ (o : Option Refusal). not (is_some o)) e
  ok_is (Err f) e = ap (λ (o : Option Refusal). not (is_some o)) e

  breach_told : (r : Result T SheetFault) → refusal_of told_sheet r ≡ first_failing (asked ws) → IfErr r (λ f. (k : ℕ) → told_sheet f ≡ refusal 15 Sheet k → Breach (told_page ws).days k)
  breach_told (Ok x) e = tt
  breach_told (Err f) e = λ k is.
      told_breach (told_page ws).days k
      (by_days (first_failing (of_words opening 0 ws)) (first_failing (of_days (told_page ws).days 29 0)) k (λ r. told_below (of_words opening 0 ws) r (below_words opening 0 ws))
      (sym (first_failing-append (of_words opening 0 ws) (of_days (told_page ws).days 29 0)) ∙ sym e ∙ ap Some is))

  if_ok : {P : Type 0} (r : Result T SheetFault) → (is_ok r ≡ true → P) → IfOk r (λ _. P)
  if_ok (Ok x) p = p refl
  if_ok (Err f) p = tt

  pub checked : (r : Result T SheetFault) → refusal_of told_sheet r ≡ first_failing (asked ws) → Checked ws r
  checked r e = record {
    answer = e;
    breach = breach_told r e;
    sound = if_ok r (λ _. sheet_sound ws);
    exact = if_ok r own;
    size = if_ok r (λ ok. subst (λ (l : List ℕ). (31 ≤ length l) × (length l ≤ 60)) (sym (own ok)) (sheet_size (sheet_page ws)));
    one = if_ok r (λ ok vs a same. own_words vs a ∙ ap words_of same ∙ sym (own ok));
    every = λ p s w. (ok_is r e ∙ ap accepted w ∙ words_accepted p s, ap sheet_page w ∙ words_mean p s);
  }
    where
      own : is_ok r ≡ true → ws ≡ words_of (sheet_page ws)
      own ok = own_words ws (sym (ok_is r e) ∙ ok)
