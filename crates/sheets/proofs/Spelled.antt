-- An accepted sheet is the words of the page that it tells.
use Rattle.std.proofs.Common.{◌≡◌, ℕ, zero, suc, ◌+◌, ◌<◌, ◌≤◌, Bool, true, false, cond, ◌&&◌, eqb, List, [], ◌∷◌, ◌++◌, map, length, get_or, ℤ, Some, None, Option, sym, refl, ap, ◌∙◌, subst, append_assoc, arith, length-append}
use Rattle.std.proofs.lemmas.Bool.{and_parts, eqb-true}
use Rattle.std.proofs.lemmas.List.{get_or-append_right}
use Rattle.std.specs.List.{flat_map}
use Rattle.days.proofs.Asked.{passed}
use Rattle.days.proofs.Ranges.{range_from_test}
use Rattle.days.specs.Days.{day}
use Rattle.days.specs.Lines.{InRange, in_range}
use Rattle.days.specs.Questions.{Question, first_failing}
use Rattle.days.specs.declared.refusal.Refusal.{Refusal}
use Rattle.sources.specs.Page.{Page}
use Rattle.sheets.specs.Asked.{Due, head, figure, closing, line, next, of_word, of_words}
use Rattle.sheets.specs.Encoding.{of_kind, head_word, figure_word, line_words, lines_from}
use Rattle.sheets.specs.Entries.{Item, item, entries_from, words_in, line_in, day_in, figure_in, entry_at, Stands}
use Rattle.sheets.specs.Words.{kind, load, line_of, spare_of, day_of, figure_of}
use Rattle.sheets.proofs.Ends.{none_after}
use Rattle.sheets.proofs.Fields.{of_kind_lem, head_is, figure_is}
use Rattle.sheets.proofs.Handed.{entries_quoted, entries_bare}
use Rattle.sheets.proofs.Lines.{line_head}

-- the words of entries, by what they tell of the lines from line k on
pub spelled_from : ℕ → List Item → List ℕ
spelled_from k [] = []
spelled_from k (e ∷ es) = line_words k (day_in e) (figure_in e) ++ spelled_from (suc k) es

-- each figure lies in the range of its line, from line k on
abbrev pub Fair : ℕ → List Item → Type 0
Fair k es = (j : ℕ) (x : ℤ) → get_or (map figure_in es) j None ≡ Some x → InRange (k + j) x

-- each of these entries stands among the words at its place
abbrev AllStand : List ℕ → List Item → Type 0
AllStand ws es = (k : ℕ) → k < length es → Stands ws (entry_at es k)

at_place : (pre vs : List ℕ) (i n : ℕ) → length pre ≡ i → get_or (pre ++ vs) (i + n) 0 ≡ get_or vs n 0
at_place pre vs i n e = get_or-append_right pre vs i (i + n) 0 e (omega arith) ∙ ap (λ m. get_or vs m 0) (omega arith)

stands_first : (pre vs : List ℕ) (i h : ℕ) (f : Option ℕ) → length pre ≡ i → Stands (pre ++ (words_in (item i h f) ++ vs)) (item i h f)
stands_first pre vs i h f e = record {
  head_there = ap (λ n. get_or (pre ++ (words_in (item i h f) ++ vs)) n 0) (omega arith) ∙ at_place pre (words_in (item i h f) ++ vs) i 0 e;
  figure_there = λ g is. at_place pre (words_in (item i h f) ++ vs) i 1 e ∙ ap (λ (o : Option ℕ). get_or (words_in (item i h o) ++ vs) 1 0) is;
}

stand_more : (pre vs : List ℕ) (i h : ℕ) (f : Option ℕ) (es : List Item) → length pre ≡ i → AllStand ((pre ++ words_in (item i h f)) ++ vs) es → AllStand (pre ++ (words_in (item i h f) ++ vs)) (item i h f ∷ es)
stand_more pre vs i h f es e r zero l = stands_first pre vs i h f e
stand_more pre vs i h f es e r (suc k) l = subst (λ ws. Stands ws (entry_at es k)) (append_assoc pre (words_in (item i h f)) vs) (r k (omega arith))

-- words that pass tell n lines from line k on, and nothing else; they stand from place i on
pub record Told (n k i : ℕ) (ws : List ℕ) (es : List Item) : Type 0 where
  pub many : length es ≡ n
  pub words : ws ≡ spelled_from k es ++ (of_kind 3 (i + length (spelled_from k es)) ∷ [])
  pub fair : Fair k es
  pub own : flat_map words_in es ≡ spelled_from k es
  pub in_order : (j : ℕ) → j < n → line_in (entry_at es j) ≡ k + j
  pub stand : (before : List ℕ) → length before ≡ i → AllStand (before ++ ws) es

-- what a head that passes tells, and what is asked after it
record Headed (k h : ℕ) (o : Option Refusal) : Type 0 where
  is_head : eqb (kind h) 0 ≡ true
  of_line : line_of h ≡ k
  no_spare : spare_of h ≡ 0
  rest : o ≡ None

headed : (k i h : ℕ) (qs : List Question) → first_failing (of_word (head k) i h ++ qs) ≡ None → Headed k h (first_failing qs)
headed k i h qs e =
    let a = passed (eqb (kind h) 0) _ _ e in
    let b = passed (eqb (line_of h) k && eqb (spare_of h) 0) _ _ a.1 in
    let p = and_parts (eqb (line_of h) k) (eqb (spare_of h) 0) b.0 in
    record { is_head = a.0; of_line = eqb-true (line_of h) k p.0; no_spare = eqb-true (spare_of h) 0 p.1; rest = b.1 }

-- no line is left: the closing word alone
told_none : (k i : ℕ) (ws : List ℕ) → first_failing (of_words closing i ws) ≡ None → Told 0 k i ws (entries_from i ws)
unfolding of_words spelled_from
told_none k i [] e = absurd cc
told_none k i (w ∷ []) e =
    let a = passed (eqb (kind w) 3) _ _ e in
    let b = passed (eqb (load w) i) _ _ a.1 in
    let c = eqb-true (kind w) 3 a.0 in
    let d = eqb-true (load w) i b.0 in
    let n : i ≡ i + 0 = omega arith in
    subst (Told 0 k i (w ∷ [])) (sym (none_after i (w ∷ []) e))
    (record { own = refl; in_order = λ j z. absurd (omega arith); stand = λ before l j z. absurd (omega arith); many = refl; words = ap (λ v. v ∷ []) (of_kind_lem w ∙ ap (λ m. of_kind m (load w)) c ∙ ap (of_kind 3) (d ∙ n)); fair = λ j x z. absurd cc })
told_none k i (w ∷ v ∷ ws) e =
    let a = passed (eqb (kind w) 3) _ _ e in
    let b = passed (eqb (load w) i) _ _ a.1 in
    let c = b.1 in
    absurd cc

-- one line more in front, whose words are those of what it tells
told_more : (n k i h : ℕ) (f : Option ℕ) (vs : List ℕ) (es : List Item) → words_in (item i h f) ≡ line_words k (day_of h) (figure_in (item i h f)) → line_of h ≡ k → ((x : ℤ) → figure_in (item i h f) ≡ Some x → InRange k x) → Told n (suc k) (i + length (words_in (item i h f))) vs es → Told (suc n) k i (words_in (item i h f) ++ vs) (item i h f ∷ es)
unfolding spelled_from
told_more n k i h f vs es same of fair t = record {
  stand = λ before l. stand_more before vs i h f es l (t.stand (before ++ words_in e) (length-append before (words_in e) ∙ ap (λ m. m + length (words_in e)) l));
  own = λ j. same j ++ t.own j;
  in_order = lines;
  many = ap suc t.many;
  words =
      ap (λ l. l ++ vs) same ∙ ap (λ l. own ++ l) t.words ∙ sym (append_assoc own rest _) ∙ ap (λ c. (own ++ rest) ++ (of_kind 3 c ∷ [])) count;
  fair = each;
}
  where
    e : Item
    e = item i h f

    own : List ℕ
    own = line_words k (day_in e) (figure_in e)

    rest : List ℕ
    rest = spelled_from (suc k) es

    count : i + length (words_in e) + length rest ≡ i + length (own ++ rest)
    count = let a = ap length same in let b = length-append own rest in omega arith

    lines : (j : ℕ) → j < suc n → line_in (entry_at (e ∷ es) j) ≡ k + j
    lines zero z = of ∙ omega arith
    lines (suc j) z = t.in_order j (omega arith) ∙ omega arith

    each : Fair k (e ∷ es)
    each zero x z = let n : k ≡ k + 0 = omega arith in subst (λ m. InRange m x) n (fair x z)
    each (suc j) x z = let n : suc k + j ≡ k + suc j = omega arith in subst (λ m. InRange m x) n (t.fair j x z)

module _ (k i h : ℕ) (o : Option Refusal) (a : Headed k h o) where
  head_word_lem : h ≡ head_word k (day_of h)
  head_word_lem = head_is k h (eqb-true (kind h) 0 a.is_head) a.of_line a.no_spare

  bare_told : (n : ℕ) (vs : List ℕ) → (2 ≤ length (h ∷ vs) → eqb (kind (get_or (h ∷ vs) 1 0)) 1 ≡ false) → Told n (suc k) (i + 1) vs (entries_from (i + 1) vs) → Told (suc n) k i (h ∷ vs) (entries_from i (h ∷ vs))
  bare_told n vs no_figure t =
      subst (Told (suc n) k i (h ∷ vs)) (sym (entries_bare i (h ∷ vs) (omega arith) a.is_head no_figure))
      (told_more n k i h None vs _ (ap (λ w. w ∷ []) head_word_lem) a.of_line (λ x z. absurd cc) t)

  quoted_told : (n f : ℕ) (vs : List ℕ) → eqb (kind f) 1 ≡ true → in_range k (figure_of k f) ≡ true → Told n (suc k) (i + 2) vs (entries_from (i + 2) vs) → Told (suc n) k i (h ∷ f ∷ vs) (entries_from i (h ∷ f ∷ vs))
  quoted_told n f vs is-figure in-range t =
      let word = figure_is k f (eqb-true (kind f) 1 is-figure) in
      subst (Told (suc n) k i (h ∷ f ∷ vs)) (sym (entries_quoted i (h ∷ f ∷ vs) (omega arith) a.is_head is-figure))
      (told_more n k i h (Some f) vs _
      (subst (λ m. ◌≡◌ {A = List ℕ} (h ∷ f ∷ []) (head_word k (day_of h) ∷ figure_word k (figure_of m f) ∷ [])) (sym a.of_line) (λ j. head_word_lem j ∷ word j ∷ []))
      a.of_line
      (subst (λ m. (x : ℤ) → ◌≡◌ {A = Option ℤ} (Some (figure_of m f)) (Some x) → InRange k x) (sym a.of_line) (λ x z. let y : figure_of k f ≡ x = cc in subst (InRange k) y (range_from_test k (figure_of k f) in-range)))
      t)

-- what follows a head: its figure or the next line
follow : (k i h f : ℕ) (vs : List ℕ) (b : Bool) (n : ℕ) → eqb (kind f) 1 ≡ b → (o : Option Refusal) → Headed k h o → first_failing (of_words (cond b (figure k) (line (suc k))) (i + 1) (f ∷ vs)) ≡ None → ((j : ℕ) (us : List ℕ) → first_failing (of_words (line (suc k)) j us) ≡ None → Told n (suc k) j us (entries_from j us)) → Told (suc n) k i (h ∷ f ∷ vs) (entries_from i (h ∷ f ∷ vs))
unfolding of_words
follow k i h f vs true n is o a e onward =
    let p = passed (eqb (kind f) 1) _ _ e in
    let q = passed (in_range k (figure_of k f)) _ _ p.1 in
    let m : i + 1 + 1 ≡ i + 2 = omega arith in
    quoted_told k i h o a n f vs is q.0 (onward (i + 2) vs (ap (λ j. first_failing (of_words (line (suc k)) j vs)) (sym m) ∙ q.1))
follow k i h f vs false n is o a e onward = bare_told k i h o a n (f ∷ vs) (λ _. is) (onward (i + 1) (f ∷ vs) e)

one_line : (n k i : ℕ) (ws : List ℕ) → first_failing (of_words (head k) i ws) ≡ None → ((j : ℕ) (us : List ℕ) → first_failing (of_words (line (suc k)) j us) ≡ None → Told n (suc k) j us (entries_from j us)) → Told (suc n) k i ws (entries_from i ws)
unfolding of_words
one_line n k i [] e onward = absurd cc
one_line n k i (h ∷ []) e onward =
    let a = headed k i h (of_words (line (suc k)) (i + 1) []) e in
    bare_told k i h _ a n [] (λ l. absurd (omega arith)) (onward (i + 1) [] a.rest)
one_line n k i (h ∷ f ∷ vs) e onward =
    let a = headed k i h (of_words (next (head k) (f ∷ vs)) (i + 1) (f ∷ vs)) e in
    follow k i h f vs (eqb (kind f) 1) n refl _ a a.rest onward

pub told : (n k i : ℕ) (ws : List ℕ) → k + n ≡ 29 → first_failing (of_words (line k) i ws) ≡ None → Told n k i ws (entries_from i ws)
told zero k i ws l e = let m : k ≡ 29 = omega arith in told_none k i ws (ap (λ j. first_failing (of_words (line j) i ws)) (sym m) ∙ e)
told (suc n) k i ws l e =
    one_line n k i ws (ap (λ (d : Due). first_failing (of_words d i ws)) (sym (line_head k (omega arith))) ∙ e) (λ j us. told n (suc k) j us (omega arith))

-- the lines of a page that has what the entries tell
pub lines_spelled : (p : Page) (k : ℕ) (es : List Item) → ((j : ℕ) → j < length es → day p.days (k + j) ≡ get_or (map day_in es) j 0) → ((j : ℕ) → j < length es → p.figure (k + j) ≡ get_or (map figure_in es) j None) → lines_from p (length es) k ≡ spelled_from k es
unfolding lines_from spelled_from
lines_spelled p k [] d f = refl
lines_spelled p k (e ∷ es) d f =
    let z : k ≡ k + 0 = omega arith in
    let day-is = ap (day p.days) z ∙ d 0 (omega arith) in
    let figure_is = ap (λ n. p.figure n) z ∙ f 0 (omega arith) in
    let rest = lines_spelled p (suc k) es (λ j h. ap (day p.days) (next_line j) ∙ d (suc j) (omega arith)) (λ j h. ap (λ n. p.figure n) (next_line j) ∙ f (suc j) (omega arith)) in
    λ i. line_words k (day-is i) (figure_is i) ++ rest i
  where
    next_line : (j : ℕ) → suc k + j ≡ k + suc j
    next_line j = omega arith
