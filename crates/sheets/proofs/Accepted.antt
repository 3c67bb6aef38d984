-- The words of a sound page are accepted, and mean that page.
use Rattle.std.proofs.Common.{◌≡◌, ℕ, zero, suc, ◌+◌, ◌*◌, ◌^◌, ◌<◌, ◌≤◌, true, false, not, eqb, List, [], ◌∷◌, ◌++◌, map, length, get_or, ℤ, is_some, Some, None, Option, sym, refl, ap, ◌∙◌, subst, ⊎_elim, append_assoc, zero-add, arith, length-append}
use Rattle.std.proofs.lemmas.List.{length-map, get_or_past, ext_get_or}
use Rattle.std.proofs.lemmas.Bool.{eq-eqb, ne_eqb, and_from, cases_lt}
use Rattle.days.proofs.Ranges.{test_from_range}
use Rattle.days.specs.Days.{day}
use Rattle.days.specs.Lines.{in_range}
use Rattle.days.specs.Questions.{first_failing}
use Rattle.days.specs.declared.refusal.Refusal.{Refusal}
use Rattle.sources.specs.Page.{Page, Sound}
use Rattle.sheets.specs.Asked.{Due, opening, closing, line, of_entry, of_words, of_days, asked}
use Rattle.sheets.specs.Encoding.{of_kind, head_word, figure_word, line_words, lines_from, body, words_of}
use Rattle.sheets.specs.Entries.{Item, item, entries_from, words_in, day_in, figure_in}
use Rattle.sheets.specs.Meaning.{told_page, accepted, sheet_page}
use Rattle.sheets.specs.Words.{kind, line_of, spare_of, figure_of}
use Rattle.sheets.proofs.Due.{passed_first, passed_at, ended, opening_passes, closing_passes}
use Rattle.sheets.proofs.Exact.{means_told}
use Rattle.sheets.proofs.Fields.{kind_of, load_of, head_kind, head_line, head_spare, head_day, figure_kind, figure_back}
use Rattle.sheets.proofs.Handed.{entries_quoted, entries_bare, entries_none}
use Rattle.sheets.proofs.Lines.{line_head, due}
use Rattle.sheets.proofs.Tabled.{lawful_passes}

-- the words of n lines from line k on, and a closing word with the count c
abbrev tail : Page → ℕ → ℕ → ℕ → List ℕ
tail p n k c = lines_from p n k ++ (of_kind 3 c ∷ [])

-- words that pass where line k is due, at place i, and tell n lines of the page
record Read (p : Page) (n k i : ℕ) (ws : List ℕ) : Type 0 where
  passes : first_failing (of_words (line k) i ws) ≡ None
  many : length (entries_from i ws) ≡ n
  days : (j : ℕ) → j < n → get_or (map day_in (entries_from i ws)) j 0 ≡ day p.days (k + j)
  figures : (j : ℕ) → j < n → get_or (map figure_in (entries_from i ws)) j None ≡ p.figure (k + j)

-- no line is left
read_none : (p : Page) (k i c : ℕ) → k ≡ 29 → c ≡ i → c < 2 ^ 30 → Read p 0 k i (of_kind 3 c ∷ [])
read_none p k i c l e h =
    let none = entries_none i (of_kind 3 c ∷ []) (λ _. ne_eqb (kind (of_kind 3 c)) 0 (λ z. omega (arith, kind_of 3 c (omega arith) h))) in
    record {
      passes =
          ap (λ j. first_failing (of_words (line j) i (of_kind 3 c ∷ []))) l
          ∙ passed_at closing i (of_kind 3 c ∷ []) (omega arith) (closing_passes i (of_kind 3 c) (kind_of 3 c (omega arith) h) (load_of 3 c (omega arith) h ∙ e))
          ∙ ended (i + 1) [] (omega arith);
      many = ap length none;
      days = λ j z. absurd (omega arith);
      figures = λ j z. absurd (omega arith);
    }

-- one line more in front
read_more : (p : Page) (n k i : ℕ) (e : Item) (vs : List ℕ) → k < 29 → entries_from i (words_in e ++ vs) ≡ e ∷ entries_from (i + length (words_in e)) vs → first_failing (of_entry k e) ≡ None → day_in e ≡ day p.days k → figure_in e ≡ p.figure k → Read p n (suc k) (i + length (words_in e)) vs → Read p (suc n) k i (words_in e ++ vs)
read_more p n k i e vs low first pass day-is figure_is r = record {
  passes =
      ap (λ (d : Due). first_failing (of_words d i (words_in e ++ vs))) (line_head k low) ∙ due k i e.place e.head e.figure vs _ first
      ∙ passed_first (of_entry k e) _ pass ∙ r.passes;
  many = ap length first ∙ ap suc r.many;
  days = λ j h. ap (λ l. get_or (map day_in l) j 0) first ∙ day_at j h;
  figures = λ j h. ap (λ l. get_or (map figure_in l) j None) first ∙ figure_at j h;
}
  where
    here : k ≡ k + 0
    here = omega arith

    next_line : (j : ℕ) → suc k + j ≡ k + suc j
    next_line j = omega arith

    rest : List Item
    rest = entries_from (i + length (words_in e)) vs

    day_at : (j : ℕ) → j < suc n → get_or (map day_in (e ∷ rest)) j 0 ≡ day p.days (k + j)
    day_at zero h = day-is ∙ ap (day p.days) here
    day_at (suc j) h = r.days j (omega arith) ∙ ap (day p.days) (next_line j)

    figure_at : (j : ℕ) → j < suc n → get_or (map figure_in (e ∷ rest)) j None ≡ p.figure (k + j)
    figure_at zero h = figure_is ∙ ap (λ m. p.figure m) here
    figure_at (suc j) h = r.figures j (omega arith) ∙ ap (λ m. p.figure m) (next_line j)

-- an entry of line k whose figure, if it has one, lies in range
entry_passes : (k i h : ℕ) (f : Option ℕ) → line_of h ≡ k → spare_of h ≡ 0 → ((w : ℕ) → f ≡ Some w → in_range k (figure_of k w) ≡ true) → first_failing (of_entry k (item i h f)) ≡ None
entry_passes k i h None a b c = rw (and_from _ _ (eq-eqb (line_of h) k a) (eq-eqb (spare_of h) 0 b))
entry_passes k i h (Some w) a b c = rw (and_from _ _ (eq-eqb (line_of h) k a) (eq-eqb (spare_of h) 0 b), c w refl)

module _ (p : Page) (s : Sound p) (c : ℕ) (short : c < 2 ^ 30) where
  small : (k : ℕ) → k < 29 → day p.days k < 65536
  small k h = let l = (s.lawful k h).limit in omega arith

  -- a line's words begin with its head
  line_first : (k d : ℕ) (o : Option ℤ) (ws : List ℕ) → k < 29 → d < 65536 → eqb (kind (get_or (line_words k d o ++ ws) 0 0)) 1 ≡ false
  line_first k d None ws h l = ne_eqb _ 1 (λ z. omega (arith, head_kind k d h l))
  line_first k d (Some x) ws h l = ne_eqb _ 1 (λ z. omega (arith, head_kind k d h l))

  -- so that what follows a line begins with no figure
  no_figure : (n k : ℕ) → k + n ≡ 29 → eqb (kind (get_or (tail p n k c) 0 0)) 1 ≡ false
  unfolding lines_from
  no_figure zero k e = ne_eqb _ 1 (λ z. omega (arith, kind_of 3 c (omega arith) short))
  no_figure (suc n) k e =
      ap (λ l. eqb (kind (get_or l 0 0)) 1) (append_assoc (line_words k (day p.days k) (p.figure k)) _ _)
      ∙ line_first k (day p.days k) (p.figure k) _ (omega arith) (small k (omega arith))

  -- a line of the page, with what follows it
  read_line : (n k i : ℕ) (o : Option ℤ) (vs : List ℕ) → k < 29 → p.figure k ≡ o → eqb (kind (get_or vs 0 0)) 1 ≡ false → ((j : ℕ) → j ≡ i + length (line_words k (day p.days k) o) → Read p n (suc k) j vs) → Read p (suc n) k i (line_words k (day p.days k) o ++ vs)
  read_line n k i None vs low is bare r =
      let d = day p.days k in
      let l = small k low in
      read_more p n k i (item i (head_word k d) None) vs low
      (entries_bare i (head_word k d ∷ vs) (omega arith) (eq-eqb _ 0 (head_kind k d low l)) (λ _. bare))
      (entry_passes k i (head_word k d) None (head_line k d low l) (head_spare k d low l) (λ w z. absurd cc))
      (head_day k d low l) (sym is) (r (i + 1) refl)
  read_line n k i (Some x) vs low is bare r =
      let d = day p.days k in
      let l = small k low in
      let range = s.ranged k x is in
      let f = figure_word k x in
      let back = figure_back k x range in
      read_more p n k i (item i (head_word k d) (Some f)) vs low
      (entries_quoted i (head_word k d ∷ f ∷ vs) (omega arith) (eq-eqb _ 0 (head_kind k d low l)) (eq-eqb _ 1 (figure_kind k x range)))
      (entry_passes k i (head_word k d) (Some f) (head_line k d low l) (head_spare k d low l) (λ w z. let y : f ≡ w = cc in subst (λ v. in_range k (figure_of k v) ≡ true) y (ap (in_range k) back ∙ test_from_range k x range)))
      (head_day k d low l) (ap (λ m. Some (figure_of m f)) (head_line k d low l) ∙ ap Some back ∙ sym is) (r (i + 2) refl)

  read_lines : (n k i : ℕ) → k + n ≡ 29 → c ≡ i + length (lines_from p n k) → Read p n k i (tail p n k c)
  unfolding lines_from
  read_lines zero k i l e = read_none p k i c (omega arith) (omega arith) short
  read_lines (suc n) k i l e =
      let own = line_words k (day p.days k) (p.figure k) in
      subst (Read p (suc n) k i) (sym (append_assoc own (lines_from p n (suc k)) (of_kind 3 c ∷ [])))
      (read_line n k i (p.figure k) (tail p n (suc k) c) (omega arith) refl (no_figure n (suc k) (omega arith))
      (λ j z. read_lines n (suc k) j (omega arith) (let a = length-append own (lines_from p n (suc k)) in omega arith)))

-- a line has one word or two
line_size : (k d : ℕ) (o : Option ℤ) → (1 ≤ length (line_words k d o)) × (length (line_words k d o) ≤ 2)
line_size k d None = (omega arith, omega arith)
line_size k d (Some x) = (omega arith, omega arith)

lines_size : (p : Page) (n k : ℕ) → (n ≤ length (lines_from p n k)) × (length (lines_from p n k) ≤ 2 * n)
unfolding lines_from
lines_size p zero k = (omega arith, omega arith)
lines_size p (suc n) k =
    let own = line_words k (day p.days k) (p.figure k) in
    let all = length-append own (lines_from p n (suc k)) in
    let one = line_size k (day p.days k) (p.figure k) in
    let rest = lines_size p n (suc k) in
    (omega arith, omega arith)

pub sheet_size : (p : Page) → (31 ≤ length (words_of p)) × (length (words_of p) ≤ 60)
sheet_size p = let lines = lines_size p 29 0 in let all = length-append (body p) (of_kind 3 (1 + length (body p)) ∷ []) in (omega arith, omega arith)

-- the words of a sound page
module _ (p : Page) (s : Sound p) where
  count : ℕ
  count = 1 + length (body p)

  lines : Read p 29 0 1 (tail p 29 0 count)
  unfolding count
  lines = read_lines p s (1 + length (body p)) (let a = lines_size p 29 0 in omega arith) 29 0 1 refl refl

  same_days : map day_in (entries_from 1 (tail p 29 0 count)) ≡ p.days
  same_days =
      let es = entries_from 1 (tail p 29 0 count) in
      let m = lines.many in
      let n = length-map es day_in in
      ext_get_or 0 (map day_in es) p.days (n ∙ m ∙ sym s.long) (λ j h. lines.days j (omega arith) ∙ ap (day p.days) (zero-add j))

  same_figure : (k : ℕ) → get_or (map figure_in (entries_from 1 (tail p 29 0 count))) k None ≡ p.figure k
  same_figure k =
      let es = entries_from 1 (tail p 29 0 count) in
      let m = lines.many in
      let n = length-map es figure_in in
      ⊎_elim
      (λ (h : k < 29). lines.figures k h ∙ ap (λ j. p.figure j) (zero-add k))
      (λ (h : 29 ≤ k). get_or_past (map figure_in es) k None (omega arith) ∙ sym (s.past k h))
      (cases_lt k 29)

  early : p.valuation < 2 ^ 30
  early = let d = s.dated in omega arith

  same_page : told_page (words_of p) ≡ p
  unfolding count
  same_page = λ i. record { valuation = load_of 2 p.valuation (omega arith) early i; days = same_days i; figure = λ k. same_figure k i }

  words_pass : first_failing (asked (words_of p)) ≡ None
  unfolding count
  words_pass =
      let v = load_of 2 p.valuation (omega arith) early in
      let d = s.dated in
      passed_first (of_words opening 0 (words_of p)) _ (passed_at opening 0 (words_of p) (omega arith) (opening_passes 0 (of_kind 2 p.valuation) (kind_of 2 p.valuation (omega arith) early) (omega arith)) ∙ lines.passes)
      ∙ ap (λ d. first_failing (of_days d 29 0)) same_days ∙ lawful_passes p.days s.lawful 29 0 (omega arith)

  pub words_accepted : accepted (words_of p) ≡ true
  words_accepted = ap (λ (o : Option Refusal). not (is_some o)) words_pass

  pub words_mean : sheet_page (words_of p) ≡ p
  words_mean = means_told (words_of p) words_accepted ∙ same_page
