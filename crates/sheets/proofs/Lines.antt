-- One line's entry more: what is asked of it, and what it tells.
use Rattle.std.proofs.Common.{◌≡◌, ℕ, suc, ◌+◌, ◌<◌, Bool, true, false, cond, eqb, List, [], ◌∷◌, ◌++◌, map, length, take, set, is_some, Some, None, Option, sym, refl, ap, ◌∙◌, subst, append_assoc, add-one, arith}
use Rattle.std.proofs.lemmas.List.{take_more_set}
use Rattle.std.proofs.lemmas.Bool.{lt-ltb}
use Rattle.std.specs.Option.{option_to_list}
use Rattle.sheets.proofs.Due.{refused_first, passed_first}
use Rattle.days.specs.Questions.{first_failing, refusal}
use Rattle.days.specs.declared.refusal.Layer.TheVariants.{Sheet}
use Rattle.days.specs.declared.refusal.Refusal.{Refusal}
use Rattle.sheets.specs.Asked.{Due, head, closing, line, of_words, of_entry}
use Rattle.sheets.specs.Entries.{Item, item, entries_from, words_in}
use Rattle.sheets.specs.Reader.{left, Hands, ReadSo}
use Rattle.sheets.specs.Views.{line_told, seen}
use Rattle.sheets.specs.Words.{kind}
use Rattle.sheets.specs.declared.checking.Line.{Line}
use Rattle.sheets.specs.declared.entry.Entries.{Entries}
use Rattle.sheets.specs.declared.entry.Placed.{Placed}

pub line_head : (k : ℕ) → k < 29 → line k ≡ head k
line_head k h = ap (λ b. cond b (head k) closing) (lt-ltb k 29 h)

-- what an entry that is the first of the words says of their kinds
headed : (b : Bool) (l es : List Item) (e : Item) → cond b l [] ≡ e ∷ es → (b ≡ true) × (l ≡ e ∷ es)
headed true l es e h = (refl, h)
headed false l es e h = absurd cc

abbrev place_first : List Item → ℕ
place_first [] = 0
place_first (e ∷ es) = e.place

abbrev figured : List Item → Bool
figured [] = false
figured (e ∷ es) = is_some e.figure

figure_follows : (b : Bool) (i h f p : ℕ) (o : Option ℕ) (xs ys es : List Item) → cond b (item i h (Some f) ∷ xs) (item i h None ∷ ys) ≡ item p h o ∷ es → (b ≡ is_some o) × (p ≡ i)
figure_follows true i h f p o xs ys es e = (ap figured e, sym (ap place_first e))
figure_follows false i h f p o xs ys es e = (ap figured e, sym (ap place_first e))

-- an entry where line k is due
pub due : (k i p h : ℕ) (f : Option ℕ) (vs : List ℕ) (es : List Item) → entries_from i (h ∷ (option_to_list f ++ vs)) ≡ item p h f ∷ es → first_failing (of_words (head k) i (h ∷ (option_to_list f ++ vs))) ≡ first_failing (of_entry k (item p h f) ++ of_words (line (suc k)) (i + length (h ∷ option_to_list f)) vs)
unfolding entries_from of_words
due k i p h None [] es e =
    let a = headed (eqb (kind h) 0) _ es (item p h None) e in
    let q : p ≡ i = sym (ap place_first a.1) in
    rw (a.0, q)
due k i p h None (w ∷ vs) es e =
    let a = headed (eqb (kind h) 0) _ es (item p h None) e in
    let b = figure_follows (eqb (kind w) 1) i h w p None _ _ es a.1 in
    let q = b.1 in
    rw (a.0, b.0, q)
due k i p h (Some f) vs es e =
    let a = headed (eqb (kind h) 0) _ es (item p h (Some f)) e in
    let b = figure_follows (eqb (kind f) 1) i h f p (Some f) _ _ es a.1 in
    let q = b.1 in
    let n : i + 1 + 1 ≡ i + 2 = omega arith in
    rw (a.0, b.0, q, n, b.0)

-- an entry that is handed out where line k is due
handed : (k : ℕ) (s t : Entries) (x : Placed) → k < 29 → Hands s x t → first_failing (of_words (line k) s.place s.rest.now) ≡ first_failing (of_entry k (seen x) ++ of_words (line (suc k)) t.place t.rest.now)
handed k s t x low h =
    let e = seen x in
    let vs = t.rest.now in
    let first : entries_from s.place (words_in e ++ vs) ≡ e ∷ left t = subst (λ (l : List ℕ). entries_from s.place l ≡ e ∷ left t) h.words h.first in
    ap (λ (u : Due). first_failing (of_words u s.place s.rest.now)) (line_head k low)
    ∙ ap (λ (l : List ℕ). first_failing (of_words (head k) s.place l)) h.words
    ∙ due k s.place e.place e.head e.figure vs (left t) first
    ∙ ap (λ (n : ℕ). first_failing (of_entry k e ++ of_words (line (suc k)) n vs)) (sym h.onward)

-- no entry is left where line k is due
no_head : (b : Bool) (e : Item) (es : List Item) → cond b (e ∷ es) [] ≡ [] → b ≡ false
no_head true e es h = absurd cc
no_head false e es h = refl

no_head_two : (b c : Bool) (e f : Item) (es fs : List Item) → cond b (cond c (e ∷ es) (f ∷ fs)) [] ≡ [] → b ≡ false
no_head_two true true e f es fs h = no_head true e es h
no_head_two true false e f es fs h = no_head true f fs h
no_head_two false c e f es fs h = refl

none_due : (k i : ℕ) (ws : List ℕ) → entries_from i ws ≡ [] → first_failing (of_words (head k) i ws) ≡ Some (refusal 11 Sheet i)
unfolding entries_from of_words
none_due k i [] e = refl
none_due k i (h ∷ []) e = rw (no_head (eqb (kind h) 0) _ _ e)
none_due k i (h ∷ f ∷ ws) e = rw (no_head_two (eqb (kind h) 0) (eqb (kind f) 1) _ _ _ _ e)

module _ (k : ℕ) (s t : Entries) (lines : List Line) (low : k < 29) (r : ReadSo k s t lines) where
  pub stopped_none : left t ≡ [] → first_failing (of_words (line 0) s.place s.rest.now) ≡ Some (refusal 11 Sheet t.place)
  stopped_none e = sym r.asked ∙ ap (λ (u : Due). first_failing (of_words u t.place t.rest.now)) (line_head k low) ∙ none_due k t.place t.rest.now e

  module _ (x : Placed) (u : Entries) (h : Hands t x u) where
    pub stopped : (f : Refusal) → first_failing (of_entry k (seen x)) ≡ Some f → first_failing (of_words (line 0) s.place s.rest.now) ≡ Some f
    stopped f e = sym r.asked ∙ handed k t u x low h ∙ refused_first (of_entry k (seen x)) _ f e

    pub read_more : (l : Line) → length lines ≡ 29 → first_failing (of_entry k (seen x)) ≡ None → l ≡ line_told (seen x) → ReadSo (k + 1) s u (set lines k l)
    read_more l many passes is = record {
      asked =
          ap (λ (n : ℕ). first_failing (of_words (line n) u.place u.rest.now)) (add-one k)
          ∙ sym (handed k t u x low h ∙ passed_first (of_entry k (seen x)) _ passes) ∙ r.asked;
      told =
          ap (λ l. l ++ map line_told (left u)) (take_more_set lines k l (omega arith)) ∙ append_assoc (take k lines) (l ∷ []) (map line_told (left u)) ∙ ap (λ b. take k lines ++ (b ∷ map line_told (left u))) is
          ∙ ap (λ l. take k lines ++ map line_told l) (sym h.first) ∙ r.told;
    }
