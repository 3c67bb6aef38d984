-- Every page that a sheet means is sound, and an accepted sheet is the words of the page that it means.
use Rattle.std.proofs.Common.{◌≡◌, ℕ, ◌+◌, ◌≤◌, Bool, true, false, cond, not, eqb, leb, List, [], ◌∷◌, ◌++◌, map, length, get_or, is_some, Some, None, Option, sym, refl, ap, ◌∙◌, subst, zero-add, arith}
use Rattle.std.proofs.lemmas.List.{length-map, get_or_past}
use Rattle.std.proofs.lemmas.Bool.{eqb-true, leb-true}
use Rattle.std.specs.Option.{option_or}
use Rattle.days.proofs.Asked.{passed, first_failing-append}
use Rattle.days.proofs.Rules.{bounded_from_test, lawful_from_bounded}
use Rattle.days.specs.Days.{blank_days}
use Rattle.days.specs.Lines.{InRange}
use Rattle.days.specs.Questions.{first_failing}
use Rattle.days.specs.declared.refusal.Refusal.{Refusal}
use Rattle.sources.specs.Page.{Sound}
use Rattle.sheets.specs.Asked.{opening, of_words, of_days, asked}
use Rattle.sheets.specs.Encoding.{of_kind, body, words_of, lines_from}
use Rattle.sheets.specs.Entries.{Item, entries_from, entries_of, day_in, figure_in}
use Rattle.sheets.specs.Meaning.{blank_page, told_page, accepted, sheet_page}
use Rattle.sheets.specs.Words.{kind, load}
use Rattle.sheets.proofs.Fields.{of_kind_lem}
use Rattle.sheets.proofs.Spelled.{spelled_from, Told, told, lines_spelled}
use Rattle.sheets.proofs.Tabled.{lawful_from_pass}

none_first : (o u : Option Refusal) → option_or o u ≡ None → (o ≡ None) × (u ≡ None)
none_first None u e = (refl, e)
none_first (Some r) u e = absurd cc

-- the page that words tell, and what passing their questions says
pub record Exact (ws : List ℕ) : Type 0 where
  pub sound : Sound (told_page ws)
  pub words : ws ≡ words_of (told_page ws)

pub record Opened (w : ℕ) (vs : List ℕ) : Type 0 where
  pub is_opening : kind w ≡ 2
  pub in_time : load w ≤ 100000
  pub lines : Told 29 0 1 vs (entries_from 1 vs)
  pub lawful : first_failing (of_days (map day_in (entries_from 1 vs)) 29 0) ≡ None

opened : (w : ℕ) (vs : List ℕ) → first_failing (asked (w ∷ vs)) ≡ None → Opened w vs
unfolding of_words
opened w vs e =
    let p = none_first _ _ (sym (first_failing-append (of_words opening 0 (w ∷ vs)) (of_days (map day_in (entries_of (w ∷ vs))) 29 0)) ∙ e) in
    let a = passed (eqb (kind w) 2) _ _ p.0 in
    let b = passed (leb (load w) 100000) _ _ a.1 in
    record { is_opening = eqb-true (kind w) 2 a.0; in_time = leb-true (load w) 100000 b.0; lines = told 29 0 1 vs refl b.1; lawful = p.1 }

module _ (w : ℕ) (vs : List ℕ) (o : Opened w vs) where
  es : List Item
  es = entries_from 1 vs

  t : Told 29 0 1 vs es
  unfolding es
  t = o.lines

  told_sound : Sound (told_page (w ∷ vs))
  unfolding es t
  told_sound = record {
    dated = o.in_time;
    long = length-map es day_in ∙ t.many;
    lawful = lawful_from_pass (map day_in es) o.lawful;
    ranged = λ k x e. subst (λ n. InRange n x) (zero-add k) (t.fair k x e);
    past = λ k h. get_or_past (map figure_in es) k None (let n = length-map es figure_in in let m = t.many in omega arith);
  }

  told_body : body (told_page (w ∷ vs)) ≡ spelled_from 0 es
  unfolding es t
  told_body =
      ap (λ n. lines_from (told_page (w ∷ vs)) n 0) (sym t.many)
      ∙ lines_spelled (told_page (w ∷ vs)) 0 es (λ j h. ap (λ n. get_or (map day_in es) n 0) (zero-add j)) (λ j h. ap (λ n. get_or (map figure_in es) n None) (zero-add j))

  told_words : w ∷ vs ≡ words_of (told_page (w ∷ vs))
  unfolding es t
  told_words =
      ap (λ x. x ∷ vs) (of_kind_lem w ∙ ap (λ n. of_kind n (load w)) o.is_opening)
      ∙ ap (λ l. of_kind 2 (load w) ∷ l) (t.words ∙ ap (λ l. l ++ (of_kind 3 (1 + length l) ∷ [])) (sym told_body))

none_from_test : (o : Option Refusal) → not (is_some o) ≡ true → o ≡ None
none_from_test None e = refl
none_from_test (Some r) e = absurd cc

-- an accepted sheet has an opening word, and its lines are told
abbrev pub OpenedWords : List ℕ → Type 0
OpenedWords [] = ⊥
OpenedWords (w ∷ vs) = Opened w vs

pub accepted_opened : (ws : List ℕ) → accepted ws ≡ true → OpenedWords ws
unfolding of_words
accepted_opened [] e = absurd cc
accepted_opened (w ∷ vs) e = opened w vs (none_from_test (first_failing (asked (w ∷ vs))) e)

pub exact : (ws : List ℕ) → accepted ws ≡ true → Exact ws
exact [] e = absurd (accepted_opened [] e)
exact (w ∷ vs) e = let o = accepted_opened (w ∷ vs) e in record { sound = told_sound w vs o; words = told_words w vs o }

blank_sound : Sound blank_page
blank_sound = record {
  dated = omega arith;
  long = refl;
  lawful = lawful_from_bounded blank_days (bounded_from_test blank_days refl);
  ranged = λ k x e. absurd cc;
  past = λ k h. refl;
}

by_test : (ws : List ℕ) (b : Bool) → accepted ws ≡ b → Sound (cond b (told_page ws) blank_page)
by_test ws true e = (exact ws e).sound
by_test ws false e = blank_sound

pub sheet_sound : (ws : List ℕ) → Sound (sheet_page ws)
unfolding sheet_page
sheet_sound ws = by_test ws (accepted ws) refl

pub means_told : (ws : List ℕ) → accepted ws ≡ true → sheet_page ws ≡ told_page ws
unfolding sheet_page
means_told ws e = ap (λ b. cond b (told_page ws) blank_page) e

pub means_blank : (ws : List ℕ) → accepted ws ≡ false → sheet_page ws ≡ blank_page
unfolding sheet_page
means_blank ws e = ap (λ b. cond b (told_page ws) blank_page) e
