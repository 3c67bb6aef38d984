use Rattle.std.proofs.Common.{◌≡◌, ℕ, ◌+◌, ◌*◌, ◌≤◌, true, false, eqb, List, ◌∷◌, length, get_or, Some, None, sym, refl, ap, ◌∙◌, arith, Bor, rules}
use Rattle.std.proofs.lemmas.List.{take_rest}
use Rattle.sheets.specs.Words.{kind}
use Rattle.sheets.specs.Entries.{item, entries_from}
use Rattle.sheets.specs.Reader.{address, ReadsFrom}
use Rattle.sheets.specs.declared.entry.Entries.{Entries}
use Rattle.sheets.proofs.Handed.{entries_quoted, entries_bare, entries_none, one_word, two_words, further}
use Rattle.sheets.proofs.entries.EntriesIterator.next.Goals as goal

-- where the word n places further on lies
lies : (w : Bor (List ℕ)) (s : Entries) (n m : ℕ) → m ≡ s.place + n → ReadsFrom w s → ◌≡◌ {A = ℕ × ℕ} (s.rest.ref_ptr.0, n * 4 + s.rest.ref_ptr.1) (address w m)
lies w s n m h e = further w.ref_ptr.0 w.ref_ptr.1 s.place n m s.rest.ref_ptr h e

pub returns-in-len2-up-clause-steps : goal.returns-in-len2-up-clause-steps
returns-in-len2-up-clause-steps c =
    let s = c.args.self.now in
    let i = s.place in
    let ws = s.rest.now in
    let long : 2 ≤ length ws = search rules in
    let head : eqb (kind (get_or ws 0 0)) 0 ≡ true = search rules in
    let figure : eqb (kind (get_or ws 1 0)) 1 ≡ true = search rules in
    let more = entries_quoted i ws long head figure ∙ ap (λ l. item i (get_or ws 0 0) (Some (get_or ws 1 0)) ∷ entries_from (i + 2) l) (sym (take_rest ws 2)) in
    let words = two_words ws long ∙ ap (λ l. get_or ws 0 0 ∷ get_or ws 1 0 ∷ l) (sym (take_rest ws 2)) in
    record {
      first = more;
      here = refl;
      words = words;
      onward = refl;
      lies = λ w e. ((lies w s 0 i (omega arith) e, lies w s 1 (i + 1) (omega arith) e), lies w s 2 (i + 2) (omega arith) e);
    }

pub returns-in-len1-up-clause-steps : goal.returns-in-len1-up-clause-steps
returns-in-len1-up-clause-steps c =
    let s = c.args.self.now in
    let i = s.place in
    let ws = s.rest.now in
    let long : 1 ≤ length ws = search rules in
    let head : eqb (kind (get_or ws 0 0)) 0 ≡ true = search rules in
    let figure : 2 ≤ length ws → eqb (kind (get_or ws 1 0)) 1 ≡ false = search rules in
    let more = entries_bare i ws long head figure ∙ ap (λ l. item i (get_or ws 0 0) None ∷ entries_from (i + 1) l) (sym (take_rest ws 1)) in
    let words = one_word ws long ∙ ap (λ l. get_or ws 0 0 ∷ l) (sym (take_rest ws 1)) in
    record {
      first = more;
      here = refl;
      words = words;
      onward = refl;
      lies = λ w e. (lies w s 0 i (omega arith) e, lies w s 1 (i + 1) (omega arith) e);
    }

pub returns-in_default-clause-steps : goal.returns-in_default-clause-steps
returns-in_default-clause-steps c =
    let i = c.args.self.now.place in
    let ws = c.args.self.now.rest.now in
    let head : 1 ≤ length ws → eqb (kind (get_or ws 0 0)) 0 ≡ false = search rules in
    let rest : c.in_default.self.rest ≡ c.args.self.now.rest = search rules in
    let place : c.in_default.self.place ≡ i = search rules in
    (entries_none i ws head, rest, place)
