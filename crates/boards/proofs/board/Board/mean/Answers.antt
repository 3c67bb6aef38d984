use Rattle.std.proofs.Common.{◌≡◌, ℕ, List, ℤ, Some, Option, sym, ap, ◌∙◌, subst, arith, w64, SFits, rules}
use Rattle.std.proofs.lemmas.Int.{ints, to_z-of_z}
use Rattle.boards.specs.Mean.{Shows, shown}
use Rattle.boards.proofs.Means.{shows, shows_one}
use Rattle.boards.proofs.Sums.{Quotient, quotient, no_quotient}
use Rattle.boards.proofs.board.Board.mean.Goals as goal

told : (s : List ℕ) (q : List (List (Option ℤ))) (k : ℕ) (o : Option ℤ) → o ≡ shown s q k → record { answer : o ≡ shown s q k; shows : Shows s q k o; one : (p : Option ℤ) → Shows s q k p → p ≡ o }
told s q k o e = record { answer = e; shows = subst (Shows s q k) (sym e) (shows s q k); one = λ p h. shows_one s q k p h ∙ sym e }

quoted : (c : goal.In_ok-mean) → Quotient c.args.self.now c.args.line c.in_ok-mean.mean
quoted c =
    let f : SFits w64 c.sums-weight.result.total = search rules in
    quotient c.args.self.now c.args.line _ _ c.sums-weight.ensures.totals c.sums-weight.ensures.weights c.in_ok-mean.mean (simp to_z-of_z at c.in_ok-mean.ensures.answer)

pub overflow_cast-result : goal.overflow_cast-result
overflow_cast-result c = let q = quoted c in omega (arith, ints, q.low, q.high)

pub returns-in_err-mean : goal.returns-in_err-mean
returns-in_err-mean c =
    let none = no_quotient c.args.self.now c.args.line _ _ c.sums-weight.ensures.totals c.sums-weight.ensures.weights c.in_err-mean.ensures.answer in
    told _ _ _ _ (cc none)

pub returns : goal.returns
returns c =
    let q = quoted c in
    told _ _ _ _ (ap Some (omega (arith, ints, q.low, q.high)) ∙ sym q.is)
