use Rattle.std.proofs.Common.{◌≡◌, ℕ, ℤ, length, get_or, Option, refl, rules}
use Rattle.std.proofs.lemmas.Result.{err_from_is_err_and}
use Rattle.days.proofs.Made.{made}
use Rattle.sheets.specs.Entries.{no_item}
use Rattle.sheets.specs.Views.{line_told}
use Rattle.sheets.proofs.Ends.{word_refused, line_refused, closing_refused, day_refused, all_passed}
use Rattle.sheets.proofs.checking.read_words.Goals as goal

pub returns-in_err-valuation : goal.returns-in_err-valuation
returns-in_err-valuation c = search (rules, word_refused)

pub returns-in_err-lines : goal.returns-in_err-lines
returns-in_err-lines c = search (rules, line_refused)

pub returns-in_err-ask_closing : goal.returns-in_err-ask_closing
returns-in_err-ask_closing c =
    let p = err_from_is_err_and c.from_residual-in_err-ask_closing.result c.from_residual-in_err-ask_closing.ensures.1 in
    let reader = c.after_opening-entries.ensures in
    rw (p.1, p.2) (closing_refused c.args.words.now _ _ c.in_ok-valuation.ensures reader.place reader.rest _ _ c.in_ok-lines.ensures _ c.in_err-ask_closing.ensures)

pub returns-in_err-days : goal.returns-in_err-days
returns-in_err-days c =
    let p = err_from_is_err_and c.from_residual-in_err-days.result c.from_residual-in_err-days.ensures.1 in
    let long : length c.in_ok-lines.lines ≡ 29 = search rules in
    let reader = c.after_opening-entries.ensures in
    let days = c.from_fn.ensures.items in
    let each = made _ _ (λ (k : ℕ) (d : ℕ). d ≡ (get_or c.in_ok-lines.lines k (line_told no_item)).day) (λ k y q t. search rules) in
    rw (p.1, p.2) (day_refused c.args.words.now _ _ c.in_ok-valuation.ensures reader.place reader.rest _ _ c.in_ok-lines.ensures long c.in_ok-ask_closing.ensures c.from_fn.result days.long (λ k d h. each c.from_fn.result d 29 days k h) _ c.in_err-days.ensures)

pub returns : goal.returns
returns c =
    let long : length c.in_ok-lines.lines ≡ 29 = search rules in
    let reader = c.after_opening-entries.ensures in
    let days = c.from_fn.ensures.items in
    let figures = c.from_fn-figures.ensures.items in
    let each_day = made _ _ (λ (k : ℕ) (d : ℕ). d ≡ (get_or c.in_ok-lines.lines k (line_told no_item)).day) (λ k y q t. search rules) in
    let each_figure = made _ _ (λ (k : ℕ) (x : Option ℤ). x ≡ (get_or c.in_ok-lines.lines k (line_told no_item)).figure) (λ k y q t. search rules) in
    all_passed c.args.words.now _ _ c.in_ok-valuation.ensures reader.place reader.rest _ _ c.in_ok-lines.ensures long c.in_ok-ask_closing.ensures c.from_fn.result days.long (λ k d h. each_day c.from_fn.result d 29 days k h) _ refl c.in_ok-days.ensures figures.long (λ k x h. each_figure c.from_fn-figures.result x 29 figures k h)
