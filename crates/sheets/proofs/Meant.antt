-- What a sheet's reading says of the page that it means.
use Rattle.std.proofs.Common.{◌≡◌, ℕ, List, is_ok, IsOkAnd, MatchOption, MatchResult, Ok, Err, Result, sym, ap, ◌∙◌, subst, Bor}
use Rattle.std.specs.Result.{result_copied, result_ok}
use base.Stored.{Coded-set, coded_ℕ, coded_ℤ, coded_list}
use Rattle.std.specs.Coded.{coded_option}
use Rattle.days.specs.contracts.refusal.Refusal.{the_row}
use Rattle.days.specs.Questions.{refusal_of, first_failing}
use Rattle.sources.specs.Page.{Page}
use Rattle.sheets.specs.Asked.{asked}
use Rattle.sheets.specs.Kept.{Holds, Kept}
use Rattle.sheets.specs.Meaning.{blank_page, accepted, sheet_page}
use Rattle.sheets.specs.Told.{told_sheet}
use Rattle.sheets.specs.declared.fault.SheetFault.{SheetFault}
use Rattle.sheets.specs.declared.reading.Reading.{Reading}
use Rattle.sheets.proofs.Exact.{means_told, means_blank}
use Rattle.sheets.proofs.Verdicts.{ok_is}

module _ (ws : List ℕ) where
  told : (o : Result Reading SheetFault) → ∥ Kept ws o ∥₁ → refusal_of told_sheet o ≡ first_failing (asked ws)
  told o = ∥∥₁_rec (Coded-set (coded_option the_row.coded) _ _) (λ k. k.told)

  pub tested : (o : Result Reading SheetFault) → ∥ Kept ws o ∥₁ → is_ok o ≡ accepted ws
  tested o k = ok_is ws o (told o k)

  -- a verdict that is the reading's
  pub verdict_told : {T : Type 0} (P : Reading → T → Type 0) (o : Result Reading SheetFault) (v : Result T SheetFault) → ∥ Kept ws o ∥₁ → MatchResult o (λ r. IsOkAnd v (P r)) (λ f. v ≡ Err f) → refusal_of told_sheet v ≡ first_failing (asked ws)
  verdict_told P (Ok r) (Ok x) k is = told (Ok r) k
  verdict_told P (Ok r) (Err f) k is = absurd is
  verdict_told P (Err f) v k is = ap (λ (u : Result _ SheetFault). refusal_of told_sheet u) is ∙ told (Err f) k

  module _ (r : Reading) (k : ∥ Kept ws (Ok r) ∥₁) where
    holds : Kept ws (Ok r) → Holds (sheet_page ws) r
    holds k' = subst (λ (p : Page). Holds p r) (sym (means_told ws (sym (tested (Ok r) k)))) k'.page

    all_held : Holds (sheet_page ws) r
    all_held = record {
      dated = ∥∥₁_rec (Coded-set coded_ℕ _ _) (λ k'. (holds k').dated) k;
      tabled = ∥∥₁_rec (Coded-set (coded_list coded_ℕ) _ _) (λ k'. (holds k').tabled) k;
      shown = λ n. ∥∥₁_rec (Coded-set (coded_option coded_ℤ) _ _) (λ k'. (holds k').shown n) k;
    }

  -- what a sheet's reading tells, if it is lent; otherwise the sheet means the blank page
  pub means : (o : Result Reading SheetFault) (lent : Result (Bor Reading) (Bor SheetFault)) → ∥ Kept ws o ∥₁ → result_copied lent ≡ o → MatchOption (result_ok lent) (sheet_page ws ≡ blank_page) (λ x. Holds (sheet_page ws) x.now)
  means (Ok x) (Ok b) k is = let z : b.now ≡ x = cc in subst (λ (q : Reading). Holds (sheet_page ws) q) (sym z) (all_held x k)
  means (Ok x) (Err e) k is = absurd cc
  means (Err f) (Ok b) k is = absurd cc
  means (Err f) (Err e) k is = means_blank ws (sym (tested (Err f) k))
