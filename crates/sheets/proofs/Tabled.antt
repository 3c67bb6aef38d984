-- What the days of a sheet are asked. Assumes nothing.
use Rattle.std.proofs.Common.{◌≡◌, ℕ, zero, suc, ◌+◌, ◌<◌, ◌≤◌, Bool, true, false, cond, List, Some, None, Ok, Err, Result, MatchResult, IsErrAnd, sym, refl, ap, ◌∙◌, subst, ⊎_elim, arith}
use Rattle.std.proofs.lemmas.Bool.{both_ways, cases_Bool, cases_eq}
use Rattle.days.proofs.Asked.{passed}
use Rattle.days.proofs.Rules.{decides_bounded, bounded_from_ruled, ruled_from_bounded}
use Rattle.days.specs.Bounds.{bounded}
use Rattle.days.specs.Days.{Ruled, Lawful, Breach}
use Rattle.days.specs.Questions.{first_failing, refusal}
use Rattle.days.specs.declared.refusal.Layer.TheVariants.{Sheet}
use Rattle.days.specs.declared.refusal.Refusal.{Refusal}
use Rattle.days.specs.Tabled.{Tabled}
use Rattle.days.specs.Told.{told_source}
use Rattle.days.specs.declared.fault.SourceFault.{SourceFault}
use Rattle.days.specs.declared.table.DayTable.{DayTable}
use Rattle.sheets.specs.Asked.{of_days}
use Rattle.sheets.specs.Told.{told_sheet}
use Rattle.sheets.specs.declared.fault.SheetFault.{SheetFault}
use Rattle.sheets.specs.declared.fault.SheetFault.TheVariants.{UnlawfulDay}

passes : (d : List ℕ) (k : ℕ) → k < 29 → Ruled d k → bounded d k ≡ true
passes d k h r = (decides_bounded d k).1 (bounded_from_ruled d k h r)

fails : (d : List ℕ) (k : ℕ) → (Ruled d k → ⊥) → bounded d k ≡ false
fails d k h = ⊎_elim (λ t. absurd (h (ruled_from_bounded d k ((decides_bounded d k).0 t)))) (λ f. f) (cases_Bool (bounded d k))

-- of n lines from line k on
pub lawful_passes : (d : List ℕ) → Lawful d → (n k : ℕ) → k + n ≤ 29 → first_failing (of_days d n k) ≡ None
unfolding of_days
lawful_passes d l zero k h = refl
lawful_passes d l (suc n) k h = rw (passes d k (omega arith) (l k (omega arith))) (lawful_passes d l n (suc k) (omega arith))

pub breach_told : (d : List ℕ) (j : ℕ) → Breach d j → (n k : ℕ) → k ≤ j → j < k + n → first_failing (of_days d n k) ≡ Some (refusal 15 Sheet j)
unfolding of_days
breach_told d j b zero k h l = absurd (omega arith)
breach_told d j b (suc n) k h l =
    ⊎_elim
    (λ (e : k ≡ j). subst (λ i. first_failing (of_days d (suc n) i) ≡ Some (refusal 15 Sheet j)) (sym e) (rw (fails d j b.fails)))
    (λ (n' : k ≡ j → ⊥). rw (passes d k (omega (arith, b.place)) (b.before k (omega arith))) (breach_told d j b n (suc k) (omega arith) (omega arith)))
    (cases_eq k j)

-- a table whose refusal is told as the sheet's own, at the same line
pub told_as_own : {P : SourceFault → SheetFault → Type 0} (d : List ℕ) (r : Result DayTable SourceFault) (u : Result DayTable SheetFault) → ((f : SourceFault) (g : SheetFault) → P f g → g ≡ UnlawfulDay (told_source f).place) → Tabled d r → MatchResult r (λ t. u ≡ Ok t) (λ f. IsErrAnd u (P f)) → MatchResult u (λ t. (t.days ≡ d) × (first_failing (of_days d 29 0) ≡ None)) (λ f. first_failing (of_days d 29 0) ≡ Some (told_sheet f))
told_as_own d (Ok t) u own made is =
    subst (λ (v : Result DayTable SheetFault). MatchResult v (λ t. (t.days ≡ d) × (first_failing (of_days d 29 0) ≡ None)) (λ f. first_failing (of_days d 29 0) ≡ Some (told_sheet f))) (sym is)
    (made.0, lawful_passes d made.1 29 0 (omega arith))
told_as_own d (Err f) (Ok t) own breach is = absurd is
told_as_own d (Err f) (Err g) own breach is =
    breach_told d breach.0 breach.2 29 0 (omega arith) (omega (arith, breach.2.place))
    ∙ ap (λ (h : SheetFault). Some (told_sheet h)) (sym (own f g is ∙ ap (λ (r : Refusal). UnlawfulDay r.place) breach.1))

ruled_from_pass : (d : List ℕ) (n k : ℕ) → first_failing (of_days d n k) ≡ None → (j : ℕ) → k ≤ j → j < k + n → Ruled d j
unfolding of_days
ruled_from_pass d zero k e j h l = absurd (omega arith)
ruled_from_pass d (suc n) k e j h l =
    let p = passed (bounded d k) _ _ e in
    ⊎_elim
    (λ (q : k ≡ j). subst (Ruled d) q (ruled_from_bounded d k ((decides_bounded d k).0 p.0)))
    (λ (q : k ≡ j → ⊥). ruled_from_pass d n (suc k) p.1 j (omega arith) (omega arith))
    (cases_eq k j)

pub lawful_from_pass : (d : List ℕ) → first_failing (of_days d 29 0) ≡ None → Lawful d
lawful_from_pass d e k h = ruled_from_pass d 29 0 e k (omega arith) h

-- the line that a refusal of the days tells is the lowest in breach
record LowestFrom (d : List ℕ) (n k j : ℕ) : Type 0 where
  within : j < k + n
  broken : Ruled d j → ⊥
  lower : (i : ℕ) → k ≤ i → i < j → Ruled d i

lowest_here : (d : List ℕ) (n k j : ℕ) (b : Bool) → bounded d k ≡ b → k < 29 → cond b (first_failing (of_days d n (suc k))) (Some (refusal 15 Sheet k)) ≡ Some (refusal 15 Sheet j) → (first_failing (of_days d n (suc k)) ≡ Some (refusal 15 Sheet j) → LowestFrom d n (suc k) j) → LowestFrom d (suc n) k j
lowest_here d n k j true is low e onward =
    let r = onward e in
    let here = ruled_from_bounded d k ((decides_bounded d k).0 is) in
    record {
      within = omega (arith, r.within);
      broken = r.broken;
      lower = λ i h l. ⊎_elim (λ (q : k ≡ i). subst (Ruled d) q here) (λ (q : k ≡ i → ⊥). r.lower i (omega arith) l) (cases_eq k i);
    }
lowest_here d n k j false is low e onward =
    let told : refusal 15 Sheet k ≡ refusal 15 Sheet j = cc in
    let same : k ≡ j = ap (λ (r : Refusal). r.place) told in
    record {
      within = omega arith;
      broken = λ r. both_ways (bounded d k) is (passes d k low (subst (Ruled d) (sym same) r));
      lower = λ i h l. absurd (omega arith);
    }

lowest_from : (d : List ℕ) (n k j : ℕ) → k + n ≤ 29 → first_failing (of_days d n k) ≡ Some (refusal 15 Sheet j) → LowestFrom d n k j
unfolding of_days
lowest_from d zero k j l e = absurd cc
lowest_from d (suc n) k j l e = lowest_here d n k j (bounded d k) refl (omega arith) e (lowest_from d n (suc k) j (omega arith))

pub told_breach : (d : List ℕ) (j : ℕ) → first_failing (of_days d 29 0) ≡ Some (refusal 15 Sheet j) → Breach d j
told_breach d j e =
    let r = lowest_from d 29 0 j (omega arith) e in
    record { place = omega (arith, r.within); fails = r.broken; before = λ i h. r.lower i (omega arith) h }
