-- What questions that were put in order tell. Assumes nothing.
use Rattle.std.proofs.Common.{◌≡◌, ℕ, Bool, true, false, cond, List, [], ◌∷◌, ◌++◌, Some, None, Option, sym, refl, ap, ◌∙◌, arith, MatchOption}
use Rattle.days.specs.declared.refusal.Refusal.{Refusal}
use Rattle.std.specs.Option.{option_or}
use Rattle.days.specs.Questions.{Question, first_failing, AllPass, FirstToFail, ToldInOrder}

pub passed : (b : Bool) (o : Option Refusal) (r : Refusal) → cond b o (Some r) ≡ None → (b ≡ true) × (o ≡ None)
passed true o r e = (refl, e)
passed false o r e = absurd (let z : ◌≡◌ {A = ℕ} 0 1 = cc in omega arith)

pub first_passes : (q : Question) (qs : List Question) → None ≡ first_failing (q ∷ qs) → (q.passes ≡ true) × (None ≡ first_failing qs)
first_passes q qs e = let p = passed q.passes (first_failing qs) q.otherwise (sym e) in (p.0, sym p.1)

-- one question more in front
asked : (q : Question) (qs : List Question) (b : Bool) → q.passes ≡ b →
    MatchOption (first_failing qs) (AllPass qs) (λ r. (f : Question) × FirstToFail qs f × (f.otherwise ≡ r)) →
    MatchOption (cond b (first_failing qs) (Some q.otherwise)) (AllPass (q ∷ qs)) (λ r. (f : Question) × FirstToFail (q ∷ qs) f × (f.otherwise ≡ r))
asked q qs false e h = (q, record { before = []; after = qs; stands = refl; passed = tt; fails = e }, refl)
asked q qs true e h = on (first_failing qs) h
  where
    on : (o : Option Refusal) → MatchOption o (AllPass qs) (λ r. (f : Question) × FirstToFail qs f × (f.otherwise ≡ r)) → MatchOption o (AllPass (q ∷ qs)) (λ r. (f : Question) × FirstToFail (q ∷ qs) f × (f.otherwise ≡ r))
    on None g = (e, g)
    on (Some r) g = (g.0, record { before = q ∷ g.1.before; after = g.1.after; stands = ap (λ (l : List Question). q ∷ l) g.1.stands; passed = (e, g.1.passed); fails = g.1.fails }, g.2)

pub told_in_order : ToldInOrder
told_in_order [] = tt
told_in_order (q ∷ qs) = asked q qs q.passes refl (told_in_order qs)

-- one list of questions after another
joined : (b : Bool) (o u : Option Refusal) (r : Refusal) → option_or (cond b o (Some r)) u ≡ cond b (option_or o u) (Some r)
joined true o u r = refl
joined false o u r = refl

pub first_failing-append : (xs ys : List Question) → first_failing (xs ++ ys) ≡ option_or (first_failing xs) (first_failing ys)
first_failing-append [] ys = refl
first_failing-append (q ∷ qs) ys =
    ap (λ o. cond q.passes o (Some q.otherwise)) (first_failing-append qs ys) ∙ sym (joined q.passes (first_failing qs) (first_failing ys) q.otherwise)
