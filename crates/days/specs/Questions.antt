-- The questions a call puts, in their order, and the refusal it answers. Assumes nothing.
use Rattle.std.specs.Prelude.{◌≡◌, ℕ, Bool, true, false, cond, List, [], ◌∷◌, ◌++◌, Some, None, Ok, Err, Option, Result, MatchOption}
use Rattle.days.specs.declared.refusal.Layer.{Layer}
use Rattle.days.specs.declared.refusal.Refusal.{Refusal}

abbrev pub refusal : ℕ → Layer → ℕ → Refusal
refusal n l p = record { number = n; layer = l; place = p }

-- a question, and what is told where it fails
pub record Question : Type 0 where
  pub passes : Bool
  pub otherwise : Refusal

abbrev pub ask : Bool → Refusal → Question
ask b r = record { passes = b; otherwise = r }

-- the refusal of the first question that fails, or nothing: the call is then accepted
abbrev pub first_failing : List Question → Option Refusal
first_failing [] = None
first_failing (q ∷ qs) = cond q.passes (first_failing qs) (Some q.otherwise)

abbrev pub AllPass : List Question → Type 0
AllPass [] = Unit {0}
AllPass (q ∷ qs) = (q.passes ≡ true) × AllPass qs

-- q is a question that fails, and all before it pass
pub record FirstToFail (qs : List Question) (q : Question) : Type 0 where
  pub before : List Question
  pub after : List Question
  pub stands : qs ≡ before ++ (q ∷ after)
  pub passed : AllPass before
  pub fails : q.passes ≡ false

-- where nothing is told all questions pass, and what is told is what the first to fail tells
abbrev pub ToldInOrder : Type 0
ToldInOrder = (qs : List Question) → MatchOption (first_failing qs) (AllPass qs) (λ r. (q : Question) × FirstToFail qs q × (q.otherwise ≡ r))

-- what a call's answer tells, by what its faults tell
abbrev pub refusal_of : {T E : Type 0} → (E → Refusal) → Result T E → Option Refusal
refusal_of told (Ok x) = None
refusal_of told (Err f) = Some (told f)

-- the fault f tells the refusal r, and no other fault does
abbrev pub Tells : {F : Type 0} → (F → Refusal) → F → Refusal → Type 0
Tells {F} told f r = (r ≡ told f) × ((g : F) → told g ≡ r → g ≡ f)
