-- A call that was accepted, as its answer taken for an option says. Assumes nothing.
use Rattle.std.proofs.Common.{◌≡◌, Some, Ok, Err, Option, Result, sym, ◌∙◌, subst, MatchResult}
use Rattle.std.proofs.lemmas.Option.{same_Some}
use Rattle.std.specs.Result.{result_ok}

pub accepted : {T E : Type 0} (P : T → Type 0) (Q : E → Type 0) (r : Result T E) (o : Option T) (x : T) → o ≡ result_ok r → o ≡ Some x → MatchResult r P Q → P x
accepted P Q (Ok y) o x e s h = subst P (same_Some y x (sym e ∙ s)) h
accepted P Q (Err f) o x e s h = absurd cc
