-- A call on a board that was lent: what it answers and what it leaves.
use Rattle.std.proofs.Common.{◌≡◌, ℕ, ℤ, Some, Ok, Err, Option, Result, refl, ap, ◌∙◌, subst, sym, MatchResult}
use Rattle.boards.specs.Board.{OnlyQuote}
use Rattle.boards.specs.declared.board.Board.{Board}
use Rattle.days.specs.Questions.{refusal_of}
use Rattle.days.specs.Told.{told_source}
use Rattle.days.specs.declared.fault.SourceFault.{SourceFault}
use Rattle.days.specs.declared.refusal.Refusal.{Refusal}
use Rattle.closing.specs.Answers.{answer_to, answer_on, Called as Left}
use Rattle.closing.specs.Markets.{board_of, with_board, Beside}
use Rattle.closing.specs.declared.answer.Answer.{Answer}
use Rattle.closing.specs.declared.market.Market.{Market}
use Rattle.journal.specs.declared.command.Which.{Which}
use Rattle.journal.specs.declared.command.Which.TheVariants.{Today, Yesterday}
use Rattle.journal.specs.declared.complaint.Complaint.{Complaint}

put_back : (w : Which) (m : Market) (a : Board) → (board_of w (with_board w (Ok a) m) ≡ Some a) × Beside w m (with_board w (Ok a) m)
put_back Today m a = (refl, (refl, refl, refl))
put_back Yesterday m a = (refl, (refl, refl, refl))

one_quote : (b a : Board) (r : Result (Unit {0}) SourceFault) (p k : ℕ) (o : Option ℤ) → MatchResult r (λ _. OnlyQuote b a p k o) (λ _. a ≡ b) → Left (refusal_of told_source r) (Some b) (Some a) p k o
one_quote b a (Ok u) p k o h = (a, refl, h)
one_quote b a (Err f) p k o h = ap Some h

abbrev answered : Which → Option Board → Option Refusal → Result Answer Complaint → Type 0
answered w o refusal r = r ≡ answer_on w o refusal

-- the market after a call that makes provider p's quote for line k this one, unless it is refused
pub called : (w : Which) (m : Market) (b a : Board) (r : Result (Unit {0}) SourceFault) (refusal : Option Refusal) (p k : ℕ) (o : Option ℤ) →
    board_of w m ≡ Some b → refusal_of told_source r ≡ refusal → MatchResult r (λ _. OnlyQuote b a p k o) (λ _. a ≡ b) → (t : Answer) → t ≡ answer_to (refusal_of told_source r) →
    answered w (board_of w m) refusal (Ok t) × Left refusal (board_of w m) (board_of w (with_board w (Ok a) m)) p k o × Beside w m (with_board w (Ok a) m)
called w m b a r refusal p k o is asked h t told =
    let back = put_back w m a in
    let left = subst (λ (x : Option Refusal). Left x (Some b) (Some a) p k o) asked (one_quote b a r p k o h) in (
      subst (λ x. answered w x refusal (Ok t)) (sym is) (ap (λ (x : Answer). ok x) (told ∙ ap answer_to asked)),
      subst (λ (x : Option Board). Left refusal x (board_of w (with_board w (Ok a) m)) p k o) (sym is) (subst (λ (x : Option Board). Left refusal (Some b) x p k o) (sym back.0) left),
      back.1,
    )
  where
    ok : Answer → Result Answer Complaint
    ok x = Ok x
