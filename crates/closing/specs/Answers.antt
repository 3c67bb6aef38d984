-- What a call answers, and what it leaves of the board that it is made on. Assumes nothing.
use Rattle.std.specs.Prelude.{◌≡◌, ℕ, ℤ, Some, None, Ok, Err, Option, Result}
use Rattle.boards.specs.Board.{OnlyQuote}
use Rattle.boards.specs.declared.board.Board.{Board}
use Rattle.days.specs.declared.refusal.Refusal.{Refusal}
use Rattle.closing.specs.declared.answer.Answer.{Answer}
use Rattle.closing.specs.declared.answer.Answer.TheVariants.{Done, Refused}
use Rattle.journal.specs.declared.command.Which.{Which}
use Rattle.journal.specs.declared.complaint.Complaint.{Complaint}
use Rattle.journal.specs.declared.complaint.Complaint.TheVariants.{BoardNotMade}

-- the answer to a call that the library accepts, or refuses so
abbrev pub answer_to : Option Refusal → Answer
answer_to None = Done
answer_to (Some r) = Refused r

-- the answer of what needs a board; without it there is no command
abbrev pub on_board : Which → Option Board → Result Answer Complaint → Result Answer Complaint
on_board w None r = Err (BoardNotMade w)
on_board w (Some b) r = r

abbrev pub answer_on : Which → Option Board → Option Refusal → Result Answer Complaint
answer_on w board refusal = on_board w board (Ok (answer_to refusal))

-- the board after a call that makes provider p's quote for line k this one, unless it is refused
abbrev pub Called : Option Refusal → Option Board → Option Board → ℕ → ℕ → Option ℤ → Type 0
Called refusal None after p k o = after ≡ None
Called None (Some b) after p k o = (a : Board) × (after ≡ Some a) × OnlyQuote b a p k o
Called (Some r) (Some b) after p k o = after ≡ Some b
