-- What an answer and the end of a run print, where it is stated: not a page's lines, nor what the system says of a file.
-- Assumes nothing.
use Rattle.std.specs.Prelude.{ℕ, List, ◌++◌, Some, None, Option, codes}
use Rattle.std.specs.Fmt.{decimal}
use Rattle.days.specs.Layers.{text_of}
use Rattle.journal.specs.Wording.{wording}
use Rattle.closing.specs.declared.answer.Answer.{Answer}
use Rattle.closing.specs.declared.answer.Answer.TheVariants.{Done, Refused, Page as Shows}
use Rattle.closing.specs.declared.stop.Stop.{Stop}
use Rattle.closing.specs.declared.stop.Stop.TheVariants.{BadLine, NoArguments, Unreadable, Unwritable}

abbrev pub answer_text : Answer → Option (List ℕ)
answer_text Done = Some (codes "ok")
answer_text (Shows p) = None
answer_text (Refused r) = Some (codes "refused " ++ text_of r)

abbrev pub stop_text : Stop → Option (List ℕ)
stop_text (BadLine number complaint) = Some (codes "error: line " ++ (decimal number ++ (codes ": " ++ wording complaint)))
stop_text (NoArguments why) = None
stop_text (Unreadable input why) = None
stop_text (Unwritable why) = None
