-- What a complaint about a line prints. Assumes nothing.
use Rattle.std.specs.Prelude.{ℕ, List, ◌++◌, codes}
use Rattle.std.specs.Fmt.{decimal}
use Rattle.journal.specs.Grammar.{board_key}
use Rattle.journal.specs.Spelling.{spelled}
use Rattle.journal.specs.declared.complaint.Complaint.{Complaint}
use Rattle.journal.specs.declared.complaint.Complaint.TheVariants.{UnknownCommand, Word, BoardNotMade, NoSourceChosen}
use Rattle.journal.specs.declared.complaint.WordFault.{WordFault}
use Rattle.journal.specs.declared.complaint.WordFault.TheVariants.{Missing, Surplus, NoNumber, NoFigure, NoBoard, NoSource}

abbrev pub reason : WordFault → List ℕ
reason Missing = codes "is missing"
reason Surplus = codes "is one too many"
reason NoNumber = codes "is no number from 0 to 4294967295"
reason NoFigure = codes "is no number from -2147483648 to 2147483647"
reason NoBoard = codes "is neither today nor yesterday"
reason NoSource = codes "is out of place in a source"

abbrev pub wording : Complaint → List ℕ
wording UnknownCommand = codes "unknown command"
wording (Word place fault) = codes "word " ++ (decimal place ++ (codes " " ++ reason fault))
wording (BoardNotMade which) = codes "no board for " ++ (spelled (board_key which) ++ codes " yet")
wording NoSourceChosen = codes "no source chosen yet"
