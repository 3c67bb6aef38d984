use Rattle.journal.specs.Speech.{is_blank, in_word}
use Rattle.journal.proofs.words.WordsIterator.next.Given as goal

abbrev pub ghost-run : goal.ghost-run
ghost-run a = in_word

abbrev pub ghost-run-2 : goal.ghost-run-2
ghost-run-2 a = is_blank
