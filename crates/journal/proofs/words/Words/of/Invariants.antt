use Rattle.journal.specs.Speech.{is_end}
use Rattle.journal.proofs.words.Words.of.Given as goal

abbrev pub ghost-run : goal.ghost-run
ghost-run a = is_end
