use Rattle.std.proofs.Common.{◌≡◌, length}
use Rattle.journal.specs.Grammar.{after, Numbers}
use Rattle.journal.proofs.parsing.numbers.Given as goal

-- so many of the numbers are read
abbrev pub invariant-loop-value : goal.invariant-loop-value
invariant-loop-value g l = record {
  sized : length l.value-items ≡ g.row.N;
  left : l.words.rest.now ≡ after l.initial.words.rest.now l.value-index;
  read : Numbers l.initial.words.rest.now l.value-index l.value-items;
}
