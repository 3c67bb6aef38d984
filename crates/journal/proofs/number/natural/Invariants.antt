use Rattle.std.proofs.Common.{◌≡◌, ◌^◌, ◌<◌, drop}
use Rattle.journal.specs.Decimal.{natural_from, natural_of}
use Rattle.journal.proofs.number.natural.Given as goal

-- what is left gives the whole answer
abbrev pub invariant-loop-byte : goal.invariant-loop-byte
invariant-loop-byte l = (l.value < 2 ^ 32) × (natural_from l.value (drop l.byte-index l.word) ≡ natural_of l.word)
