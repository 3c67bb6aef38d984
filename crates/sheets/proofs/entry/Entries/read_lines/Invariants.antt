use Rattle.std.proofs.Common.{◌≡◌, length}
use Rattle.sheets.specs.Reader.{ReadSo}
use Rattle.sheets.proofs.entry.Entries.read_lines.Given as goal

abbrev pub invariant-loop-line : goal.invariant-loop-line
invariant-loop-line l = record { long : length l.told-items ≡ 29; read : ReadSo l.line l.initial.self l.self l.told-items }
