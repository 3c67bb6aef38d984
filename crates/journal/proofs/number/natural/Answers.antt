use Rattle.std.proofs.Common.{rules, ◌+◌, ◌-◌, ◌*◌, ◌≤◌, ◌^◌, get_or, sym, ◌∙◌, arith}
use Rattle.journal.proofs.Digits.{too_large}
use Rattle.journal.proofs.number.natural.Goals as goal

pub returns-in_err-checked_mul : goal.returns-in_err-checked_mul
returns-in_err-checked_mul c =
    let large : 2 ^ 32 ≤ c.loop-byte.value * 10 + (get_or c.args.word.now c.loop-byte.byte-index 0 - 48) = search rules in
    c.from_residual.ensures ∙ sym (too_large c.loop-byte.value c.loop-byte.byte-index c.args.word.now (omega arith) large) ∙ c.loop-byte.invariant.1

pub returns-in_err-value : goal.returns-in_err-value
returns-in_err-value c =
    let large : 2 ^ 32 ≤ c.loop-byte.value * 10 + (get_or c.args.word.now c.loop-byte.byte-index 0 - 48) = search rules in
    c.from_residual-in_err-value.ensures ∙ sym (too_large c.loop-byte.value c.loop-byte.byte-index c.args.word.now (omega arith) large) ∙ c.loop-byte.invariant.1
