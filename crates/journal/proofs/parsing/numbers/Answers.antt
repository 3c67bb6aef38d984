use Rattle.std.proofs.Common.{◌∙◌, arith, length-set}
use Rattle.std.proofs.lemmas.Result.{err_from_is_err_and}
use Rattle.journal.proofs.Texts.{after_more, numbers_more, numbers_stop}
use Rattle.journal.proofs.parsing.numbers.Goals as goal

pub returns-in_err-value : goal.returns-in_err-value
returns-in_err-value g c =
    let p = err_from_is_err_and c.from_residual.result c.from_residual.ensures.1 in
    rw p.1 (numbers_stop _ _ c.loop-value.value-index _ c.loop-value.invariant.left (omega arith) c.in_err-value.ensures.value)

pub loop-value-preserved : goal.loop-value-preserved
loop-value-preserved g c =
    let loop = c.loop-value in
    let next = c.in_ok-value in
    record {
      sized = length-set loop.value-items loop.value-index next.field-0 ∙ loop.invariant.sized;
      left = next.ensures.left ∙ after_more _ _ loop.value-index loop.invariant.left;
      read = numbers_more _ _ loop.value-index loop.value-items next.field-0 loop.invariant.left (omega (arith, loop.invariant.sized)) loop.invariant.read next.ensures.value;
    }
