use Rattle.std.proofs.Common.{rules}
use Rattle.std.proofs.lemmas.Iterator.{YieldsList-from_slice}
use Rattle.std.proofs.lemmas.Iterator.Consumers.{YieldsList-from_copied}
use Rattle.std.proofs.lemmas.Iterator.Search.{position_from_yields_List}
use Rattle.journal.proofs.Cut.{cut}
use Rattle.journal.proofs.words.run.Goals as goal

pub returns : goal.returns
returns g c =
    let text = c.args.text.now in
    let tells = c.requires.1.1 in
    let gives = g.met.F.FnMut.1.post_iff in
    let stays = g.met.F.Fn.1.step_stays in
    let bytes = YieldsList-from_copied (YieldsList-from_slice {s = c.copied.result.iter} text cc) in
    let found = position_from_yields_List g.is _ _ c.position.result c.position.ensures.ran bytes (λ x b f k. (stays _ (x, tt) b f k, tells x b ((gives _ (x, tt) b).1 (f, k)))) in
    let cut = cut g.is text c.position.result _ found c.unwrap_or.ensures in
    record { within = search rules; front = cut.front; back = cut.back }
