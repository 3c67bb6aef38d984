use Rattle.std.proofs.Common.{refl}
use Rattle.layers.specs.GapPage.{gap_figure, bridged}
use Rattle.figures.proofs.worked.figures_met.Goals as goal

pub returns : goal.returns
unfolding gap_figure bridged
returns c = record { hole = refl; mean = refl }
