-- Worked figures of the rules, settled together over the definitions that the calls promise. Assumes nothing.
use Rattle.std.specs.Prelude.{◌≡◌, cond, List, [], ◌∷◌, ℤ, pos, negsuc, Some, None, Option, ◌==◌}
use Rattle.days.specs.Days.{blank_days}
use Rattle.sources.specs.Page.{Page}
use Rattle.boards.specs.Mean.{shown}
use Rattle.layers.specs.GapPage.{gap_page}

-- forward points of −1 at day 32, none at day 62, −2 at day 92
abbrev pub points_with_hole : Page
points_with_hole = record {
  valuation = 0;
  days = blank_days;
  figure = λ k. cond (k == 9) (Some (negsuc 0)) (cond (k == 11) (Some (negsuc 1)) None);
}

-- two providers' quotes for the spot
abbrev pub two_quotes : List (List (Option ℤ))
two_quotes = (Some (pos 9000000) ∷ []) ∷ (Some (pos 9000001) ∷ []) ∷ []

pub record Figures : Type 0 where
  -- the hole is filled with −2: −1.5 rounded down
  pub hole : (gap_page points_with_hole).figure 10 ≡ Some (negsuc 1)
  -- shares 1 and 2: 27,000,002 over 3, rounded down
  pub mean : shown (1 ∷ 2 ∷ []) two_quotes 0 ≡ Some (pos 9000000)
