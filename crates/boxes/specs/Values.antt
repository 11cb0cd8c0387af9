-- What a box is to its callers. Assumes nothing.
use Rattle.charts.specs.Boxes.{Box}

-- what a box is: its library, and the box of the rules
pub record BoxOver (L : Type 0) : Type 0 where
  pub library : L
  pub box : Box
