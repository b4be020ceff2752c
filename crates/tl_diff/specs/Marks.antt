-- What a matrix of difference constraints is seen as: the constraints now, and those at each mark that is held.
use Rattle.std.specs.Prelude.{ℕ, List}
use Rattle.tl_diff.specs.Bounds.{Bounds}

-- `marks` is how many marks there is room for; `held` has the constraints at each mark, those of the last mark first.
pub record MarkedBounds : Type 0 where
  pub marks : ℕ
  pub bounds : Bounds
  pub held : List Bounds
