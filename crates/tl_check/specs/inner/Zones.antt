-- No public clause cites this file. The bounds of a zone, span by span and cut by cut.
use Rattle.std.specs.Prelude.{◌≡◌, ◌≢◌, ℕ, ◌+◌, ◌%◌, min, max, List}
use Rattle.std.specs.List.{flat_map, range_with_len}
use Rattle.tl_problem.specs.declared.zone.Range.{Range}
use Rattle.tl_problem.specs.Problem.{ProblemModel}
use Rattle.tl_problem.specs.Zones.{first_in_class, last_in_class, range_at}
use Rattle.tl_cert.specs.declared.log.Bound.{Bound}
use Rattle.tl_cert.specs.declared.trace.CutAt.{CutAt}
use Rattle.tl_cert.specs.Nogoods.{at_least, at_most, range_bounds}

-- the bounds of the first spans of a zone
abbrev pub bounds_upto : ProblemModel → List Range → ℕ → List Bound
bounds_upto problem zone upto = flat_map (λ s. range_bounds problem s (range_at zone s)) (range_with_len 0 upto)

-- one range is what is in both another and between these classes
pub record IsWithinClasses (inner outer : Range) (first last : ℕ) : Type 0 where
  pub from : inner.first ≡ max first outer.first
  pub upto : inner.last ≡ min last outer.last

-- the bound that a cut made of the part of its zone with this number: an odd part has the classes up to the cut's, an even
-- one those after it
pub record IsPartBound (problem : ProblemModel) (cut : CutAt) (part : ℕ) (bound : Bound) : Type 0 where
  pub lower : part % 2 ≡ 1 → bound ≡ at_most cut.span (last_in_class problem cut.span cut.class)
  pub upper : part % 2 ≢ 1 → bound ≡ at_least cut.span (first_in_class problem cut.span (cut.class + 1))
