use Rattle.std.proofs.Common.{inl, inr}
use Rattle.tl_problem.proofs.ZoneLaws.{cut-cases, lower-inside, upper-inside, parts-apart, lower-is_zone, upper-is_zone}
use Rattle.tl_problem.proofs.laws.cuts_are_partitions.Goals as goal

pub returns : goal.returns
returns c = λ problem sound zone is s class there from before. record {
  lower = lower-is_zone problem sound zone is s class there from before;
  upper = upper-is_zone problem sound zone is s class there from before;
  either = λ widths. (
    cut-cases problem sound zone is s class there from before widths,
    λ parts. elim parts [
      | inl low ↦ lower-inside problem sound zone is s class there from before widths low
      | inr high ↦ upper-inside problem sound zone is s class there from before widths high
    ],
  );
  apart = parts-apart problem sound zone is s class there from before;
}
