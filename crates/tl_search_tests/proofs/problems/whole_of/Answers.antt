-- The whole is a zone.
use Rattle.std.proofs.Common.{sym, subst}
use Rattle.tl_problem.specs.Zones.{IsZone}
use Rattle.tl_problem.proofs.ZoneLaws.{whole-is_zone}
use Rattle.tl_search_tests.proofs.problems.whole_of.Goals as goal

pub returns : goal.returns
returns c = subst (IsZone c.args.problem.now) (sym c.in_ok-whole.ensures) (whole-is_zone c.args.problem.now)
