use Rattle.tl_problem.proofs.ZoneLaws.{whole-is_zone, whole-all}
use Rattle.tl_problem.proofs.laws.whole_has_all.Goals as goal

pub returns : goal.returns
returns c = λ problem sound. (
  whole-is_zone problem,
  λ widths.
      ((λ page. whole-all problem sound widths page), (λ inside. inside.page)),
)
