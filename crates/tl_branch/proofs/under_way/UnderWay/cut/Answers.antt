use Rattle.std.proofs.Common.{◌≡◌, ◌+◌, ◌*◌, length, ap, ◌∙◌, refl, subst}
use Rattle.tl_problem.specs.Zones.{lower_part, upper_part}
use Rattle.tl_solve.specs.Arenas.{IsBoundFound, IsLookedAt}
use Rattle.tl_branch.specs.inner.UnderWay.{with_waiting}
use Rattle.tl_branch.proofs.under_way.UnderWay.cut.Goals as goal

pub returns-clause-apart : goal.returns-clause-apart
returns-clause-apart c =
    let p = c.args.problem.now in
    let zone = c.args.zone.now in
    let cut = c.args.cut in
    let stack = c.args.self.now.stack.items in
    let n = length c.args.self.now.trace in
    let lower = c.in_ok-lower.lower in
    let upper = c.in_ok-lower.upper in
    let low = c.in_ok-lower_bound.lower_bound in
    let high = c.in_ok-upper_bound.upper_bound in
    let low_is : lower ≡ lower_part zone cut.span cut.class = c.in_ok-lower.ensures.lower in
    let high_is : upper ≡ upper_part zone cut.span cut.class = c.in_ok-lower.ensures.upper in
    record {
      trace = c.in_ok-push.ensures.ok;
      lefts = refl;
      low_found = low;
      high_found = high;
      low_bound = subst (λ r. IsBoundFound p r low) low_is c.in_ok-lower_bound.ensures.bound;
      high_bound = subst (λ r. IsBoundFound p r high) high_is c.in_ok-upper_bound.ensures.bound;
      stack = c.in_ok-put_waiting-2.ensures
          ∙ ap (λ s. with_waiting s (2 * c.cuts-made.result + 1) lower low) c.in_ok-put_waiting.ensures
          ∙ ap (λ m. with_waiting (with_waiting stack (2 * m + 2) upper high) (2 * m + 1) lower low) c.cuts-made.ensures
          ∙ ap (λ u. with_waiting (with_waiting stack (2 * n + 2) u high) (2 * n + 1) lower low) high_is
          ∙ ap (λ l. with_waiting (with_waiting stack (2 * n + 2) (upper_part zone cut.span cut.class) high) (2 * n + 1) l low)
          low_is;
      middle = c.look.new.lowest;
      lowered = c.look.ensures.lowered;
      lowered_again = c.look-2.ensures.lowered;
      low_looked = subst (λ r. IsLookedAt p r c.look.new.lowest.height) low_is c.in_ok-lower_bound.ensures.looked;
      high_looked = subst (λ r. IsLookedAt p r c.look-2.new.lowest.height) high_is c.in_ok-upper_bound.ensures.looked;
    }
