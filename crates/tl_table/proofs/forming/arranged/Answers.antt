use Rattle.std.proofs.Common.{subst}
use Rattle.std.specs.List.Sorted.{IsPermutation}
use Rattle.tl_table.proofs.forming.arranged.Goals as goal

pub returns-clause-same : goal.returns-clause-same
returns-clause-same c = subst (λ items. IsPermutation items c.in_ok-sorted.sorted.items)
    c.in_ok-cells.ensures c.in_ok-sorted.ensures.same
