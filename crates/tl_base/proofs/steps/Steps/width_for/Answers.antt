use Rattle.std.proofs.Common.{◌≡◌, ◌<◌, ◌≤◌, ◌∙◌, ◌↔◌, None, IfSome, true, false, nat_lt, length, get_or, refl, sym, subst, arith}
use Rattle.std.proofs.Common.{rules, tests}
use Rattle.std.specs.List.{last_or}
use Rattle.std.specs.List.Sorted.{IsPartitionPoint}
use Rattle.std.proofs.lemmas.Bool.{false≢true}
use Rattle.std.proofs.lemmas.List.Sorted.{IsPartitionPoint-from_clause}
use Rattle.tl_base.specs.Steps.{AreSteps, IsLeastWidthFor}
use Rattle.tl_base.proofs.Decreasing.{no_step, high_first, last_high, last_low, low_here, IsLeastWidthFor-from, IfSome-weaker}
use Rattle.tl_base.proofs.steps.Steps.width_for.Goals as goal

-- the steps, as the fields and the caller see them
are_none : (c : goal.Then-first-configs) → AreSteps c.as_slice-configs.result.now
are_none c = subst (λ steps. AreSteps steps) (sym c.as_slice-configs.ensures) c.self.invariant

are_some : (c : goal.Else-first-configs) → AreSteps c.as_slice-configs.result.now
are_some c = subst (λ steps. AreSteps steps) (sym c.as_slice-configs.ensures) c.self.invariant

-- where the search lands
none : (c : goal.Then-first-configs) → IsPartitionPoint (λ step. nat_lt c.args.h step.height ≡ true)
    (λ step. nat_lt c.args.h step.height ≡
    false) c.as_slice-configs.result.now (length c.as_slice-configs.result.now)
none c =
    subst (λ n. IsPartitionPoint (λ step. nat_lt c.args.h step.height ≡ true) (λ step. nat_lt c.args.h step.height ≡ false)
    c.as_slice-configs.result.now n) c.if-first-configs.true
    (IsPartitionPoint-from_clause (λ step. nat_lt c.args.h step.height)
    c.as_slice-configs.result.now c.partition_point-first.result
    c.partition_point-first.ensures.partitioned (high_first c.as_slice-configs.result.now (are_none c) c.args.h)
    (λ a r f q. search (rules, tests)))

some : (c : goal.Else-first-configs) → IsPartitionPoint (λ step. nat_lt c.args.h step.height ≡ true)
    (λ step. nat_lt c.args.h step.height ≡
    false) c.as_slice-configs.result.now c.partition_point-first.result
some c =
    IsPartitionPoint-from_clause (λ step. nat_lt c.args.h step.height)
    c.as_slice-configs.result.now c.partition_point-first.result
    c.partition_point-first.ensures.partitioned (high_first c.as_slice-configs.result.now (are_some c) c.args.h)
    (λ a r f q. search (rules, tests))

within : (c : goal.Else-first-configs) → c.partition_point-first.result < length c.as_slice-configs.result.now
within c = omega (arith, c.if-first-configs.false, c.partition_point-first.ensures.bound)

pub returns-then-first-configs-clause-none : goal.returns-then-first-configs-clause-none
returns-then-first-configs-clause-none c =
    subst (λ steps. IfSome (last_or None steps) (λ last. (false ≡ false) ↔ (c.args.h < last.height)))
    (c.as_slice-configs.ensures ∙ c.self.view_is)
    (IfSome-weaker (last_or None c.as_slice-configs.result.now) (λ last. c.args.h < last.height)
    (λ last. (false ≡ false) ↔ (c.args.h <
    last.height)) (λ last high. (λ _. high, λ _. refl)) (last_high c.as_slice-configs.result.now (are_none c) c.args.h
    (none c).0))

pub returns-clause-least : goal.returns-clause-least
returns-clause-least c =
    subst (λ steps. IsLeastWidthFor steps c.args.h (get_or c.as_slice-configs.result.now c.partition_point-first.result
    no_step).width)
    (c.as_slice-configs.ensures ∙ c.self.view_is)
    (IsLeastWidthFor-from c.as_slice-configs.result.now (are_some c) c.args.h c.partition_point-first.result (within c) (some c))

pub returns-clause-none : goal.returns-clause-none
returns-clause-none c =
    subst (λ steps. IfSome (last_or None steps) (λ last. (true ≡ false) ↔ (c.args.h < last.height)))
    (c.as_slice-configs.ensures ∙ c.self.view_is)
    (IfSome-weaker (last_or None c.as_slice-configs.result.now) (λ last. last.height ≤ c.args.h)
    (λ last. (true ≡ false) ↔ (c.args.h <
    last.height)) (λ last low. (λ h. absurd (false≢true (sym h)), λ high. absurd (omega arith)))
    (last_low c.as_slice-configs.result.now (are_some c) c.args.h c.partition_point-first.result (within c) (low_here
    c.as_slice-configs.result.now (are_some c) c.args.h c.partition_point-first.result (within c) (some c))))
