-- The turns of the column stand after those that start before it, and before those that start after it.
use Rattle.std.proofs.Common.{◌≡◌, ◌-◌, true, false, length, take, drop, nat_le, nat_lt, rules}
use Rattle.std.specs.List.Sorted.{IsPartitionPoint}
use Rattle.std.proofs.lemmas.List.{take_rest}
use Rattle.std.proofs.lemmas.List.Sorted.{IsPartitionPoint-from_clause, IsPartitionedBy-leb, IsPartitionedBy-ltb}
use Rattle.std.proofs.lemmas.List.Sorted.{IsNonDecreasingBy-drop, IsNonDecreasingBy-take}
use Rattle.tl_problem.proofs.AxisLemmas.{all-at}
use Rattle.tl_problem.proofs.spans.beginning_in.Goals as goal

pub returns : goal.returns
returns c =
    let turns = c.args.by_left.now in
    let place = c.args.column in
    let before = c.partition_point-before.result in
    let count = c.partition_point-count.result in
    let whole = take_rest turns before in
    let low = IsPartitionPoint-from_clause (λ t. nat_lt t.start place) turns _ c.partition_point-before.ensures.partitioned
    (IsPartitionedBy-ltb (λ t. t.start) turns place c.requires) (λ a r f q. search rules) in
    let high : IsPartitionPoint (λ t. nat_le t.start place ≡ true) (λ t. nat_le t.start place ≡ false)
    (take (length turns - before) (drop before turns)) count =
    IsPartitionPoint-from_clause (λ t. nat_le t.start place) _ _ c.partition_point-count.ensures.partitioned
    (IsPartitionedBy-leb (λ t. t.start) _ place (IsNonDecreasingBy-take (λ t. t.start) _ _
    (IsNonDecreasingBy-drop (λ t. t.start) before turns c.requires))) (λ a r f q. search rules) in
    rw whole (all-at place turns before count low (rw whole at high))
