use Rattle.std.proofs.Common.{ℕ, ltb, sym, ◌∙◌, arith, rules}
use Rattle.std.proofs.lemmas.List.Sorted.{IsPartitionPoint-from_clause, IsPartitionedBy-ltb}
use Rattle.tl_grid.proofs.Counts.{rises_from, count_among, point_is_count, non_decreasing}
use Rattle.tl_grid.proofs.kept.new_number.Goals as goal

pub returns : goal.returns
returns c =
    let kept = c.args.kept.now in
    let n = c.args.number in
    let separated = IsPartitionedBy-ltb (λ (k : ℕ). k) kept n (non_decreasing kept c.requires.rises) in
    let point = IsPartitionPoint-from_clause (λ k. ltb k n) _ _ c.partition_point.ensures.partitioned separated
    (λ a r q k. search rules) in
    sym (count_among 0 n kept (rises_from 0 kept c.requires.rises (λ has. omega arith))
    ∙ point_is_count (λ k. ltb k n) kept c.partition_point.result c.partition_point.ensures.bound
    (λ k lt. point.0 k 0 (omega arith) lt) (λ k le lt. point.1 k 0 le lt))
