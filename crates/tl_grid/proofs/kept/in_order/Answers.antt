use Rattle.std.proofs.Common.{ℕ, eqb, sym, ap, ◌∙◌}
use Rattle.std.proofs.lemmas.List.Filters.{dedup_is}
use Rattle.std.proofs.lemmas.List.Sorted.{list_any-IsPermutation}
use Rattle.std.proofs.lemmas.Map.Keys.{IsStrictlyIncreasing-dedup}
use Rattle.tl_base.specs.Lists.{is_among}
use Rattle.tl_base.proofs.Members.{is_among-list_any}
use Rattle.tl_grid.proofs.Counts.{among-dedup}
use Rattle.tl_grid.proofs.kept.in_order.Goals as goal

pub returns-clause-rises : goal.returns-clause-rises
returns-clause-rises c =
    let is = dedup_is _ _ _ c.dedup.ensures.filtered in
    rw is (IsStrictlyIncreasing-dedup _ c.sort_unstable.ensures.sorted)

pub returns-clause-same : goal.returns-clause-same
returns-clause-same c = λ x.
    let is = dedup_is _ _ _ c.dedup.ensures.filtered in
    ap (λ ks. is_among ks x) is ∙ among-dedup x c.sort_unstable.new.self.items
    ∙ is_among-list_any c.sort_unstable.new.self.items x
    ∙ sym (list_any-IsPermutation (λ (k : ℕ). eqb k x) c.args.numbers.items c.sort_unstable.new.self.items
    c.sort_unstable.ensures.permutation)
    ∙ sym (is_among-list_any c.args.numbers.items x)
