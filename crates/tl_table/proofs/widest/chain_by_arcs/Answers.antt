use Rattle.std.proofs.Common.{◌≡◌, ◌∙◌, ◌<◌, true, false, length, map, sum_by, sym, ap, subst, arith, rules}
use Rattle.std.specs.List.{All}
use Rattle.tl_base.specs.Style.{gap_of}
use Rattle.tl_diff.specs.Paths.{LeadForward, InOrder, total_weight}
use Rattle.std.proofs.lemmas.List.{length-map}
use Rattle.tl_table.specs.declared.widest.NumberedArc.{NumberedArc}
use Rattle.tl_table.specs.inner.Demands.{demand_number}
use Rattle.tl_table.proofs.Found.{empty_of_nil, some_of_not_nil, IsFound-made, small_found, least_found, row_found, last_found}
use Rattle.tl_table.proofs.Sorted.{LeadForward-plain, InOrder-plain, path-within, total_weight-plain}
use Rattle.tl_table.proofs.widest.chain_by_arcs.Goals as goal
use Rattle.tl_table.proofs.widest.chain_by_arcs.Goals.{then-is_empty+in_ok-push, else-is_empty}

pub heaviest_path-requires-clause-forward : goal.heaviest_path-requires-clause-forward
heaviest_path-requires-clause-forward c = subst (LeadForward c.args.cols) (sym c.requires.plain)
    (LeadForward-plain (gap_of c.args.style) c.args.cols c.args.demands.now c.args.arcs.now c.requires.demands.placed
    c.requires.arcs)

pub heaviest_path-requires-clause-in_order : goal.heaviest_path-requires-clause-in_order
heaviest_path-requires-clause-in_order c = subst InOrder (sym c.requires.plain) (InOrder-plain c.args.arcs.now c.requires.sorted)

pub numbers_along-requires : goal.numbers_along-requires
numbers_along-requires c =
    let long : length c.args.plain.now ≡ length c.args.arcs.now =
    ap length c.requires.plain ∙ length-map c.args.arcs.now (λ (one : NumberedArc). one.arc) in
    subst (All (λ i. i < length c.args.arcs.now)) (sym c.as_slice.ensures)
    (path-within c.args.plain.now 0 c.in_ok-path.path c.args.cols (length c.args.arcs.now) long c.in_ok-path.ensures.path)

pub returns-clause-least : goal.returns-clause-least
returns-clause-least c = least_found c.args.style c.args.cols c.args.demands.now c.args.arcs.now c.heaviest_path.new.out
    c.in_ok-path.heaviest
    c.gap.result c.edges.result
    (IsFound-made c.args.style c.args.cols c.args.demands.now c.args.arcs.now c.args.plain.now c.heaviest_path.new.out
    c.in_ok-path.heaviest
    c.requires.some c.requires.demands c.requires.arcs c.requires.plain c.in_ok-path.ensures.each c.in_ok-path.ensures.last)
    c.gap.ensures c.edges.ensures

pub returns-clause-chain : goal.returns-clause-chain
returns-clause-chain c =
    let found = IsFound-made c.args.style c.args.cols c.args.demands.now c.args.arcs.now c.args.plain.now c.heaviest_path.new.out
    c.in_ok-path.heaviest c.requires.some c.requires.demands c.requires.arcs c.requires.plain
    c.in_ok-path.ensures.each c.in_ok-path.ensures.last in
    let named : c.in_ok-numbers.numbers ≡ map (demand_number c.args.arcs.now) c.in_ok-path.path =
    c.in_ok-numbers.ensures ∙ ap (map (demand_number c.args.arcs.now)) c.as_slice.ensures in
    elim c.if-is_empty.branch [
      | then-is_empty+in_ok-push w ↦ last_found c.args.style c.args.cols c.args.demands.now c.args.arcs.now c.args.plain.now
          c.heaviest_path.new.out
          c.in_ok-path.path c.in_ok-numbers.numbers c.if-is_empty.numbers c.in_ok-path.heaviest c.gap.result c.edges.result
          w.in_last_column.result
          found c.requires.plain c.in_ok-path.ensures.weight named
          (empty_of_nil c.in_ok-numbers.numbers (w.if-is_empty.ensures.0 (search rules))) (w.numbers-is ∙ w.in_ok-push.ensures.ok)
          w.in_last_column.ensures c.gap.ensures c.edges.ensures
      | else-is_empty w ↦ row_found c.args.style c.args.cols c.args.demands.now c.args.arcs.now c.args.plain.now
          c.heaviest_path.new.out
          c.in_ok-path.path c.if-is_empty.numbers c.in_ok-path.heaviest c.gap.result c.edges.result found c.requires.plain
          c.in_ok-path.ensures.path c.in_ok-path.ensures.weight (w.numbers-is ∙ named)
          (subst (λ those. 0 < length those) (sym w.numbers-is)
          (some_of_not_nil c.in_ok-numbers.numbers (λ nil. let no : false ≡ true = w.if-is_empty.ensures.1 nil in cc)))
          c.gap.ensures
          c.edges.ensures
    ]

pub heaviest_path-requires-clause-light : goal.heaviest_path-requires-clause-light
heaviest_path-requires-clause-light c = omega
    (arith, ap total_weight c.requires.plain, total_weight-plain c.args.arcs.now, c.requires.light, c.requires.demands.small)

pub returns-clause-small : goal.returns-clause-small
returns-clause-small c = small_found c.args.style c.args.cols c.in_ok-path.heaviest
    (sum_by (λ demand. demand.width) c.args.demands.now) c.gap.result
    c.edges.result c.requires.demands.few_columns
    (omega (
      arith,
      c.in_ok-path.ensures.small,
      ap total_weight c.requires.plain,
      total_weight-plain c.args.arcs.now,
      c.requires.light,
    )) c.gap.ensures
    c.edges.ensures
