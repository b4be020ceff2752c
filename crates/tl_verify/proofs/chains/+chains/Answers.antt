use Rattle.std.proofs.Common.{◌≡◌, ◌∙◌, ◌+◌, ◌-◌, ◌*◌, ◌<◌, ◌≤◌, length, drop, get_or, Some, None, slice_get, refl, sym, ap}
use Rattle.std.proofs.Common.{subst, rules, arith}
use Rattle.std.specs.List.{flat_map}
use Rattle.std.proofs.lemmas.List.{get_or_default, take_all}
use Rattle.std.proofs.lemmas.Option.{slice_get_read}
use Rattle.tl_base.specs.Style.{gap_of, edges_of}
use Rattle.tl_base.specs.declared.chain.Entry.{Entry}
use Rattle.tl_table.specs.declared.cell.Content.{out-Content, the_lemmas}
use Rattle.tl_table.specs.declared.cell.Content.TheVariants.{outs-Table}
use Rattle.tl_table.specs.declared.cell.Table.{out-Table}
use Rattle.tl_table.specs.declared.cell.TableCell.{out-TableCell}
use Rattle.tl_table.specs.Sound.{IsSoundBlock, IsSoundCell}
use Rattle.tl_table.specs.Tables.{tables_of}
use Rattle.tl_table.proofs.SoundParts.{sound_blocks, sound_cells, at_item}
use Rattle.tl_verify.specs.inner.Walks.{HasNoRow, HasNoWalkIn, IsRow}
use Rattle.tl_verify.proofs.Walking.{blocks_more, cell_placed, in_block, is_none, is_some, none_at, no_cell, no_order, no_step}
use Rattle.tl_verify.proofs.Walking.{no_walk_by}
use Rattle.tl_verify.proofs.Walking.{no_walk_heavy, no_walk_row, none_past, row_done, row_more, row_none, step_inner, too_wide}
use Rattle.tl_verify.proofs.Walking.{walk_boxed}
use Rattle.tl_verify.proofs.Walking.{walk_other, walked}
use Rattle.tl_verify.proofs.chains.+chains.Goals as goal
use Rattle.tl_verify.proofs.chains.+chains.Goals.{walk-then-chain-table-via-then-chain-table}
use Rattle.tl_verify.proofs.chains.+chains.Goals.{walk-then-chain-table-via-else-chain-table+then-is_empty}

-- an entry that is past
abbrev none_entry : Entry
none_entry = record { cell = 0; inner = None }

pub step-returns-in-Some : goal.step-returns-in-Some
step-returns-in-Some t c =
    step_inner c.args.style (out-TableCell c.args.cell.now) c.args.inner c.in-Some.number c.args.chains.now c.args.at
    c.args.most c.walk_inner.result
    c.in-Some.is c.walk_inner.ensures

pub walk-returns-in_err-chain : goal.walk-returns-in_err-chain
walk-returns-in_err-chain t c =
    rw c.from_residual.ensures (none_past c.args.style c.args.table.now c.args.chains.now c.args.at c.args.most
    c.in_err-chain.ensures.lookup.3)

pub walk-returns-then-chain-table : goal.walk-returns-then-chain-table
walk-returns-then-chain-table t c =
    let first = c.in_ok-chain.chain.now in
    let is = slice_get_read c.args.chains.now (length c.args.chains.now)
    c.args.at first refl c.in_ok-chain.ensures.lookup.3.0 c.in_ok-chain.ensures.lookup.1 in
    no_walk_by c.args.style c.args.table.now c.args.chains.now c.args.at c.args.most first is (λ links rest linked of some light.
    elim c.then-chain-table.branch [
      | walk-then-chain-table-via-then-chain-table w ↦ w.if-chain-table.true of
      | walk-then-chain-table-via-else-chain-table+then-is_empty w ↦ omega (
        arith,
        some,
        ap length c.as_slice-entries.ensures,
        is_none (length c.as_slice-entries.result.now) w.is_empty.result w.is_empty.ensures w.if-is_empty.true,
      )
    ])

pub walk-returns-in_err-row : goal.walk-returns-in_err-row
walk-returns-in_err-row t c =
    let first = c.in_ok-chain.chain.now in
    let is = slice_get_read c.args.chains.now (length c.args.chains.now)
    c.args.at first refl c.in_ok-chain.ensures.lookup.3.0 c.in_ok-chain.ensures.lookup.1 in
    rw c.from_residual-in_err-row.ensures (no_walk_row c.args.style c.args.table.now c.args.chains.now c.args.at c.args.most
    first is
    (subst (λ es. HasNoRow c.args.style (out-Table c.args.table.now) es (drop (c.args.at + 1) c.args.chains.now) c.args.most)
    c.as_slice-entries.ensures
    c.in_err-row.ensures))

pub walk-returns-then-weight-from : goal.walk-returns-then-weight-from
walk-returns-then-weight-from t c =
    let first = c.in_ok-chain.chain.now in
    let is = slice_get_read c.args.chains.now (length c.args.chains.now)
    c.args.at first refl c.in_ok-chain.ensures.lookup.3.0 c.in_ok-chain.ensures.lookup.1 in
    let row = c.in_ok-row.row in
    no_walk_heavy c.args.style c.args.table.now c.args.chains.now c.args.at c.args.most first is c.requires.sound row
    (subst (λ es. IsRow c.args.style (out-Table c.args.table.now) es c.args.chains.now (c.args.at + 1) c.args.most row)
    c.as_slice-entries.ensures
    c.in_ok-row.ensures) c.row_weight-weight.result
    (c.row_weight-weight.ensures ∙ ap (λ n. row.width + gap_of c.args.style *
    (n + ((out-Table c.args.table.now).cols - row.covered) - 1)
    + edges_of c.args.style) (ap length c.as_slice-entries.ensures)) (omega (arith, c.if-weight-from.true))

pub walk-returns : goal.walk-returns
walk-returns t c =
    let first = c.in_ok-chain.chain.now in
    let is = slice_get_read c.args.chains.now (length c.args.chains.now)
    c.args.at first refl c.in_ok-chain.ensures.lookup.3.0 c.in_ok-chain.ensures.lookup.1 in
    let row = c.in_ok-row.row in
    let some = is_some (length c.as_slice-entries.result.now) c.is_empty.result c.is_empty.ensures c.if-is_empty.false in
    walked c.args.style c.args.table.now c.args.chains.now c.args.at c.args.most first is row c.row_weight-weight.result
    (record { weight = c.row_weight-weight.result; past = row.past }) c.if-chain-table.false
    (omega (arith, some, ap length c.as_slice-entries.ensures))
    (subst (λ es. IsRow c.args.style (out-Table c.args.table.now) es c.args.chains.now (c.args.at + 1) c.args.most row)
    c.as_slice-entries.ensures
    c.in_ok-row.ensures)
    (c.row_weight-weight.ensures ∙ ap (λ n. row.width + gap_of c.args.style *
    (n + ((out-Table c.args.table.now).cols - row.covered) - 1)
    + edges_of c.args.style) (ap length c.as_slice-entries.ensures)) (omega (arith, c.if-weight-from.false)) refl refl

pub walk_row-loop-entry-init : goal.walk_row-loop-entry-init
walk_row-loop-entry-init t c = row_none c.args.style c.args.table.now c.args.entries.now c.args.chains.now c.args.at c.args.most
    c.requires.within

pub walk_row-returns-in_err-cell : goal.walk_row-returns-in_err-cell
walk_row-returns-in_err-cell t c =
    let entry = get_or c.args.entries.now c.loop-entry.entry-index none_entry in
    let is = get_or_default c.args.entries.now c.loop-entry.entry-index none_entry entry c.loop-entry-test.true in
    let past : length (out-Table c.args.table.now).cells ≤ entry.cell =
    omega (arith, c.in_err-cell.ensures.lookup.3, ap length c.as_slice-cells.ensures) in
    rw c.from_residual.ensures (no_cell c.args.style c.args.table.now c.requires.sound c.args.entries.now c.args.chains.now
    c.args.at c.args.most
    c.loop-entry.entry-index c.loop-entry.row entry c.loop-entry-test.true is c.loop-entry.invariant
    (none_at (out-Table c.args.table.now).cells entry.cell past))

pub walk_row-returns-then-cell-row : goal.walk_row-returns-then-cell-row
walk_row-returns-then-cell-row t c =
    let entry = get_or c.args.entries.now c.loop-entry.entry-index none_entry in
    let is = get_or_default c.args.entries.now c.loop-entry.entry-index none_entry entry c.loop-entry-test.true in
    let cells = c.as_slice-cells.result.now in
    let named = subst (λ all. slice_get all entry.cell ≡ Some c.in_ok-cell.cell.now) c.as_slice-cells.ensures
    (slice_get_read cells (length cells) entry.cell c.in_ok-cell.cell.now refl c.in_ok-cell.ensures.lookup.3.0
    c.in_ok-cell.ensures.lookup.1) in
    no_order c.args.style c.args.table.now c.requires.sound c.args.entries.now c.args.chains.now c.args.at c.args.most
    c.loop-entry.entry-index c.loop-entry.row entry c.loop-entry-test.true is c.loop-entry.invariant c.in_ok-cell.cell.now named
    c.if-cell-row.true

pub walk_row-step-requires : goal.walk_row-step-requires
walk_row-step-requires t c =
    let entry = get_or c.args.entries.now c.loop-entry.entry-index none_entry in
    let cells = c.as_slice-cells.result.now in (
      search (rules, the_lemmas),
      (
        at_item (λ cell. IsSoundCell (out-TableCell cell)) (out-Table c.args.table.now).cells entry.cell c.in_ok-cell.cell.now
            (sound_cells c.args.table.now c.requires.sound)
            (subst (λ all. entry.cell < length all) c.as_slice-cells.ensures c.in_ok-cell.ensures.lookup.3.0)
            (subst (λ all. c.in_ok-cell.cell.now ≡ get_or all entry.cell c.in_ok-cell.cell.now)
            c.as_slice-cells.ensures c.in_ok-cell.ensures.lookup.1),
        (c.loop-entry.invariant.within, c.requires.most),
      ),
    )

pub walk_row-returns-in_err-step : goal.walk_row-returns-in_err-step
walk_row-returns-in_err-step t c =
    let entry = get_or c.args.entries.now c.loop-entry.entry-index none_entry in
    let is = get_or_default c.args.entries.now c.loop-entry.entry-index none_entry entry c.loop-entry-test.true in
    let cells = c.as_slice-cells.result.now in
    let named = subst (λ all. slice_get all entry.cell ≡ Some c.in_ok-cell.cell.now) c.as_slice-cells.ensures
    (slice_get_read cells (length cells) entry.cell c.in_ok-cell.cell.now refl c.in_ok-cell.ensures.lookup.3.0
    c.in_ok-cell.ensures.lookup.1) in
    rw c.from_residual-in_err-step.ensures (no_step c.args.style c.args.table.now c.requires.sound c.args.entries.now
    c.args.chains.now c.args.at c.args.most
    c.loop-entry.entry-index c.loop-entry.row entry c.loop-entry-test.true is c.loop-entry.invariant c.in_ok-cell.cell.now named
    c.in_err-step.ensures)

pub walk_row-returns-then-step-most : goal.walk_row-returns-then-step-most
walk_row-returns-then-step-most t c =
    let entry = get_or c.args.entries.now c.loop-entry.entry-index none_entry in
    let is = get_or_default c.args.entries.now c.loop-entry.entry-index none_entry entry c.loop-entry-test.true in
    let cells = c.as_slice-cells.result.now in
    let named = subst (λ all. slice_get all entry.cell ≡ Some c.in_ok-cell.cell.now) c.as_slice-cells.ensures
    (slice_get_read cells (length cells) entry.cell c.in_ok-cell.cell.now refl c.in_ok-cell.ensures.lookup.3.0
    c.in_ok-cell.ensures.lookup.1) in
    too_wide c.args.style c.args.table.now c.requires.sound c.args.entries.now c.args.chains.now c.args.at c.args.most
    c.loop-entry.entry-index c.loop-entry.row entry c.loop-entry-test.true is c.loop-entry.invariant c.in_ok-cell.cell.now named
    c.in_ok-step.step c.in_ok-step.ensures c.if-step-most.true

pub walk_row-overflow_sub-row : goal.walk_row-overflow_sub-row
walk_row-overflow_sub-row t c =
    let entry = get_or c.args.entries.now c.loop-entry.entry-index none_entry in
    let cells = c.as_slice-cells.result.now in
    let named = subst (λ all. slice_get all entry.cell ≡ Some c.in_ok-cell.cell.now) c.as_slice-cells.ensures
    (slice_get_read cells (length cells) entry.cell c.in_ok-cell.cell.now refl c.in_ok-cell.ensures.lookup.3.0
    c.in_ok-cell.ensures.lookup.1) in
    let placed = cell_placed c.args.table.now entry.cell c.in_ok-cell.cell.now c.requires.sound named in
    omega (arith, placed.0)

pub walk_row-loop-entry-preserved : goal.walk_row-loop-entry-preserved
walk_row-loop-entry-preserved t c =
    let entry = get_or c.args.entries.now c.loop-entry.entry-index none_entry in
    let is = get_or_default c.args.entries.now c.loop-entry.entry-index none_entry entry c.loop-entry-test.true in
    let cells = c.as_slice-cells.result.now in
    let named = subst (λ all. slice_get all entry.cell ≡ Some c.in_ok-cell.cell.now) c.as_slice-cells.ensures
    (slice_get_read cells (length cells) entry.cell c.in_ok-cell.cell.now refl c.in_ok-cell.ensures.lookup.3.0
    c.in_ok-cell.ensures.lookup.1) in
    let placed = cell_placed c.args.table.now entry.cell c.in_ok-cell.cell.now c.requires.sound named in
    row_more c.args.style c.args.table.now c.requires.sound c.args.entries.now c.args.chains.now c.args.at c.args.most
    c.loop-entry.entry-index c.loop-entry.row entry c.loop-entry-test.true is c.loop-entry.invariant c.in_ok-cell.cell.now named
    c.in_ok-step.step c.in_ok-step.ensures c.if-cell-row.false placed.0 placed.1 c.if-step-most.false

pub walk_row-returns : goal.walk_row-returns
walk_row-returns t c =
    row_done c.args.style c.args.table.now c.args.entries.now c.args.chains.now c.args.at c.args.most c.loop-entry.entry-index
    c.loop-entry.row
    c.loop-entry-test.false c.loop-entry.auto.entry-index-end c.loop-entry.invariant

pub walk_block-returns-then-deref-number : goal.walk_block-returns-then-deref-number
walk_block-returns-then-deref-number t c =
    walk_other c.args.style (out-Content c.args.block.now) c.in-Table.table c.deref.result.now c.args.number c.args.chains.now
    c.args.at c.args.most
    (ap out-Content c.in-Table.is ∙ outs-Table c.in-Table.table) c.deref.ensures c.if-deref-number.true

pub walk_block-returns-else-deref-number : goal.walk_block-returns-else-deref-number
walk_block-returns-else-deref-number t c =
    let same : c.deref-in-Table.result.now ≡ c.deref.result.now = c.deref-in-Table.ensures ∙ sym c.deref.ensures in
    walk_boxed c.args.style (out-Content c.args.block.now) c.in-Table.table c.deref-in-Table.result.now c.args.number
    c.args.chains.now c.args.at c.args.most
    c.walk.result (ap out-Content c.in-Table.is ∙ outs-Table c.in-Table.table) c.deref-in-Table.ensures
    (ap (λ one. (out-Table one).number) same ∙ c.if-deref-number.false) c.walk.ensures

pub walk_inner-walk_block-requires : goal.walk_inner-walk_block-requires
walk_inner-walk_block-requires t c = (
  search (rules, the_lemmas),
  (
    at_item (λ block. IsSoundBlock (out-Content block)) (out-TableCell c.args.cell.now).blocks c.loop-block.block-index
        c.block-item.result
        (sound_blocks c.args.cell.now c.requires.sound)
        (subst (λ items. c.loop-block.block-index < length items) c.as_slice-block-items.ensures c.loop-block-test.true)
        (subst (λ items. c.block-item.result ≡ get_or items c.loop-block.block-index c.block-item.result)
        c.as_slice-block-items.ensures
        c.block-item.is),
    c.requires.most,
  ),
)

pub walk_inner-returns-in-Some : goal.walk_inner-returns-in-Some
walk_inner-returns-in-Some t c =
    in_block c.args.style (out-TableCell c.args.cell.now).blocks c.loop-block.block-index c.args.number c.block-item.result
    c.args.chains.now c.args.at
    c.args.most c.in-Some.walked
    (subst (λ items. c.loop-block.block-index < length items) c.as_slice-block-items.ensures c.loop-block-test.true)
    (subst (λ items. c.block-item.result ≡ get_or items c.loop-block.block-index c.block-item.result)
    c.as_slice-block-items.ensures c.block-item.is)
    c.in-Some.ensures

pub walk_inner-loop-block-preserved : goal.walk_inner-loop-block-preserved
walk_inner-loop-block-preserved t c =
    blocks_more c.args.style c.as_slice-block-items.result.now c.loop-block.block-index c.args.number c.block-item.result
    c.args.chains.now c.args.at
    c.args.most c.loop-block-test.true c.block-item.is c.loop-block.invariant c.in_default.ensures

pub walk_inner-returns : goal.walk_inner-returns
walk_inner-returns t c =
    subst (λ items. HasNoWalkIn c.args.style (flat_map (λ block. tables_of (out-Content block)) items)
    c.args.number c.args.chains.now c.args.at c.args.most)
    (take_all c.loop-block.block-index c.as_slice-block-items.result.now
    c.loop-block-test.false ∙ c.as_slice-block-items.ensures) c.loop-block.invariant
