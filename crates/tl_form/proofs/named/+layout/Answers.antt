use Rattle.std.proofs.Common.{◌≡◌, ◌∙◌, ◌<◌, [], length, get_or, sym, ap, subst, rules}
use Rattle.std.specs.List.{AllByRecursion}
use Rattle.std.proofs.lemmas.List.{take_all}
use Rattle.tl_base.specs.Style.{gap_of}
use Rattle.tl_base.specs.Sizes.{room}
use Rattle.tl_cert.specs.declared.section.Section.{Section}
use Rattle.tl_table.specs.declared.cell.Content.{out-Content, the_lemmas}
use Rattle.tl_table.specs.declared.cell.Content.TheVariants.{outs-Table}
use Rattle.tl_table.specs.declared.cell.Table.{out-Table}
use Rattle.tl_table.specs.declared.cell.TableCell.{out-TableCell}
use Rattle.tl_table.specs.declared.layout.Layout.{roll-Layout, out-roll-Layout}
use Rattle.tl_form.specs.Named.{IsChosen}
use Rattle.tl_table.specs.Tables.{tables_in}
use Rattle.tl_form.specs.inner.Naming.{CanLay, HasPart, HasRooms, IsLaidOut, IsPlacedBy, LaysOut, NoneWithin}
use Rattle.tl_form.proofs.NamedSteps.{CellsLaid, blocks_laid, box_laid, can_block, can_box, cells_laid, chosen_is, is_some_by}
use Rattle.tl_form.proofs.NamedSteps.{laid_one, laid_out, room_for}
use Rattle.tl_form.proofs.named.+layout.Goals as goal

pub layout_on-loop-cell-preserved : goal.layout_on-loop-cell-preserved
layout_on-loop-cell-preserved t c =
    cells_laid c.args.style c.args.sections.now c.args.placed.widths c.as_slice-cell-items.result.now
    c.loop-cell.cell-index c.cell-item.result
    c.loop-cell.inner c.in_ok-inner.inner c.loop-cell-test.true c.cell-item.is c.loop-cell.invariant
    (subst (λ ws. LaysOut c.args.style c.args.sections.now (room_for c.args.style ws c.cell-item.result)
    (tables_in (out-TableCell c.cell-item.result))
    c.loop-cell.inner c.in_ok-inner.inner) c.as_slice.ensures c.in_ok-inner.ensures)

pub layout_on-returns : goal.layout_on-returns
layout_on-returns t c = λ at own.
    laid_out c.args.style c.args.sections.now at c.args.table.now c.args.placed c.loop-cell.inner
    (roll-Layout (record {
      widths = c.args.placed.widths;
      heights = c.args.placed.heights;
      inner =
          c.loop-cell.inner;
    }))
    (out-roll-Layout (record {
      widths = c.args.placed.widths;
      heights = c.args.placed.heights;
      inner =
          c.loop-cell.inner;
    }))
    own
    (subst (λ cells. CellsLaid c.args.style c.args.sections.now c.args.placed.widths cells c.loop-cell.inner)
    (take_all c.loop-cell.cell-index c.as_slice-cell-items.result.now c.loop-cell-test.false ∙ c.as_slice-cell-items.ensures)
    c.loop-cell.invariant)

pub with_block-unwrap-at-requires : goal.with_block-unwrap-at-requires
with_block-unwrap-at-requires t c =
    let table = c.deref.result.now in
    let can = can_box c.args.style c.args.sections.now c.args.room (out-Content c.args.block.now) c.in-Table.table table
    (ap out-Content c.in-Table.is ∙ outs-Table c.in-Table.table) c.deref.ensures c.requires in
    let d : Section = record { table = 0; width = 0; height = 0; lower = 0; widths = []; trace = []; log = [] } in
    let found = is_some_by c.chosen.result
    (NoneWithin c.args.style c.args.sections.now (out-Table table).number c.args.room (length c.args.sections.now))
    (IsChosen c.args.style c.args.sections.now (out-Table table).number c.args.room)
    (λ none. none can.at d can.there (can.within d)) c.chosen.ensures in
    rw (found.1) (search rules)

pub with_block-placed_by-requires-clause-part : goal.with_block-placed_by-requires-clause-part
with_block-placed_by-requires-clause-part t c =
    let table = c.deref.result.now in
    let same : c.deref-in-Table.result.now ≡ table = c.deref-in-Table.ensures ∙ sym c.deref.ensures in
    let can = can_box c.args.style c.args.sections.now c.args.room (out-Content c.args.block.now) c.in-Table.table table
    (ap out-Content c.in-Table.is ∙ outs-Table c.in-Table.table) c.deref.ensures c.requires in
    subst (HasPart c.args.style c.args.sections.now) (sym same) can.part

pub with_block-placed_by-requires-clause-there : goal.with_block-placed_by-requires-clause-there
with_block-placed_by-requires-clause-there t c =
    let table = c.deref.result.now in
    let chosen = chosen_is c.args.style c.args.sections.now (out-Table table).number c.args.room c.unwrap-at.result
    c.chosen.result c.unwrap-at.ensures
    c.chosen.ensures in
    chosen.there

pub with_block-placed_by-requires-clause-own : goal.with_block-placed_by-requires-clause-own
with_block-placed_by-requires-clause-own t c =
    let table = c.deref.result.now in
    let same : c.deref-in-Table.result.now ≡ table = c.deref-in-Table.ensures ∙ sym c.deref.ensures in
    let chosen = chosen_is c.args.style c.args.sections.now (out-Table table).number c.args.room c.unwrap-at.result
    c.chosen.result c.unwrap-at.ensures
    c.chosen.ensures in
    λ d. (chosen.within d).of ∙ sym (ap (λ one. (out-Table one).number) same)

pub with_block-layout_on-requires : goal.with_block-layout_on-requires
with_block-layout_on-requires t c =
    let table = c.deref.result.now in
    let same : c.deref-in-Table.result.now ≡ table = c.deref-in-Table.ensures ∙ sym c.deref.ensures in
    let other : c.deref-in-Table-2.result.now ≡ table = c.deref-in-Table-2.ensures ∙ sym c.deref.ensures in (
      search (rules, the_lemmas),
      subst (λ one. HasRooms c.args.style c.args.sections.now (out-Table one) c.in_ok-placed-in-Table.placed)
          (same ∙ sym other) c.in_ok-placed-in-Table.ensures.rooms,
    )

pub with_block-returns-in_ok-push-in-Table : goal.with_block-returns-in_ok-push-in-Table
with_block-returns-in_ok-push-in-Table t c =
    let table = c.deref.result.now in
    let same : c.deref-in-Table.result.now ≡ table = c.deref-in-Table.ensures ∙ sym c.deref.ensures in
    let other : c.deref-in-Table-2.result.now ≡ table = c.deref-in-Table-2.ensures ∙ sym c.deref.ensures in
    let chosen = chosen_is c.args.style c.args.sections.now (out-Table table).number c.args.room c.unwrap-at.result
    c.chosen.result c.unwrap-at.ensures
    c.chosen.ensures in
    let own = subst (λ one. IsPlacedBy c.args.style c.args.sections.now c.unwrap-at.result one c.in_ok-placed-in-Table.placed)
    (same ∙ sym other) c.in_ok-placed-in-Table.ensures.own in
    box_laid c.args.style c.args.sections.now c.args.room (out-Content c.args.block.now)
    c.in-Table.table table c.args.inner c.push.new.self
    (ap out-Content c.in-Table.is ∙ outs-Table c.in-Table.table) c.deref.ensures
    (laid_one c.args.style c.args.sections.now c.args.room table c.unwrap-at.result c.in_ok-layout-in-Table.layout c.args.inner
    c.push.new.self chosen
    (subst (λ one. IsLaidOut c.args.style c.args.sections.now c.unwrap-at.result one c.in_ok-layout-in-Table.layout)
    other (c.in_ok-layout-in-Table.ensures c.unwrap-at.result own))
    c.in_ok-push-in-Table.ensures.ok)

pub with_cell-with_block-requires : goal.with_cell-with_block-requires
with_cell-with_block-requires t c =
    let place = (out-TableCell c.args.cell.now).place in
    let w : c.room_on_page-room.result ≡ room (gap_of c.args.style) c.args.widths.now place.left place.right =
    c.room_on_page-room.ensures ∙ ap (λ gap. room gap c.args.widths.now place.left place.right) c.gap.ensures in (
      search (rules, the_lemmas),
      can_block c.args.style c.args.sections.now c.room_on_page-room.result c.args.cell.now c.loop-block.block-index
          c.block-item.result
          (subst (λ items. c.loop-block.block-index < length items) c.as_slice-block-items.ensures c.loop-block-test.true)
          (subst (λ items. c.block-item.result ≡ get_or items c.loop-block.block-index c.block-item.result)
          c.as_slice-block-items.ensures
          c.block-item.is)
          (subst (λ n. AllByRecursion (CanLay c.args.style c.args.sections.now n) (tables_in (out-TableCell c.args.cell.now)))
          (sym w) c.requires.can),
    )

pub with_cell-loop-block-preserved : goal.with_cell-loop-block-preserved
with_cell-loop-block-preserved t c =
    blocks_laid c.args.style c.args.sections.now c.room_on_page-room.result c.as_slice-block-items.result.now
    c.loop-block.block-index c.block-item.result
    c.args.inner c.loop-block.inner c.in_ok-inner.inner c.loop-block-test.true c.block-item.is c.loop-block.invariant
    c.in_ok-inner.ensures
