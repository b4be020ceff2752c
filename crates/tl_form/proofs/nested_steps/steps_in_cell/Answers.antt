use Rattle.std.proofs.Common.{◌≡◌, ◌∙◌, ◌<◌, [], ◌∷◌, get_or, length, sym, ap, subst}
use Rattle.tl_table.specs.declared.cell.Content.{out-Content}
use Rattle.tl_table.specs.declared.cell.Content.TheVariants.{outs-Para, outs-Table}
use Rattle.tl_table.specs.declared.cell.TableCell.{out-TableCell}
use Rattle.tl_table.specs.Tables.{tables_of}
use Rattle.tl_table.specs.Sound.{IsSoundBlock}
use Rattle.tl_form.proofs.Collected.{collects_none, collects_one, cell_lacks}
use Rattle.tl_table.proofs.LinkLemmas.{boxed_sound}
use Rattle.tl_table.proofs.SoundParts.{sound_blocks, at_item}
use Rattle.tl_form.proofs.nested_steps.steps_in_cell.Goals.{in-Para, in-Table+in_ok-steps-in-Table+in-Some+in_ok-push-in-Table}
use Rattle.tl_form.proofs.nested_steps.steps_in_cell.Goals as goal

pub steps_of-requires-clause-sound : goal.steps_of-requires-clause-sound
steps_of-requires-clause-sound c =
    boxed_sound (out-Content c.block-item.result) c.in-Table.nested c.deref.result.now
    (ap out-Content c.in-Table.is ∙ outs-Table c.in-Table.nested)
    c.deref.ensures
    (at_item (λ block. IsSoundBlock (out-Content block)) (out-TableCell c.args.cell.now).blocks c.loop-block.block-index
    c.block-item.result
    (sound_blocks c.args.cell.now c.requires.sound)
    (subst (λ items. c.loop-block.block-index < length items) c.as_slice-block-items.ensures c.loop-block-test.true)
    (subst (λ items. c.block-item.result ≡ get_or items c.loop-block.block-index c.block-item.result)
    c.as_slice-block-items.ensures c.block-item.is))

pub returns-in_default : goal.returns-in_default
returns-in_default c =
    cell_lacks c.args.style c.args.page c.args.sections.now (out-TableCell c.args.cell.now)
    c.as_slice-block-items.result.now c.loop-block.block-index
    c.block-item.result c.deref.result.now c.as_slice-block-items.ensures c.loop-block-test.true c.block-item.is
    (ap tables_of (ap out-Content c.in-Table.is ∙ outs-Table c.in-Table.nested) ∙ ap (λ table. table ∷ []) (sym c.deref.ensures))
    (rw (c.in_ok-steps-in-Table.was, c.in_default.is) at c.steps_of.ensures)

pub loop-block-preserved : goal.loop-block-preserved
loop-block-preserved c = elim c.match-block.branch [
  | in-Para w ↦ collects_none c.args.style c.args.page c.args.sections.now c.as_slice-block-items.result.now
      c.loop-block.block-index
      c.block-item.result c.args.inner c.loop-block.inner c.match-block.inner c.loop-block-test.true c.block-item.is
      (ap tables_of (ap out-Content w.in-Para.is ∙ outs-Para w.in-Para.field-0)) c.loop-block.invariant w.inner-is
  | in-Table+in_ok-steps-in-Table+in-Some+in_ok-push-in-Table w ↦ collects_one c.args.style c.args.page c.args.sections.now
      c.as_slice-block-items.result.now c.loop-block.block-index c.block-item.result w.deref.result.now w.in-Some.steps
      c.args.inner
      c.loop-block.inner c.match-block.inner c.loop-block-test.true c.block-item.is
      (ap tables_of (ap out-Content w.in-Table.is ∙ outs-Table w.in-Table.nested) ∙ ap (λ table. table ∷ [])
      (sym w.deref.ensures))
      c.loop-block.invariant (rw w.in-Some.is at w.in_ok-steps-in-Table.ensures) (w.inner-is ∙ w.in_ok-push-in-Table.ensures.ok)
]
