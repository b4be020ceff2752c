use Rattle.std.proofs.Common.{◌≡◌, ◌-◌, List, length, get_or, sym, subst}
use Rattle.tl_cert.specs.declared.section.Section.{Section}
use Rattle.tl_table.specs.declared.cell.Table.{out-Table}
use Rattle.tl_form.specs.inner.Naming.{HasPart, IsPlacedBy}
use Rattle.tl_form.proofs.NamedSteps.{last_own, part_of_valid, placed_last}
use Rattle.tl_form.proofs.named.layout.Goals as goal

pub placed_by-requires-clause-part : goal.placed_by-requires-clause-part
placed_by-requires-clause-part c =
    subst (λ sections. HasPart c.args.style sections c.args.table.now) (sym c.as_slice-sections.ensures) (
      c.requires.valid.0,
      c.args.certificate.now.budget,
      part_of_valid c.args.table.now c.args.style c.args.certificate.now c.requires.sound c.requires.written
          c.requires.valid c.requires.wide_enough,
    )

pub placed_by-requires-clause-own : goal.placed_by-requires-clause-own
placed_by-requires-clause-own c =
    subst (λ (sections : List Section). (d : Section) → (get_or sections (length sections - 1) d).table ≡
    (out-Table c.args.table.now).number)
    (sym c.as_slice-sections.ensures)
    (last_own c.args.table.now c.args.style c.args.certificate.now c.requires.sound c.requires.written c.requires.valid
    c.requires.wide_enough)

pub layout_with-requires-clause-placed : goal.layout_with-requires-clause-placed
layout_with-requires-clause-placed c =
    placed_last c.args.table.now c.args.style c.args.certificate.now c.requires.sound c.requires.written c.requires.valid
    c.requires.wide_enough c.in_ok-placed.placed
    (subst (λ all. IsPlacedBy c.args.style all (length all - 1) c.args.table.now c.in_ok-placed.placed)
    c.as_slice-sections.ensures c.in_ok-placed.ensures.own)
