use Rattle.std.proofs.Common.{◌-◌, ℕ, length, sym, subst, IfOk}
use Rattle.tl_table.specs.declared.cell.Table.{out-Table}
use Rattle.tl_table.specs.Layouts.{Fits}
use Rattle.tl_form.specs.Named.{IsNamed}
use Rattle.tl_form.specs.ValidLaws.{HasHeight}
use Rattle.tl_form.specs.inner.Naming.{HasRooms, IsLaidWith}
use Rattle.tl_form.proofs.NamedSteps.{fits_of, last_placed, last_rooms, named_of, ok_so}
use Rattle.tl_form.proofs.named.layout_with.Goals as goal

pub layout_on-requires : goal.layout_on-requires
layout_on-requires c =
    subst (λ sections. HasRooms c.args.style sections (out-Table c.args.table.now) c.args.placed) (sym c.as_slice.ensures)
    (last_rooms c.args.table.now c.args.style c.args.certificate.now c.requires.sound c.requires.written c.requires.valid
    c.requires.wide_enough c.args.placed c.requires.placed)

pub returns-clause-named : goal.returns-clause-named
returns-clause-named c =
    let sections = c.args.certificate.now.sections in
    ok_so (IsLaidWith c.args.style sections c.args.table.now c.args.placed)
    (IsNamed c.args.table.now c.args.style c.args.certificate.now)
    c.layout_on.result
    (λ layout laid. named_of c.args.table.now c.args.style c.args.certificate.now c.requires.sound c.requires.written
    c.requires.valid c.requires.wide_enough layout
    (laid (length sections - 1) (last_placed c.args.table.now c.args.style c.args.certificate.now c.requires.sound
    c.requires.written c.requires.valid c.requires.wide_enough c.args.placed c.requires.placed)))
    (subst (λ all. IfOk c.layout_on.result (IsLaidWith c.args.style all c.args.table.now c.args.placed))
    c.as_slice.ensures c.layout_on.ensures)

pub returns-clause-fits : goal.returns-clause-fits
returns-clause-fits c =
    let sections = c.args.certificate.now.sections in
    ok_so (IsLaidWith c.args.style sections c.args.table.now c.args.placed)
    (λ layout. (height : ℕ) → HasHeight c.args.certificate.now.claim height →
    Fits c.args.table.now c.args.style c.args.certificate.now.width height layout)
    c.layout_on.result
    (λ layout laid. fits_of c.args.table.now c.args.style c.args.certificate.now c.requires.sound c.requires.written
    c.requires.valid c.requires.wide_enough layout
    (laid (length sections - 1) (last_placed c.args.table.now c.args.style c.args.certificate.now c.requires.sound
    c.requires.written c.requires.valid c.requires.wide_enough c.args.placed c.requires.placed)))
    (subst (λ all. IfOk c.layout_on.result (IsLaidWith c.args.style all c.args.table.now c.args.placed))
    c.as_slice.ensures c.layout_on.ensures)
