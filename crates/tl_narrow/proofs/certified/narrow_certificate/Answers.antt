-- A chain that is wider than the page is a valid certificate.
use Rattle.std.proofs.Common.{arith}
use Rattle.tl_form.specs.Subjects.{meant}
use Rattle.tl_table.proofs.OwnWidths.{column_of_width}
use Rattle.tl_narrow.proofs.Certifying.{valid_narrow, writable_narrow}
use Rattle.tl_narrow.proofs.certified.narrow_certificate.Goals as goal

pub narrow_chain-requires-clause-column : goal.narrow_chain-requires-clause-column
narrow_chain-requires-clause-column c =
    column_of_width c.args.subject.now.table.now c.args.subject.now.style c.args.least c.requires.least
    (omega (arith, c.requires.some, c.requires.narrow))

pub returns-clause-valid : goal.returns-clause-valid
returns-clause-valid c =
    let subject = c.args.subject.now in
    valid_narrow subject.table.now subject.style c.args.width c.args.budget c.args.least c.in_ok-narrow_chain.field-0
    (meant subject) subject.page c.requires.subject c.requires.sound c.requires.least c.requires.narrow
    c.in_ok-narrow_chain.ensures c.new.result c.new.ensures

pub returns-clause-writable : goal.returns-clause-writable
returns-clause-writable c =
    let subject = c.args.subject.now in
    writable_narrow subject.table.now subject.style c.args.width c.args.budget c.args.least c.in_ok-narrow_chain.field-0
    (meant subject) subject.page c.requires.subject c.requires.sound c.requires.least c.requires.narrow
    c.in_ok-narrow_chain.ensures c.new.result c.new.ensures
    c.requires.some c.requires.page c.requires.cuts c.requires.small c.requires.cells c.chains_are_writable.ensures
