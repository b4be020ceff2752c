-- The certificate is that of the sections that were found; the subject is that of the task's style and width.
use Rattle.std.proofs.Common.{sym, subst}
use Rattle.tl_cert.specs.declared.certificate.Certificate.{Certificate}
use Rattle.tl_form.specs.Named.{IsLastPlacement}
use Rattle.tl_nested.proofs.Ready.{fits_of, subject_of}
use Rattle.tl_lay.proofs.lowest.found.Goals as goal

pub searched-requires-clause-subject : goal.searched-requires-clause-subject
searched-requires-clause-subject g c κs within =
    let task = c.args.task.now in
    subject_of c.args.subject.now.table.now task.style task.width c.args.subject.now c.requires.usable.sound
    c.requires.usable.range.narrow c.requires.subject c.requires.tables

pub searched-requires-clause-wide : goal.searched-requires-clause-wide
searched-requires-clause-wide g c κs within =
    let task = c.args.task.now in
    fits_of c.args.subject.now.table.now task.style task.width c.args.subject.now c.requires.subject c.requires.wide

pub returns-clause-found : goal.returns-clause-found
returns-clause-found g c = record {
  sections = c.in_ok-sections.field-0.sections;
  expected = rw (c.requires.subject.drawn, c.requires.subject.wide) at c.in_ok-sections.ensures.expected;
  writable = c.in_ok-sections.ensures.writable;
  made = c.certificate_of-certificate.ensures;
}

pub returns-clause-placed : goal.returns-clause-placed
returns-clause-placed g c =
    let task = c.args.task.now in
    subst (λ (made : Certificate). IsLastPlacement c.args.subject.now.table.now task.style task.width made.sections
    c.in_ok-sections.field-0.placed)
    (sym c.certificate_of-certificate.ensures)
    (rw (c.requires.subject.drawn, c.requires.subject.wide) at c.in_ok-sections.ensures.placed)
