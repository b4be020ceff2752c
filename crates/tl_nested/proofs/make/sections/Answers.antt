-- The subject is made of the table, so that it has the table, the style and the width.
use Rattle.tl_nested.proofs.Ready.{fits_of, subject_of}
use Rattle.tl_nested.proofs.make.sections.Goals as goal

pub laid_sections-requires-clause-subject : goal.laid_sections-requires-clause-subject
laid_sections-requires-clause-subject g c κs within = subject_of c.args.table.now c.args.style c.args.width c.in_ok-subject.subject
    c.requires.sound c.requires.narrow c.in_ok-subject.ensures.is c.in_ok-subject.ensures.tables

pub laid_sections-requires-clause-wide : goal.laid_sections-requires-clause-wide
laid_sections-requires-clause-wide g c κs within = fits_of c.args.table.now c.args.style c.args.width c.in_ok-subject.subject
    c.in_ok-subject.ensures.is c.requires.wide

pub returns-clause-expected : goal.returns-clause-expected
returns-clause-expected g c =
    let of = c.in_ok-subject.ensures.is in
    rw (← of.same, ← of.drawn, ← of.wide) c.in_ok-sections.ensures.expected
