use Rattle.std.proofs.Common.{sym, subst, arith}
use Rattle.tl_table.specs.Numbered.{AreByNumber}
use Rattle.tl_form.proofs.SubjectLemmas.{all_sound, document_made}
use Rattle.tl_form.proofs.subject.Subject.of.Goals as goal

pub least_widths-requires : goal.least_widths-requires
least_widths-requires c =
    all_sound c.args.table.now c.as_slice.result.now c.requires.sound
    (subst (AreByNumber c.args.table.now) (sym c.as_slice.ensures.value) c.in_ok-tables.ensures)

pub returns-clause-is : goal.returns-clause-is
returns-clause-is c =
    document_made c.args.table.now c.args.style c.args.page _ c.as_slice.result.now c.in_ok-least.least.items c.requires.sound
    (subst (AreByNumber c.args.table.now) (sym c.as_slice.ensures.value) c.in_ok-tables.ensures) c.in_ok-least.ensures.each
    (omega (arith, c.nested.ensures))
