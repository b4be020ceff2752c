-- A chain that is wider than the page is a valid certificate.
use Rattle.std.proofs.Common.{◌≡◌, ℕ, sym, subst, arith}
use Rattle.tl_base.specs.declared.style.Style.{Style}
use Rattle.tl_cert.specs.declared.certificate.Certificate.{Certificate}
use Rattle.tl_cert.specs.Text.{IsWritable}
use Rattle.tl_table.specs.declared.cell.Table.{Table}
use Rattle.tl_table.specs.Least.{IsLeastWidth}
use Rattle.tl_form.specs.Expected.{IsDocumentOf}
use Rattle.tl_form.specs.Subjects.{meant}
use Rattle.tl_form.specs.Valid.{IsValid}
use Rattle.tl_lay.specs.declared.task.Task.{Task}
use Rattle.tl_lay.specs.Answers.{narrow_laid, IsReadable}
use Rattle.tl_lay.specs.Inputs.{IsUsableTable}
use Rattle.tl_lay.proofs.Readable.{read_back, readable}
use Rattle.tl_lay.proofs.lowest.too_narrow.Goals as goal

made_readable : (task : Task) (table : Table) (style : Style) (budget : ℕ) → IsUsableTable task table budget →
    style ≡ task.style → (made : Certificate) → IsValid table style task.width budget made → IsWritable made → IsReadable made
made_readable task table style budget usable drawn made is_valid written =
    readable task table budget usable task.width made (omega arith)
    (subst (λ (s : Style). IsValid table s task.width budget made) drawn is_valid) written

pub narrow_certificate-requires-clause-subject : goal.narrow_certificate-requires-clause-subject
narrow_certificate-requires-clause-subject c =
    let subject = c.args.subject.now in
    subst (λ (page : ℕ). IsDocumentOf subject.table.now subject.style page (meant subject)) (sym c.requires.subject.wide)
    (subst (λ (style : Style). IsDocumentOf subject.table.now style c.args.task.now.width (meant subject))
    (sym c.requires.subject.drawn) c.requires.subject)

pub narrow_certificate-requires-clause-least : goal.narrow_certificate-requires-clause-least
narrow_certificate-requires-clause-least c =
    let subject = c.args.subject.now in
    subst (λ (style : Style). IsLeastWidth subject.table.now style c.args.least) (sym c.requires.subject.drawn) c.requires.least

pub certificate_file-requires : goal.certificate_file-requires
certificate_file-requires c = made_readable c.args.task.now c.args.subject.now.table.now c.args.subject.now.style c.args.budget
    c.requires.usable c.requires.subject.drawn c.in_ok-certificate.certificate c.in_ok-certificate.ensures.valid
    c.in_ok-certificate.ensures.writable

pub returns : goal.returns
returns c =
    let task = c.args.task.now in
    let table = c.args.subject.now.table.now in
    let made = c.in_ok-certificate.certificate in
    narrow_laid (record {
      is_least = c.requires.least;
      narrow = c.requires.narrow;
      certificate = made;
      certifies = record {
        claimed = c.in_ok-certificate.ensures.claim;
        valid = subst (λ (budget : ℕ). IsValid table task.style task.width budget made) c.requires.usable.of_task
            (subst (λ (style : Style). IsValid table style task.width c.args.budget made) c.requires.subject.drawn
            c.in_ok-certificate.ensures.valid);
      };
      is_text = (
        c.in_ok-certificate_file.ensures,
        read_back task.certified made (made_readable task table c.args.subject.now.style c.args.budget c.requires.usable
            c.requires.subject.drawn made c.in_ok-certificate.ensures.valid c.in_ok-certificate.ensures.writable),
      );
    })
