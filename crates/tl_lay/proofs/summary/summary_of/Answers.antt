-- The numbers are those of a valid certificate.
use Rattle.std.proofs.Common.{◌≡◌, ◌≤◌, ◌-◌, inl, ℕ, List, length, get_or, refl, sym, ap, subst, ◌∙◌, arith}
use Rattle.tl_base.specs.declared.limits.TheConstants.{MAX_PAGE_WIDTH}
use Rattle.tl_base.specs.declared.style.Style.TheVariants.{Plain}
use Rattle.tl_cert.specs.declared.certificate.Certificate.{Certificate}
use Rattle.tl_cert.specs.declared.section.Section.{Section}
use Rattle.tl_cert.specs.Text.{IsWritable}
use Rattle.tl_demo.specs.declared.laws.TheConstants.{DEMO_WIDTH}
use Rattle.tl_table.specs.Least.{IsLeastWidth}
use Rattle.tl_nested.specs.Searched.{AreSectionsOf}
use Rattle.tl_lay.specs.declared.limits.TheConstants.{DEMO_BUDGET}
use Rattle.tl_base.specs.declared.search.Search.TheVariants.{Best}
use Rattle.tl_lay.specs.declared.task.Task.{Task}
use Rattle.tl_lay.specs.Answers.{IsOutcomeOf}
use Rattle.tl_narrow.specs.Certified.{certificate_of}
use Rattle.tl_lay.specs.Demonstration.{before_last}
use Rattle.tl_lay.specs.inner.Summaries.{demo_task, HasOwnNext, IsCountAfter}
use Rattle.tl_narrow.proofs.Certifying.{writable}
use Rattle.tl_nested.proofs.Ready.{fits_of, subject_of}
use Rattle.tl_lay.proofs.Summing.{demo_sections, next_there, summary_made}
use Rattle.tl_lay.proofs.summary.summary_of.Goals as goal

pub searched-requires-clause-subject : goal.searched-requires-clause-subject
searched-requires-clause-subject g c κs within =
    let task = c.task-task.result in
    let narrow : task.width ≤ MAX_PAGE_WIDTH = omega (arith, ap (λ (t : Task). t.width) c.task-task.ensures) in
    subject_of c.args.table.now task.style task.width c.in_ok-subject.subject c.requires.sound narrow c.in_ok-subject.ensures.is
    c.in_ok-subject.ensures.tables

pub searched-requires-clause-wide : goal.searched-requires-clause-wide
searched-requires-clause-wide g c κs within =
    let task = c.task-task.result in
    fits_of c.args.table.now task.style task.width c.in_ok-subject.subject c.in_ok-subject.ensures.is
    (subst (λ (t : Task). (least : ℕ) → IsLeastWidth c.args.table.now t.style least → least ≤ t.width) (sym c.task-task.ensures)
    c.requires.wide)

-- the search is that of the demonstration
sections_are : (table : _) (task : Task) (sections : List Section) → task ≡ demo_task →
    AreSectionsOf (IsOutcomeOf task.search task.workers DEMO_BUDGET) table task.style task.width DEMO_BUDGET sections →
    demo_sections table sections
sections_are table task sections same =
    subst (λ (t : Task). AreSectionsOf (IsOutcomeOf t.search t.workers DEMO_BUDGET) table t.style t.width DEMO_BUDGET sections) same

made_of : (task : Task) (certificate : Certificate) (sections : List Section) → task ≡ demo_task →
    certificate ≡ certificate_of task.width task.style DEMO_BUDGET sections →
    certificate ≡ certificate_of DEMO_WIDTH Plain DEMO_BUDGET sections
made_of task certificate sections same made = made ∙ ap (λ (t : Task). certificate_of t.width t.style DEMO_BUDGET sections) same

pub verify-requires-clause-written : goal.verify-requires-clause-written
verify-requires-clause-written g c = λ lifetimes outlives.
    let sections = c.in_ok-sections.field-0.sections in
    let of = c.in_ok-subject.ensures.is in
    let are = sections_are c.args.table.now c.task-task.result sections c.task-task.ensures
    (rw (of.same, of.drawn, of.wide) at c.in_ok-sections.ensures.expected) in
    let made = made_of c.task-task.result c.certificate_of-certificate.result sections c.task-task.ensures
    c.certificate_of-certificate.ensures in
    subst IsWritable (sym made)
    (writable (IsOutcomeOf Best 1 DEMO_BUDGET) c.args.table.now Plain DEMO_WIDTH DEMO_BUDGET sections are
    c.in_ok-sections.ensures.writable c.requires.wide
    (omega arith) (omega arith) (omega arith))

pub overflow_cast-result : goal.overflow_cast-result
overflow_cast-result g c = omega (arith, c.len.ensures, c.requires.cells c.args.table.now (inl refl))

pub count_after-requires-clause-good : goal.count_after-requires-clause-good
count_after-requires-clause-good g c =
    let sections = c.in_ok-sections.field-0.sections in
    let of = c.in_ok-subject.ensures.is in
    let are = sections_are c.args.table.now c.task-task.result sections c.task-task.ensures
    (rw (of.same, of.drawn, of.wide) at c.in_ok-sections.ensures.expected) in
    let made = made_of c.task-task.result c.certificate_of-certificate.result sections c.task-task.ensures
    c.certificate_of-certificate.ensures in
    subst (λ (all : List Section). HasOwnNext c.args.table.now (before_last all)) (sym c.as_slice-sections.ensures)
    (next_there c.args.table.now c.certificate_of-certificate.result sections are c.in_ok-sections.ensures.writable
    c.requires.wide made)

pub returns : goal.returns
returns g c =
    let sections = c.in_ok-sections.field-0.sections in
    let of = c.in_ok-subject.ensures.is in
    let are = sections_are c.args.table.now c.task-task.result sections c.task-task.ensures
    (rw (of.same, of.drawn, of.wide) at c.in_ok-sections.ensures.expected) in
    let made = made_of c.task-task.result c.certificate_of-certificate.result sections c.task-task.ensures
    c.certificate_of-certificate.ensures in
    let section = c.index-sections-own.result in
    summary_made c.args.table.now c.certificate_of-certificate.result sections are c.in_ok-sections.ensures.writable
    c.requires.wide made
    (record {
      cells = c.len.result;
      count = c.in_ok-count_after.field-0;
      height = section.height;
      lower = section.lower;
      cuts =
          c.len-2.result;
    })
    section c.in_ok-count_after.field-0
    (subst (λ (all : List Section). section ≡ get_or all (length all - 1) section)
    c.as_slice-sections.ensures c.index-sections-own.is)
    (subst (λ (all : List Section). IsCountAfter c.args.table.now (before_last all) c.in_ok-count_after.field-0)
    c.as_slice-sections.ensures c.in_ok-count_after.ensures)
    c.len.ensures refl refl refl c.len-2.ensures
