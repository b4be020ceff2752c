-- The sections before the table's own, on any document of it.
use Rattle.std.proofs.Common.{◌≡◌, length, Some, subst}
use Rattle.tl_base.specs.declared.style.Style.TheVariants.{Plain}
use Rattle.tl_demo.specs.declared.laws.TheConstants.{DEMO_WIDTH}
use Rattle.tl_table.specs.declared.cell.Table.{out-Table}
use Rattle.tl_form.specs.Expected.{Document, due_after}
use Rattle.tl_form.specs.Subjects.{meant}
use Rattle.tl_form.specs.Valid.{AreGoodBelow, IsProblemAt}
use Rattle.tl_form.proofs.OneProblem.{one_document}
use Rattle.tl_nested.proofs.Ready.{fits_of}
use Rattle.tl_lay.specs.declared.limits.TheConstants.{DEMO_BUDGET}
use Rattle.tl_lay.proofs.summary.count_after.Goals as goal

pub problem_at-requires-clause-wide : goal.problem_at-requires-clause-wide
problem_at-requires-clause-wide c = fits_of c.args.table.now Plain DEMO_WIDTH c.in_ok-subject.subject c.in_ok-subject.ensures.is
    c.requires.wide

pub problem_at-requires-clause-good : goal.problem_at-requires-clause-good
problem_at-requires-clause-good c = (
  DEMO_BUDGET,
  subst (λ (d : Document). AreGoodBelow d DEMO_BUDGET c.args.before.now (length c.args.before.now))
      (one_document c.args.table.now Plain DEMO_WIDTH c.requires.good.document (meant c.in_ok-subject.subject) c.requires.sound
      c.requires.good.of c.in_ok-subject.ensures.is) c.requires.good.good,
)

pub problem_at-requires-clause-next : goal.problem_at-requires-clause-next
problem_at-requires-clause-next c =
    subst (λ (d : Document). due_after d c.args.before.now ≡ Some
    (record { table = (out-Table c.args.table.now).number; width = DEMO_WIDTH }))
    (one_document c.args.table.now Plain DEMO_WIDTH c.requires.good.document (meant c.in_ok-subject.subject) c.requires.sound
    c.requires.good.of c.in_ok-subject.ensures.is) c.requires.good.next

pub returns : goal.returns
returns c = record {
  problem = c.in_ok-problem_at.field-0;
  counted = c.count.ensures;
  own = λ document of section number width.
      subst (λ (d : Document). IsProblemAt d c.args.before.now section c.in_ok-problem_at.field-0)
      (one_document c.args.table.now Plain DEMO_WIDTH (meant c.in_ok-subject.subject)
      document c.requires.sound c.in_ok-subject.ensures.is of)
      (c.in_ok-problem_at.ensures section number width);
}
