use Rattle.std.proofs.Common.{◌≡◌, ◌∙◌, take, option_map, refl, sym, ap, arith}
use Rattle.tl_form.specs.Expected.{next_due, placed_width}
use Rattle.tl_form.specs.Subjects.{due_of, meant}
use Rattle.tl_form.proofs.DueLaws.{may_be_due}
use Rattle.tl_nested.proofs.InOrder.{order_more}
use Rattle.tl_nested.proofs.at_once.due_after.Goals as goal

pub due_after-requires-clause-from : goal.due_after-requires-clause-from
due_after-requires-clause-from c =
    omega (
      arith,
      (may_be_due (meant c.args.subject.now) (take c.loop-section.section-index c.args.sections.now) (due_of c.loop-section.due)
          (omega (arith, c.requires.subject.document.numbers)) c.loop-section.invariant.1).from,
      c.if-section-due.false,
    )

pub due_after-requires-clause-there : goal.due_after-requires-clause-there
due_after-requires-clause-there c =
    omega (
      arith,
      (may_be_due (meant c.args.subject.now) (take c.loop-section.section-index c.args.sections.now) (due_of c.loop-section.due)
          (omega (arith, c.requires.subject.document.numbers)) c.loop-section.invariant.1).upto,
      c.requires.subject.document.numbers,
      c.requires.subject.document.each,
      c.if-section-due.false,
    )

pub loop-section-preserved : goal.loop-section-preserved
loop-section-preserved c =
    let document = meant c.args.subject.now in
    let section = c.section-item.result in
    order_more document c.args.sections.now c.loop-section.section-index (due_of c.loop-section.due)
    (due_of c.in_ok-due.due) section (placed_width document.style section) c.loop-section-test.true c.loop-section.invariant.0
    c.loop-section.invariant.1 c.section-item.is c.if-section-due.false c.if-section-due-2.false refl
    (sym (ap (option_map due_of) c.in_ok-due.was) ∙ c.due_after.ensures
    ∙ ap (λ number. next_due document number (placed_width document.style section)) c.if-section-due.false)
