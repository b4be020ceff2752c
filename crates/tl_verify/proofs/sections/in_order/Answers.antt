use Rattle.std.proofs.Common.{◌≡◌, ◌∙◌, ◌^◌, ◌≤◌, ◌<◌, Some, length, get_or, take, option_map, refl, sym, ap, subst, arith}
use Rattle.tl_base.specs.declared.limits.TheConstants.{MAX_COLUMNS}
use Rattle.tl_base.specs.Style.{edges_of, gap_of}
use Rattle.tl_base.proofs.SizeLaws.{spacing-sound}
use Rattle.tl_cert.specs.declared.section.Section.{Section}
use Rattle.tl_form.specs.Expected.{next_due, placed_width}
use Rattle.tl_form.specs.Subjects.{due_of, meant}
use Rattle.tl_form.proofs.DueLaws.{may_be_due}
use Rattle.tl_form.proofs.SmallSections.{few_sections, small_sections}
use Rattle.tl_verify.proofs.Ordering.{narrow_widths, order_more, total_fits}
use Rattle.tl_verify.proofs.sections.in_order.Goals as goal

pub overflow_cast-count : goal.overflow_cast-count
overflow_cast-count c =
    omega (
      arith,
      few_sections c.args.certificate.now c.requires.written c.requires.start.1.by_sections,
      ap length c.as_slice-sections.ensures,
    )

pub due_after-due-requires-clause-few : goal.due_after-due-requires-clause-few
due_after-due-requires-clause-few c =
    let section = c.index-sections-number.result in
    let is : section ≡ get_or c.args.certificate.now.sections c.loop-number.number section =
    c.index-sections-number.is ∙ ap (λ xs. get_or xs c.loop-number.number section) c.as_slice-sections.ensures in
    subst (λ (s : Section). length s.widths ≤ MAX_COLUMNS) (sym is)
    (small_sections c.args.certificate.now c.requires.written c.loop-number.number section
    (omega (arith, c.loop-number-test.true, ap length c.as_slice-sections.ensures))).few

pub due_after-due-requires-clause-small : goal.due_after-due-requires-clause-small
due_after-due-requires-clause-small c =
    let sections = c.args.certificate.now.sections in
    let style = c.args.subject.now.style in
    let section = c.index-sections-number.result in
    let is : section ≡ get_or sections c.loop-number.number section =
    c.index-sections-number.is ∙ ap (λ xs. get_or xs c.loop-number.number section) c.as_slice-sections.ensures in
    let inside : c.loop-number.number < length sections = omega
    (arith, c.loop-number-test.true, ap length c.as_slice-sections.ensures) in
    let spacing = spacing-sound style 0 (omega arith) in
    subst (λ (s : Section). placed_width style s < 2 ^ 32) (sym is)
    (total_fits (gap_of style) (edges_of style) (get_or sections c.loop-number.number section).widths spacing.near spacing.narrow
    (small_sections c.args.certificate.now c.requires.written c.loop-number.number section inside).few
    (narrow_widths c.args.certificate.now c.requires.written c.loop-number.number section inside))

pub due_after-due-requires-clause-from : goal.due_after-due-requires-clause-from
due_after-due-requires-clause-from c =
    omega (
      arith,
      (may_be_due (meant c.args.subject.now) (take c.loop-number.number c.args.certificate.now.sections) (due_of c.in-Some.now)
          (omega (arith, c.requires.subject.document.numbers))
          (c.loop-number.invariant.next ∙ ap (option_map due_of) c.in-Some.is)).from,
      c.if-section-now.false,
    )

pub due_after-due-requires-clause-there : goal.due_after-due-requires-clause-there
due_after-due-requires-clause-there c =
    omega (
      arith,
      (may_be_due (meant c.args.subject.now) (take c.loop-number.number c.args.certificate.now.sections) (due_of c.in-Some.now)
          (omega (arith, c.requires.subject.document.numbers))
          (c.loop-number.invariant.next ∙ ap (option_map due_of) c.in-Some.is)).upto,
      c.requires.subject.document.numbers,
      c.requires.subject.document.each,
      c.if-section-now.false,
    )

pub loop-number-preserved : goal.loop-number-preserved
loop-number-preserved c =
    let document = meant c.args.subject.now in
    let section = c.index-sections-number.result in
    let is : section ≡ get_or c.args.certificate.now.sections c.loop-number.number section =
    c.index-sections-number.is ∙ ap (λ xs. get_or xs c.loop-number.number section) c.as_slice-sections.ensures in
    order_more document c.args.certificate.now.sections c.loop-number.number c.loop-number.due
    c.due_after-due.result c.in-Some.now (placed_width document.style section) section
    (omega (arith, c.loop-number-test.true, ap length c.as_slice-sections.ensures)) c.loop-number.invariant c.in-Some.is is
    c.if-section-now.false c.if-section-now-2.false refl
    (c.due_after-due.ensures
    ∙ ap (λ number. next_due document number (placed_width document.style section)) c.if-section-now.false)
