use Rattle.std.proofs.Common.{option_map}
use Rattle.tl_form.specs.Subjects.{due_of, meant}
use Rattle.tl_verify.specs.inner.Sections.{IsInOrderTo}
use Rattle.tl_verify.proofs.sections.in_order.Given as goal

abbrev pub invariant-loop-number : goal.invariant-loop-number
invariant-loop-number l = IsInOrderTo (meant l.subject) l.certificate.sections l.number (option_map due_of l.due)
