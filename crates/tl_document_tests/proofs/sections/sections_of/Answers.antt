use Rattle.std.proofs.Common.{arith}
use Rattle.tl_base.specs.declared.style.Style.TheVariants.{Plain}
use Rattle.tl_table.proofs.LinkLemmas.{IsLeastWidth-unique}
use Rattle.tl_document_tests.proofs.sections.sections_of.Goals as goal

pub sections-requires-clause-wide : goal.sections-requires-clause-wide
sections-requires-clause-wide g c = λ lifetimes outlives least is.
    let same = IsLeastWidth-unique c.in_ok-table.table Plain least c.in_ok-least.least is c.in_ok-least.ensures.least in
    omega (arith, same, c.if-width-least.false)
