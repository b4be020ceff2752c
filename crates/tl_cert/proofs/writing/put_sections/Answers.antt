use Rattle.tl_cert.specs.Text.{section_pieces}
use Rattle.tl_cert.proofs.Appending.{written_more}
use Rattle.tl_cert.proofs.writing.put_sections.Goals as goal

pub sections-preserved : goal.sections-preserved
sections-preserved c =
    written_more section_pieces c.args.sections.now c.sections.section-index c.section-item.result c.args.out.now c.sections.out
    c.put_section.new.out
    c.sections-test.true c.section-item.is
    c.sections.invariant c.in_ok-put_section.ensures
