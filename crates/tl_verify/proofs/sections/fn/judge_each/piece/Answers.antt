use Rattle.tl_form.proofs.SmallSections.{small_sections}
use Rattle.tl_verify.proofs.sections.fn.judge_each.piece.Goals as goal

pub judge-requires : goal.judge-requires
judge-requires g c = record {
  subject = c.requires.1;
  small = λ d. small_sections c.captures.certificate.now c.requires.2 c.args.number d c.requires.0;
  there = c.requires.0;
  start = c.requires.3;
  order = c.requires.4;
}
