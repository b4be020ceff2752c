use Rattle.tl_page.proofs.TrimLaws.{keeps_text}
use Rattle.tl_page.proofs.trim.trimming_keeps_text.Goals as goal

pub returns : goal.returns
returns c = keeps_text
