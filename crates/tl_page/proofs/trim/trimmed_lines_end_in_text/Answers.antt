use Rattle.tl_page.proofs.TrimLaws.{end_in_text}
use Rattle.tl_page.proofs.trim.trimmed_lines_end_in_text.Goals as goal

pub returns : goal.returns
returns c = end_in_text
