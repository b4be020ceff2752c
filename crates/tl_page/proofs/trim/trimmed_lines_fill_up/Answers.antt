use Rattle.tl_page.proofs.TrimLaws.{fill_up}
use Rattle.tl_page.proofs.trim.trimmed_lines_fill_up.Goals as goal

pub returns : goal.returns
returns c = fill_up
