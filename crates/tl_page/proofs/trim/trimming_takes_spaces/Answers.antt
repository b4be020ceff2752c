use Rattle.tl_page.proofs.TrimLaws.{takes_spaces}
use Rattle.tl_page.proofs.trim.trimming_takes_spaces.Goals as goal

pub returns : goal.returns
returns c = takes_spaces
