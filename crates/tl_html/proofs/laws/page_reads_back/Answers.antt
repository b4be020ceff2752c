use Rattle.tl_html.proofs.ReadsBack.{reads_back}
use Rattle.tl_html.proofs.laws.page_reads_back.Goals as goal

pub returns : goal.returns
returns c = reads_back
