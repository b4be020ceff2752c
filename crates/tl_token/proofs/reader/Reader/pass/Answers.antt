use Rattle.tl_token.proofs.ReaderLemmas.{passed_one}
use Rattle.tl_token.proofs.reader.Reader.pass.Goals as goal

pub returns : goal.returns
returns c = passed_one _ _ c.next.result c.next.ensures
