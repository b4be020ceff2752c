use Rattle.tl_cert.proofs.text.Laws.{texts_apart}
use Rattle.tl_cert.proofs.text_laws.texts_are_apart.Goals as goal

pub returns : goal.returns
returns c = texts_apart
