use Rattle.tl_form.proofs.ChainRanges.{chains-writable}
use Rattle.tl_form.proofs.chain_laws.chains_are_writable.Goals as goal

pub returns : goal.returns
returns c = λ table style chains weight sound few is. chains-writable is.0 table style chains weight sound few is.1
