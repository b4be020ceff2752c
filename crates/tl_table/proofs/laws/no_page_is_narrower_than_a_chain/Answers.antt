use Rattle.tl_table.proofs.ChainLaws.{never_narrower}
use Rattle.tl_table.proofs.laws.no_page_is_narrower_than_a_chain.Goals as goal

pub returns : goal.returns
returns c = λ table style chains weight width height layout sound chain fits.
    never_narrower chain.0 style table chains weight width height layout fits.0 sound chain.1 fits.1
