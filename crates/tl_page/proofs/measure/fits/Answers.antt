-- Nothing fits where no height is found.
use Rattle.std.proofs.lemmas.Bool.{false≢true}
use Rattle.tl_page.proofs.measure.fits.Goals as goal

pub returns-in-None : goal.returns-in-None
returns-in-None c = (λ never. absurd (false≢true never), λ some. absurd (c.in-None.ensures.takes.all some.0 some.2))
