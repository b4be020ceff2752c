use Rattle.tl_form.proofs.ShortTexts.{short}
use Rattle.tl_form.proofs.length_laws.valid_is_short.Goals as goal

pub returns : goal.returns
returns c = short
