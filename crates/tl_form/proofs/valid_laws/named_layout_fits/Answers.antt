use Rattle.tl_form.proofs.NamedLaws.{named_layout}
use Rattle.tl_form.proofs.valid_laws.named_layout_fits.Goals as goal

pub returns : goal.returns
returns c = named_layout c.layouts_are_by_low.ensures c.layouts_by_high_fit.ensures
