use Rattle.tl_form.proofs.ValidLaws.{narrow_is_too_wide}
use Rattle.tl_form.proofs.valid_laws.narrow_is_too_wide.Goals as goal

pub returns : goal.returns
returns c = narrow_is_too_wide c.no_page_is_narrower_than_a_chain.ensures
