use Rattle.tl_page.proofs.PageLaws.{as_high}
use Rattle.tl_page.proofs.laws.pages_are_as_high.Goals as goal

pub returns : goal.returns
returns c = λ style table layout page is. as_high style table layout page is
