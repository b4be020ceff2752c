use Rattle.tl_page.proofs.Whole.{whole}
use Rattle.tl_page.proofs.laws.pages_hold_all_text.Goals as goal

pub returns : goal.returns
returns c = λ style table layout page width height sound fits is.
    (is.0, (whole is.0 style table layout page width height sound fits is.1).holds)
