use Rattle.tl_page.proofs.Whole.{whole}
use Rattle.tl_page.proofs.laws.lines_are_as_wide.Goals as goal

pub returns : goal.returns
returns c = λ style table layout page width height sound fits is.
    (whole is.0 style table layout page width height sound fits is.1).wide
