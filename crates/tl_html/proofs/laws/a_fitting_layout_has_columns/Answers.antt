use Rattle.tl_html.proofs.Fitting.{fitting_columns}
use Rattle.tl_html.proofs.laws.a_fitting_layout_has_columns.Goals as goal

pub returns : goal.returns
returns c = fitting_columns
