use Rattle.tl_form.proofs.SameDocuments.{same_valid}
use Rattle.tl_form.proofs.valid_laws.same_tables_share_certificates.Goals as goal

pub returns : goal.returns
returns c = same_valid
