-- How what is wrong with a certificate is reported: where its text goes wrong, or which step of judging it is the first that
-- fails.
use Rattle.std.specs.Prelude.{Option, Some, None}
use Rattle.tl_cert.specs.declared.error.CertError.{CertError}
use Rattle.tl_cert.specs.declared.error.CertError.TheVariants as texts
use Rattle.tl_verify.specs.declared.reject.Reject.{Reject}
use Rattle.tl_verify.specs.declared.reject.Reject.TheVariants as steps
use Rattle.tl_lay.specs.declared.rejection.Rejection.{Rejection}
use Rattle.tl_lay.specs.declared.rejection.Rejection.TheVariants as rejections

-- bytes that are no certificate; out of memory is no rejection
abbrev pub text_rejection : CertError → Option Rejection
text_rejection (texts.Memory error) = None
text_rejection (texts.Syntax place) = Some (rejections.Syntax place)
text_rejection (texts.Range place) = Some (rejections.Range place)
text_rejection texts.TooLong = Some rejections.TooLong

-- a certificate that is not valid
abbrev pub step_rejection : Reject → Option Rejection
step_rejection (steps.Memory error) = None
step_rejection steps.Claim = Some rejections.Claim
step_rejection steps.Chain = Some rejections.Chain
step_rejection (steps.Missing table) = Some (rejections.Missing table)
step_rejection (steps.Extra section) = Some (rejections.Extra section)
step_rejection (steps.Layout section) = Some (rejections.Layout section)
step_rejection (steps.Trace section) = Some (rejections.Trace section)
step_rejection (steps.Line section line) = Some (rejections.Line section line)
