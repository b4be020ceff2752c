-- No public clause cites this file: it says when a table is refused for its reach, and what a text of a certificate is read as.
use Rattle.std.specs.Prelude.{◌≡◌, ℕ, ◌<◌, List, Result, IfOk, IfErr, alloc_error}
use Rattle.tl_base.specs.declared.limits.TheConstants.{MAX_REACH}
use Rattle.tl_base.specs.Returned.{IsMemoryOr, ReturnsOk}
use Rattle.tl_cert.specs.declared.certificate.Certificate.{Certificate}
use Rattle.tl_cert.specs.declared.error.CertError.{CertError}
use Rattle.tl_cert.specs.declared.error.CertError.TheVariants.{Memory}
use Rattle.tl_cert.specs.Faults.{IsTextOf, IsNoText}
use Rattle.tl_table.specs.declared.cell.Table.{Table}
use Rattle.tl_read.specs.declared.refusal.Limit.TheVariants as limits
use Rattle.tl_read.specs.declared.refusal.Refusal.{Refusal}
use Rattle.tl_read.specs.declared.refusal.Refusal.TheVariants as refusals
use Rattle.tl_lay.specs.declared.task.Task.{Task}
use Rattle.tl_lay.specs.Budgets.{reach}

-- the table is refused, for a reach past its limit
pub record IsTooFar (task : Task) (table : Table) (refusal : Refusal) : Type 0 where
  pub far : MAX_REACH < reach task table
  pub told : refusal ≡ refusals.Limit limits.Reach (reach task table)

-- what a text is read as: its certificate, or why it is none, unless memory runs out
pub record IsReadAs (text : List ℕ) (read : Result Certificate CertError) : Type 0 where
  pub ok : IfOk read (IsTextOf text)
  pub each_ok : (certificate : Certificate) → IsTextOf text certificate → ReturnsOk (Memory alloc_error) certificate read
  pub err : IfErr read (IsMemoryOr (Memory alloc_error) (IsNoText text))
