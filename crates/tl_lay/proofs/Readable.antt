-- The certificates of a table whose searches are within the reach are short enough to be read back.
use Rattle.std.proofs.Common.{◌≡◌, ◌⊎◌, ℕ, ◌+◌, ◌-◌, ◌*◌, ◌/◌, ◌≤◌, Bool, true, false, Option, Some, None, MatchOption, IfSome}
use Rattle.std.proofs.Common.{if◌then◌else◌, ◌==◌, refl, subst, sym, ap, arith}
use Rattle.tl_base.specs.declared.limits.TheConstants.{MAX_REACH}
use Rattle.tl_problem.specs.Problem.{ProblemModel}
use Rattle.tl_problem.proofs.AreaLaws.{times_le}
use Rattle.tl_cert.specs.declared.certificate.Certificate.{Certificate}
use Rattle.tl_cert.specs.Text.{IsWritable}
use Rattle.tl_table.specs.declared.cell.Table.{Table}
use Rattle.tl_table.specs.Least.{IsLeastWidth}
use Rattle.tl_table.specs.Sound.{nested_in_table}
use Rattle.tl_form.specs.Valid.{IsValid}
use Rattle.tl_form.proofs.ShortTexts.{short}
use Rattle.tl_narrow.specs.Certified.{certificate_of}
use Rattle.tl_narrow.specs.declared.slim.Slim.{Slim}
use Rattle.tl_narrow.specs.Slims.{IsKept, IsLess, IsSlim, IsSpentBetween, trial_between}
use Rattle.tl_narrow.proofs.Certifying.{valid, writable}
use Rattle.tl_solve.specs.declared.outcome.Outcome.{Outcome}
use Rattle.tl_lay.specs.declared.task.Task.{Task}
use Rattle.tl_lay.specs.Answers.{IsOutcomeOf, IsReadable, IsReadBack}
use Rattle.tl_lay.specs.Budgets.{searches}
use Rattle.tl_lay.specs.inner.Certified.{IsFound}
use Rattle.tl_lay.specs.Inputs.{IsUsableTable}

-- what is asked for is read back
pub read_back : (asked : Bool) (certificate : Certificate) → IsReadable certificate → IsReadBack asked certificate
read_back true certificate is = is
read_back false certificate is = tt

-- a page that is tried is no wider than the widest
trial_within : (most least width : ℕ) → least ≤ most → width ≤ most → trial_between most least width ≤ most
trial_within most least width below within = by_test (width == 0)
  where
    by_test : (none : Bool) → (if none then most else (least + width - 1) / 2) ≤ most
    by_test true = omega arith
    by_test false = omega (arith, below, within)

of_some : (A : Type 0) (B : Certificate → Type 0) (found : Option Certificate) → MatchOption found A B →
    ((certificate : Certificate) → B certificate → IsReadable certificate) → IfSome found IsReadable
of_some A B None is each = tt
of_some A B (Some certificate) is each = each certificate is

module _ (task : Task) (table : Table) (budget : ℕ) (usable : IsUsableTable task table budget) where
  -- on a page that is no wider the searches make no more cuts
  less : (width : ℕ) → width ≤ task.width → (1 + nested_in_table table * width) * budget ≤ MAX_REACH
  less width narrow =
      let fewer = times_le width task.width (nested_in_table table) narrow in
      let all = times_le (1 + nested_in_table table * width) (searches table task.width) budget (omega (arith, fewer)) in
      let same = ap (λ (cuts : ℕ). searches table task.width * cuts) usable.of_task in
      omega (arith, all, same, usable.within)

  pub readable : (width : ℕ) (certificate : Certificate) → width ≤ task.width →
      IsValid table task.style width budget certificate → IsWritable certificate → IsReadable certificate
  readable width certificate narrow is_valid written = record {
    short = short table task.style width budget certificate usable.sound (less width narrow) is_valid written;
    writable = written;
    text = refl;
  }

  -- the certificate of a search
  pub found_readable : ((least : ℕ) → IsLeastWidth table task.style least → least ≤ task.width) → (certificate : Certificate) →
      IsFound task table budget certificate → IsReadable certificate
  found_readable wide certificate found = subst IsReadable (sym found.made)
      (readable task.width (certificate_of task.width task.style budget found.sections) (omega arith)
      (valid given table task.style task.width budget found.sections found.expected found.writable wide)
      (writable given table task.style task.width budget found.sections found.expected found.writable wide
      usable.range.some usable.range.narrow usable.cuts))
    where
      given : ProblemModel → Outcome → Type 0
      given = IsOutcomeOf task.search task.workers budget

  module _ (height : ℕ) (slim : Slim) (is : IsSlim table task.style height task.width budget slim) where
    pub kept_readable : IfSome slim.kept IsReadable
    kept_readable = of_some (slim.width ≡ 0) (IsKept table task.style height task.width budget slim.width) slim.kept is.between.kept (λ one kept.
        readable slim.width one is.between.width_within kept.shown.valid kept.shown.writable)

    pub less_readable : IfSome slim.less IsReadable
    less_readable = of_some (slim.least ≡ 1) (IsLess table task.style height task.width budget slim.least) slim.less is.between.less (λ one less.
        readable (slim.least - 1) one (omega (arith, is.between.least_within)) less.shown.valid less.shown.writable)

    pub spent_readable : IfSome slim.spent IsReadable
    spent_readable = of_some ((slim.width ≡ slim.least) ⊎ (slim.least ≡ task.width + 1))
        (IsSpentBetween table task.style height task.width budget slim.least slim.width) slim.spent is.spent (λ one spent.
        readable (trial_between task.width slim.least slim.width) one
        (trial_within task.width slim.least slim.width spent.within is.between.width_within)
        spent.shown.valid spent.shown.writable)
