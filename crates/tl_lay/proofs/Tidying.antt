-- The parts of `tidy`: the lowest page that is found first, the narrowest that is as low, and the choice on it.
use Rattle.std.proofs.Common.{◌≡◌, ◌≢◌, ◌∙◌, inr, ℕ, ◌<◌, ◌≤◌, List, Option, Some, refl, sym, ap, subst, arith}
use Rattle.std.specs.Prelude.{MatchOption}
use Rattle.tl_base.specs.declared.limits.TheConstants.{MAX_HEIGHT}
use Rattle.tl_problem.specs.declared.placed.Placed.{Placed}
use Rattle.tl_problem.specs.Problem.{ProblemModel}
use Rattle.tl_problem.specs.Spans.{count_of}
use Rattle.tl_problem.proofs.TightLaws.{tight-is_tight}
use Rattle.tl_cert.specs.declared.certificate.Certificate.{Certificate}
use Rattle.tl_cert.specs.declared.certificate.Claim.{Claim}
use Rattle.tl_cert.specs.declared.certificate.Claim.TheVariants as claims
use Rattle.tl_cert.specs.declared.section.Section.{Section}
use Rattle.tl_cert.specs.Text.{IsWritable}
use Rattle.tl_table.specs.declared.cell.Table.{Table}
use Rattle.tl_table.specs.Least.{IsLeastHeight, IsLeastWidth}
use Rattle.tl_form.specs.Valid.{IsValid}
use Rattle.tl_form.specs.ValidLaws.{HasHeight}
use Rattle.tl_form.proofs.NamedSteps.{by_low, by_high}
use Rattle.tl_form.proofs.ValidLaws.{lowest_is_least}
use Rattle.tl_nested.specs.Searched.{AreSectionsOf}
use Rattle.tl_narrow.specs.declared.slim.Slim.{Slim}
use Rattle.tl_narrow.specs.Slimmest.{ClaimsLow}
use Rattle.tl_narrow.specs.Slims.{IsKept, IsLowCertificate, IsSlim}
use Rattle.tl_tidy.specs.declared.choice.Choice.{Choice}
use Rattle.tl_tidy.specs.declared.choice.Choice.TheVariants.{Found, Open}
use Rattle.tl_problem.specs.Agreement.{AgreesOnPage}
use Rattle.tl_tidy.specs.Choices.{IfFound, IfOpen}
use Rattle.tl_tidy.specs.Classes.{IsChosen}
use Rattle.tl_tidy.specs.Needs.{IsNeedAbove, IsNeedWithin}
use Rattle.tl_lay.specs.declared.answer.Answer.{Answer}
use Rattle.tl_lay.specs.declared.tidiest.Ending.TheVariants as endings
use Rattle.tl_lay.specs.declared.task.Task.{Task}
use Rattle.tl_lay.specs.Answers.{IsLaidAs, IsOutcomeOf, bounded_laid, lowest_laid, narrow_laid}
use Rattle.tl_lay.specs.Budgets.{budget_in}
use Rattle.tl_lay.specs.Slimmed.{IsSearchedOn}
use Rattle.tl_lay.specs.Tidied.{EndsEarly, IsLeftOpen, IsTidyEnd, chosen, laid_with, with_kept}
use Rattle.tl_lay.specs.inner.Certified.{IsFound}
use Rattle.tl_lay.specs.Inputs.{IsUsableTable}
use Rattle.tl_lay.specs.inner.Tidying.{AreChosenAmong, HasWidths, laid_kept}
use Rattle.tl_lay.proofs.ChosenLaid.{low_with}
use Rattle.tl_narrow.proofs.Certifying.{claimed_height, valid, writable}

-- ---- the choice

pub found_here : (task : Task) (table : Table) (height budget : ℕ) (problem : ProblemModel) (choice : Choice) (placed : Placed) →
    budget ≡ budget_in task table → choice ≡ Found placed → AgreesOnPage problem → IfFound (IsChosen problem height) choice →
    IfFound (λ one. one.height ≤ height) choice → IfFound (λ one. IsNeedWithin problem height budget) choice →
    HasWidths task table height problem placed.widths
found_here task table height budget problem choice placed cuts is same found low enough = record {
  placed = placed;
  within = record {
    same = same;
    enough = subst (IsNeedWithin problem height) cuts
        (subst (IfFound (λ (one : Placed). IsNeedWithin problem height budget)) is enough);
    chosen = subst (IfFound (IsChosen problem height)) is found;
  };
  low = subst (IfFound (λ (one : Placed). one.height ≤ height)) is low;
  same = refl;
}

pub open_here : (task : Task) (table : Table) (height budget : ℕ) (problem : ProblemModel) (choice : Choice) →
    budget ≡ budget_in task table → choice ≡ Open → IfOpen (IsNeedAbove problem height budget) choice →
    IfOpen (budget < count_of problem) choice → IsLeftOpen task table height problem
open_here task table height budget problem choice cuts is above count = inr (
  subst (IsNeedAbove problem height) cuts (subst (IfOpen (IsNeedAbove problem height budget)) is above),
  subst (λ (b : ℕ). b < count_of problem) cuts (subst (IfOpen (budget < count_of problem)) is count),
)

-- ---- how it ends

module _ (task : Task) (table : Table) (height : ℕ) (slim : Slim) (widths : List ℕ) (told : Slim)
    (are : AreChosenAmong task table height slim (Some widths)) (same : told ≡ laid_kept slim slim.kept widths) where
  told_as : told ≡ with_kept slim (laid_with are.0 are.3.placed.widths)
  told_as = same ∙ ap (λ (kept : Option Certificate). laid_kept slim kept widths) are.2.is_kept
      ∙ ap (λ (ws : List ℕ). with_kept slim (laid_with are.0 ws)) are.3.same

  pub chosen_end : IsTidyEnd task table height slim told (endings.Tidy height slim.width)
  chosen_end = subst (λ (t : Slim). IsTidyEnd task table height slim t (endings.Tidy height slim.width)) (sym told_as)
      (chosen are.2 are.3.within)

  -- the certificate stays one of so low a page
  pub still_slim : (budget : ℕ) → IsUsableTable task table budget → IsLeastHeight table task.style task.width height →
      IsSlim table task.style height task.width budget slim → IsSlim table task.style height task.width budget told
  still_slim budget usable least is = subst (IsSlim table task.style height task.width budget) (sym told_as) (record {
    between = record {
      width_within = is.between.width_within;
      least_some = is.between.least_some;
      least_within = is.between.least_within;
      least_wide = is.between.least_wide;
      ordered = is.between.ordered;
      kept = record { some = kept.some; shown = shown };
      less = is.between.less;
    };
    spent = is.spent;
  }) where
    kept : IsKept table task.style height task.width budget slim.width are.0
    kept = subst (λ (one : Option Certificate). MatchOption one (slim.width ≡ 0) (IsKept table task.style height task.width budget
        slim.width)) are.2.is_kept is.between.kept

    some : (n : ℕ) → n ≢ 0 → 1 ≤ n
    some n apart = omega (arith, apart)

    shown : IsLowCertificate table task.style height slim.width budget (laid_with are.0 are.3.placed.widths)
    shown = low_with table task.style height slim.width budget usable.sound are.0 kept.shown are.1 are.2.own are.3.placed
        (tight-is_tight are.1 are.3.within.chosen.widths are.3.placed are.3.within.chosen.tight) task.width least
        is.between.width_within are.3.low (some slim.width kept.some)
        (let most = is.between.width_within in let narrow = usable.range.narrow in omega (arith, most, narrow)) usable.cuts

-- ---- the lowest page

module _ (task : Task) (table : Table) (budget : ℕ) (certificate : Certificate) (height : ℕ)
    (usable : IsUsableTable task table budget) (wide : (least : ℕ) → IsLeastWidth table task.style least → least ≤ task.width)
    (found : IsFound task table budget certificate) (claim : certificate.claim ≡ claims.Lowest height) where
  pub first_valid : IsValid table task.style task.width budget certificate
  first_valid = subst (IsValid table task.style task.width budget) (sym found.made)
      (valid (IsOutcomeOf task.search task.workers budget) table task.style task.width budget found.sections found.expected found.writable wide)

  pub first_low : IsLowCertificate table task.style height task.width budget certificate
  first_low = record {
    valid = first_valid;
    low = subst (ClaimsLow height) (sym claim) (omega arith);
    writable = subst IsWritable (sym found.made)
        (writable (IsOutcomeOf task.search task.workers budget) table task.style task.width budget found.sections found.expected found.writable
        wide usable.range.some usable.range.narrow usable.cuts);
  }

  pub first_small : height ≤ MAX_HEIGHT
  first_small =
      let high = claimed_height (IsOutcomeOf task.search task.workers budget) table task.style task.width budget found.sections found.expected
      found.writable wide in
      let same : height ≡ high.0 = subst (λ (one : Claim). HasHeight one high.0)
      (sym (ap (λ (made : Certificate). made.claim) found.made) ∙ claim) high.2 in
      omega (arith, same, high.1)

  pub first_least : IsLeastHeight table task.style task.width height
  first_least = lowest_is_least by_low by_high table task.style task.width budget certificate height usable.sound first_valid claim

-- it has the sections of the search that is named
pub first_searched : (task : Task) (table : Table) (budget : ℕ) (certificate : Certificate) → IsUsableTable task table budget →
    IsFound task table budget certificate → IsSearchedOn task table task.width certificate
first_searched task table budget certificate usable found =
    subst (λ (sections : List Section). AreSectionsOf (IsOutcomeOf task.search task.workers (budget_in task table)) table task.style task.width
    (budget_in task table) sections) (sym (ap (λ (made : Certificate). made.sections) found.made))
    (subst (λ (b : ℕ). AreSectionsOf (IsOutcomeOf task.search task.workers b) table task.style task.width b found.sections) usable.of_task
    found.expected)

-- ---- what ends early

-- a page that is too narrow is told as such
pub narrow_early : (task : Task) (table : Table) (answer : Answer) (least : ℕ) → IsLeastWidth table task.style least →
    task.width < least → IsLaidAs task table answer → EndsEarly answer
narrow_early task table _ least is narrow (lowest_laid laid) =
    let fits = laid.least.attained in
    absurd (omega (arith, is.least task.width _ fits.0 fits.1, narrow))
narrow_early task table _ least is narrow (bounded_laid laid) = tt
narrow_early task table _ least is narrow (narrow_laid laid) = tt
