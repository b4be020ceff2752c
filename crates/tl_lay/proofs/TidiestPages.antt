-- What `tidy` answers says that no page is lower, and none as low is narrower; or what the budget left open.
use Rattle.std.proofs.Common.{◌≡◌, ◌≢◌, ◌⊎◌, inl, inr, ℕ, ◌+◌, ◌-◌, ◌/◌, ◌<◌, ◌≤◌, List, Option, Some, None}
use Rattle.std.proofs.Common.{refl, sym, subst, ◌∙◌, arith}
use Rattle.std.specs.Prelude.{Bool, if◌then◌else◌, MatchOption}
use Rattle.std.proofs.lemmas.Bool.{cases_order}
use Rattle.std.proofs.lemmas.Bool.Decides.{eqb_tells}
use Rattle.std.proofs.lemmas.Nat.{mul-le}
use Rattle.tl_base.specs.declared.limits.TheConstants.{MAX_REACH}
use Rattle.tl_cert.specs.declared.certificate.Certificate.{Certificate}
use Rattle.tl_problem.specs.Problem.{ProblemModel}
use Rattle.tl_table.specs.declared.cell.Table.{Table}
use Rattle.tl_table.specs.Least.{IsLeastHeight}
use Rattle.tl_table.specs.Spellable.{IsSpellable}
use Rattle.tl_form.specs.ClosedLaws.{BudgetCloses}
use Rattle.tl_form.specs.CountLaws.{AllCountsRise, CountsExist, CountsRise}
use Rattle.tl_form.proofs.NamedSteps.{by_low, by_high}
use Rattle.tl_form.proofs.Truth.{Fits-wider}
use Rattle.tl_form.proofs.ValidLaws.{lowest_is_least}
use Rattle.tl_narrow.specs.declared.slim.Slim.{Slim}
use Rattle.tl_narrow.specs.Slimmest.{IsBelowCounts}
use Rattle.tl_narrow.specs.Slims.{IsHighCertificate, IsKept, IsLess, IsSlim, IsSpentBetween, IsSpentCertificate}
use Rattle.tl_narrow.specs.Slims.{trial_between}
use Rattle.tl_narrow.specs.SlimLaws.{KeptHasSlimmest, MetIsSlimmest, SlimmestIsNoLess}
use Rattle.tl_read.specs.Reading.{breaking_in}
use Rattle.tl_lay.specs.declared.answer.Answer.{Answer}
use Rattle.tl_lay.specs.declared.answer.Evidence.{Evidence}
use Rattle.tl_lay.specs.declared.task.Task.{Task}
use Rattle.tl_lay.specs.declared.tidiest.Ending.{Ending}
use Rattle.tl_lay.specs.declared.tidiest.Ending.TheVariants as endings
use Rattle.tl_lay.specs.Answers.{IsLaidAs, IsTextWanted, bounded_laid, lowest_laid, narrow_laid}
use Rattle.tl_lay.specs.Budgets.{budget_in, reach, searches}
use Rattle.tl_lay.specs.Inputs.{IsTaskInRange}
use Rattle.tl_lay.specs.Laws.{TidiedIsTidiest}
use Rattle.tl_lay.specs.Lowest.{IsPageOf, IsTableIn}
use Rattle.tl_lay.specs.Narrowest.{HasLowPage}
use Rattle.tl_lay.specs.Slimmed.{IsEvidence}
use Rattle.tl_lay.specs.Tidied.{EndsEarly, IsLeftOpen, IsMet, IsOwnProblem, IsTidiedAs, IsTidyEnd, IsTrimmed, chosen, laid_with}
use Rattle.tl_lay.specs.Tidied.{left_open, may_be_narrower, tidy_answer}
use Rattle.tl_lay.specs.Tidiest.{HasLowestOn, IsShown, ShowsUnless, Tidies}
use Rattle.tl_lay.proofs.LowestPages.{fits_none, page_of, says_of}
use Rattle.tl_lay.proofs.NarrowestPages.{below_counts, kept_there, low_page}
use Rattle.tl_lay.proofs.OpenCounts.{differ_or_less, open_below}

-- what is cited of the crates below
pub record TidyLaws : Type 0 where
  pub met : MetIsSlimmest
  pub no_less : SlimmestIsNoLess
  pub has : KeptHasSlimmest
  pub closes : BudgetCloses
  pub counts : CountsExist
  pub rise : CountsRise
  pub rise_all : AllCountsRise

-- ---- numbers

-- what differs, and is no less, is more
apart_less : (least width : ℕ) → least ≤ width → width ≢ least → least < width
apart_less least width order apart = elim (cases_order least width) [
  | inl same ↦ absurd (apart (sym same))
  | inr differ ↦ elim differ [
    | inl less ↦ less
    | inr more ↦ absurd (omega (arith, more, order))
  ]
]

-- the last trial was of a narrower page than the one that is kept
trial_narrower : (most least width : ℕ) → 1 ≤ width → least < width → trial_between most least width ≤ width - 1
trial_narrower most least width some less = elim (eqb_tells width 0) [
  | inl none ↦ absurd (omega (arith, none.1, some))
  | inr other ↦ subst (λ (test : Bool). (if test then most else (least + width - 1) / 2) ≤ width - 1) (sym other.0)
      (omega (arith, less))
]

-- searches of which each may cut so often cut no more often together than the reach allows, and so does one
budget_reached : (task : Task) (table : Table) → reach task table ≤ MAX_REACH → budget_in task table ≤ MAX_REACH
budget_reached task table near = omega (
  arith,
  near,
  mul-le 1 (budget_in task table) (searches table task.width) (budget_in task table) (omega arith) (omega arith),
)

-- ---- the texts

-- what is known of the narrowest page is shown by the texts of its evidence
module _ (task : Task) (table : Table) (height : ℕ) (slim : Slim) (evidence : Evidence)
    (tells : IsSlim table task.style height task.width (budget_in task table) slim)
    (are : IsEvidence task table height slim evidence) where
  -- the text of a certificate that is there
  text_there : (found : Option Certificate) (text : Option (List ℕ)) (certificate : Certificate) → found ≡ Some certificate →
      IsTextWanted task.certified found text → IsTextWanted task.certified (Some certificate) text
  text_there found text certificate same = subst (λ (one : Option Certificate). IsTextWanted task.certified one text) same

  -- and of none
  no_text : (found : Option Certificate) (text : Option (List ℕ)) → found ≡ None → IsTextWanted task.certified found text →
      text ≡ None
  no_text found text same = subst (λ (one : Option Certificate). IsTextWanted task.certified one text) same

  less_shown : (least : ℕ) → slim.least ≡ least →
      ShowsUnless task (least ≡ 1) (IsHighCertificate table task.style height (least - 1) (budget_in task table)) evidence.less
  less_shown least same = by_less slim.less refl tells.between.less where
    by_less : (less : Option Certificate) → slim.less ≡ less →
        MatchOption less (slim.least ≡ 1) (IsLess table task.style height task.width (budget_in task table) slim.least) →
        ShowsUnless task (least ≡ 1) (IsHighCertificate table task.style height (least - 1) (budget_in task table)) evidence.less
    by_less None found first = inl (sym same ∙ first, no_text slim.less evidence.less found are.less)
    by_less (Some certificate) found is = inr (
      λ first. is.some (same ∙ first),
      certificate,
      subst (λ (l : ℕ). IsHighCertificate table task.style height (l - 1) (budget_in task table) certificate) same is.shown,
      text_there slim.less evidence.less certificate found are.less,
    )

  spent_shown : slim.width ≢ 0 → (least : ℕ) → slim.least ≡ least → ShowsUnless task (slim.width ≡ least)
      (IsSpentCertificate table task.style height task.width (trial_between task.width least slim.width) (budget_in task table))
      evidence.spent
  spent_shown some least same = by_spent slim.spent refl tells.spent where
    order : slim.least ≤ slim.width
    order = tells.between.ordered some

    by_spent : (spent : Option Certificate) → slim.spent ≡ spent →
        MatchOption spent ((slim.width ≡ slim.least) ⊎ (slim.least ≡ task.width + 1)) (IsSpentBetween
        table task.style height task.width (budget_in task table) slim.least slim.width) →
        ShowsUnless task (slim.width ≡ least) (IsSpentCertificate table task.style height task.width
        (trial_between task.width least slim.width) (budget_in task table)) evidence.spent
    by_spent None found (inl met) = inl (met ∙ same, no_text slim.spent evidence.spent found are.spent)
    by_spent None found (inr past) =
        let most = tells.between.width_within in absurd (omega (arith, past, most, order))
    by_spent (Some certificate) found is = inr (
      λ met. is.apart (met ∙ sym same),
      certificate,
      subst (λ (l : ℕ). IsSpentCertificate table task.style height task.width (trial_between task.width l slim.width)
          (budget_in task table) certificate) same is.shown,
      text_there slim.spent evidence.spent certificate found are.spent,
    )

  shown_of : (certificate : Certificate) → slim.kept ≡ Some certificate → (least : ℕ) → slim.least ≡ least →
      (shown : IsShown task table height slim.width least evidence) × (shown.kept ≡ certificate)
  shown_of certificate kept least same = (
    record {
      kept = certificate;
      low = is.shown;
      is_text = text_there slim.kept evidence.kept certificate kept are.kept;
      less = less_shown least same;
      spent = spent_shown is.some least same;
    },
    refl,
  ) where
    is : IsKept table task.style height task.width (budget_in task table) slim.width certificate
    is = subst (λ (one : Option Certificate). MatchOption one (slim.width ≡ 0)
        (IsKept table task.style height task.width (budget_in task table) slim.width)) kept tells.between.kept

-- ---- what is said

-- told as by a layout: the height is open, or the page is too narrow
early_says : (task : Task) (bytes : List ℕ) (table : Table) → IsTableIn task bytes table →
    IsSpellable (breaking_in task.source) table → {answer : Answer} → IsLaidAs task table answer → EndsEarly answer →
    Tidies task bytes answer
early_says task bytes table is_in spellable (lowest_laid is) early = absurd early
early_says task bytes table is_in spellable (bounded_laid {height} {lower} {taken} {page} {text} is) early = (
  table,
  is_in,
  page_of task table task.width height taken is.written.layout page is_in.sound spellable is.written.is_page,
  is.between.never_less,
  is.apart,
  λ page from upto. subst (λ (n : ℕ). IsBelowCounts table task.style n (budget_in task table)) (omega (arith, from, upto)) is.below,
  (is.written.certificate, is.written.is_text, is.written.certifies),
)
early_says task bytes table is_in spellable (narrow_laid {least} {text} is) early =
    (table, is_in, refl, fits_none task table least text is)

module _ (laws : TidyLaws) (task : Task) (range : IsTaskInRange task) (bytes : List ℕ) (table : Table)
    (is_in : IsTableIn task bytes table) (spellable : IsSpellable (breaking_in task.source) table)
    (near : reach task table ≤ MAX_REACH) {answer : Answer} (trimmed : IsTrimmed task table answer) where
  -- the height is the least on the page
  least : IsLeastHeight table task.style task.width trimmed.height
  least = lowest_is_least by_low by_high table task.style task.width (budget_in task table) trimmed.first trimmed.height is_in.sound
      trimmed.lowest.valid trimmed.lowest.claimed

  -- the page of the certificate that is kept is as low
  lowest_on : (kept : Certificate) → trimmed.told.kept ≡ Some kept →
      HasLowestOn task table trimmed.told.width trimmed.height trimmed.evidence
  lowest_on kept same_kept = record {
    taken = page.taken;
    page = page.page;
    there = page.there;
    is_page = subst (λ (lines : ℕ). IsPageOf task table trimmed.told.width lines page.taken page.page) same page.is_page;
    lowest = least;
  } where
    page : HasLowPage task table trimmed.height trimmed.told.width trimmed.evidence
    page = low_page task table trimmed.height trimmed.told trimmed.evidence is_in.sound spellable trimmed.is_evidence kept same_kept

    same : page.lines ≡ trimmed.height
    same = omega (
      arith,
      page.low,
      least.least page.lines page.is_page.layout (Fits-wider task.style table trimmed.told.width task.width page.lines
          page.is_page.layout trimmed.tells.between.width_within page.is_page.fits),
    )

  -- what is told of a search: its page, and its texts
  abbrev Told : Slim → Type 0
  Told told = ((kept : Certificate) → told.kept ≡ Some kept →
      HasLowestOn task table told.width trimmed.height trimmed.evidence)
      × ((kept : Certificate) → told.kept ≡ Some kept → (least : ℕ) → told.least ≡ least →
      (shown : IsShown task table trimmed.height told.width least trimmed.evidence) × (shown.kept ≡ kept))

  abbrev Says : Ending → Type 0
  Says ending = Tidies task bytes (tidy_answer ending trimmed.evidence)

  -- the widths do not meet: the width is open
  by_width : trimmed.slim.width ≢ trimmed.slim.least → Told trimmed.slim →
      Says (endings.Wider trimmed.slim.width trimmed.slim.least)
  by_width apart told =
      let kept = kept_there task table trimmed.height (Some trimmed.first) trimmed.slim trimmed.found trimmed.some in
      let ordered = trimmed.found.tells.between.ordered trimmed.some in
      let within = trimmed.found.tells.between.width_within in
      let less : trimmed.slim.least < trimmed.slim.width = apart_less trimmed.slim.least trimmed.slim.width ordered apart in
      let narrowest = laws.has table task.style trimmed.height task.width (budget_in task table) trimmed.slim is_in.sound
      trimmed.found.tells trimmed.some in (
        table,
        trimmed.height,
        is_in,
        told.0 kept.0 kept.1,
        less,
        (
          narrowest.0,
          narrowest.1,
          laws.no_less table task.style trimmed.height task.width (budget_in task table) trimmed.slim is_in.sound
              trimmed.found.tells narrowest.0 narrowest.1,
          narrowest.2,
        ),
        (told.1 kept.0 kept.1 trimmed.slim.least refl).0,
        λ page from upto. below_counts task table trimmed.height (Some trimmed.first) trimmed.slim trimmed.found apart
            (omega (arith, ordered, within)) page
            (let narrower = trial_narrower task.width trimmed.slim.least trimmed.slim.width (omega (arith, less)) less in
            omega (arith, narrower, from)) upto,
      )

  -- the narrowest page was found: the choice is open
  by_choice : (kept : Certificate) (problem : ProblemModel) → IsMet task table trimmed.height trimmed.slim kept problem →
      IsLeftOpen task table trimmed.height problem → Told trimmed.slim → Says endings.Unchosen
  by_choice kept problem met left told =
      let page = told.0 kept met.is_kept in
      let shown = told.1 kept met.is_kept trimmed.slim.width (sym met.same) in
      let own = subst (λ (c : Certificate). IsOwnProblem table task.style c problem) (sym shown.1) met.own in (
        table,
        trimmed.height,
        trimmed.slim.width,
        is_in,
        page,
        laws.met table task.style trimmed.height task.width (budget_in task table) trimmed.slim is_in.sound trimmed.found.tells
            met.same,
        shown.0,
        record { problem = problem; own = own; left = left },
        λ wider from upto. open_below table task.style trimmed.height trimmed.slim.width (budget_in task table) is_in.sound
            shown.0.kept shown.0.low
            (let within = trimmed.found.tells.between.width_within in let narrow = range.narrow in omega (arith, within, narrow))
            laws.closes laws.counts laws.rise laws.rise_all (budget_reached task table near) trimmed.height page.is_page.layout
            page.is_page.fits problem own (differ_or_less task table trimmed.height problem left) wider from,
      )

  by_end : {told : Slim} {ending : Ending} → IsTidyEnd task table trimmed.height trimmed.slim told ending → Told told → Says ending
  by_end (may_be_narrower apart) told = by_width apart told
  by_end (left_open {kept} {problem} met left) told = by_choice kept problem met left told
  by_end (chosen {kept} {problem} {placed} met within) told = (
    table,
    is_in,
    told.0 (laid_with kept placed.widths) refl,
    laws.met table task.style trimmed.height task.width (budget_in task table) trimmed.slim is_in.sound trimmed.found.tells met.same,
    (told.1 (laid_with kept placed.widths) refl trimmed.slim.width (sym met.same)).0,
  )

  trimmed_says : Tidies task bytes answer
  trimmed_says = subst (Tidies task bytes) (sym trimmed.so) (by_end trimmed.ends (
    lowest_on,
    shown_of task table trimmed.height trimmed.told trimmed.evidence trimmed.tells trimmed.is_evidence,
  ))

pub tidied_is_tidiest : TidyLaws → TidiedIsTidiest
tidied_is_tidiest laws task bytes answer range = says_of task (IsTidiedAs task) (Tidies task bytes) bytes answer (λ refusal. tt)
    (λ table is_in spellable near is. elim is [
      | inl trimmed ↦ trimmed_says laws task range bytes table is_in spellable near trimmed
      | inr early ↦ early_says task bytes table is_in spellable early.0 early.1
    ])
