-- What `narrow` answers says that no page is narrower.
use Rattle.std.proofs.Common.{◌≡◌, ◌≢◌, ◌⊎◌, inl, inr, ℕ, zero, suc, ◌+◌, ◌-◌, ◌/◌, ◌<◌, ◌≤◌, List, Option, Some, None}
use Rattle.std.proofs.Common.{refl, sym, subst, arith}
use Rattle.std.specs.Prelude.{Bool, if◌then◌else◌, nat_le, IfSome, MatchOption}
use Rattle.std.proofs.lemmas.Bool.Decides.{eqb_tells, leb_tells}
use Rattle.tl_cert.specs.declared.certificate.Certificate.{Certificate}
use Rattle.tl_table.specs.declared.cell.Table.{Table}
use Rattle.tl_table.specs.declared.layout.Layout.{out-Layout}
use Rattle.tl_table.specs.Layouts.{total_width}
use Rattle.tl_table.specs.Sound.{IsSound}
use Rattle.tl_table.specs.Spellable.{IsSpellable}
use Rattle.tl_narrow.specs.declared.slim.Slim.{Slim}
use Rattle.tl_narrow.specs.Slimmest.{IsBelowCounts}
use Rattle.tl_narrow.specs.Slims.{IsKept, IsSpentBetween, trial_between}
use Rattle.tl_narrow.specs.SlimLaws.{KeptHasSlimmest, MetIsSlimmest, SlimmestIsNoLess}
use Rattle.tl_read.specs.Reading.{breaking_in}
use Rattle.tl_lay.specs.declared.answer.Answer.{Answer}
use Rattle.tl_lay.specs.declared.answer.Answer.TheVariants as answers
use Rattle.tl_lay.specs.declared.answer.Evidence.{Evidence}
use Rattle.tl_lay.specs.declared.task.Task.{Task}
use Rattle.tl_lay.specs.Budgets.{budget_in}
use Rattle.tl_lay.specs.Laws.{NarrowedIsNarrowest}
use Rattle.tl_lay.specs.Lowest.{IsTableIn}
use Rattle.tl_lay.specs.Narrowest.{HasLowPage, HasWiderPage, Narrows}
use Rattle.tl_lay.specs.Slimmed.{IsEvidence, IsPageOfKept, IsSlimIn, IsSlimmed, found_width, slim_answer}
use Rattle.tl_lay.proofs.LowestPages.{page_of, says_of}

-- ---- the certificates

-- where a page was found there is a certificate of it
pub kept_there : (task : Task) (table : Table) (height : ℕ) (handed : Option Certificate) (slim : Slim) →
    IsSlimIn task table height handed slim → slim.width ≢ 0 →
    (certificate : Certificate) × (slim.kept ≡ Some certificate)
kept_there task table height handed slim is some = by_kept slim.kept refl is.tells.between.kept where
  by_kept : (kept : Option Certificate) → slim.kept ≡ kept →
      MatchOption kept (slim.width ≡ 0) (IsKept table task.style height task.width
      (budget_in task table) slim.width) → (certificate : Certificate) × (slim.kept ≡ Some certificate)
  by_kept None same none = absurd (some none)
  by_kept (Some certificate) same kept = (certificate, same)

-- a width that is kept is within those of pages
half_within : (least width : ℕ) → least ≤ width → (least + width - 1) / 2 ≤ width
half_within least width order = omega (arith, order)

pub last_within : (most : ℕ) (slim : Slim) → slim.width ≤ most → (slim.width ≢ 0 → slim.least ≤ slim.width) →
    trial_between most slim.least slim.width ≤ most
last_within most slim within order = elim (eqb_tells slim.width 0) [
  | inl none ↦ subst (λ (test : Bool). (if test then most else (slim.least + slim.width - 1) / 2) ≤ most)
      (sym none.0) (omega arith)
  | inr some ↦ subst (λ (test : Bool). (if test then most else (slim.least + slim.width - 1) / 2) ≤ most)
      (sym some.0) (omega (arith, within, half_within slim.least slim.width (order some.1)))
]

-- where the search ended early the budget is below the counts of each page from that of the last trial to the widest
pub below_counts : (task : Task) (table : Table) (height : ℕ) (handed : Option Certificate) (slim : Slim) →
    IsSlimIn task table height handed slim → slim.width ≢ slim.least → slim.least ≤ task.width → (page : ℕ) →
    trial_between task.width slim.least slim.width ≤ page → page ≤ task.width →
    IsBelowCounts table task.style page (budget_in task table)
below_counts task table height handed slim is apart few page from upto = by_spent slim.spent is.tells.spent where
  by_spent : (spent : Option Certificate) →
      MatchOption spent ((slim.width ≡ slim.least) ⊎ (slim.least ≡ task.width + 1)) (IsSpentBetween
      table task.style height task.width (budget_in task table) slim.least slim.width) →
      IsBelowCounts table task.style page (budget_in task table)
  by_spent None (inl same) = absurd (apart same)
  by_spent None (inr beyond) = absurd (omega (arith, beyond, few))
  by_spent (Some certificate) spent = spent.shown.below page from upto

-- ---- the page

-- the page of the certificate that was kept is in the evidence
pub low_page : (task : Task) (table : Table) (height : ℕ) (slim : Slim) (evidence : Evidence) → IsSound table →
    IsSpellable (breaking_in task.source) table → IsEvidence task table height slim evidence → (kept : Certificate) →
    slim.kept ≡ Some kept → HasLowPage task table height slim.width evidence
low_page task table height slim evidence sound spellable is kept same = by_kept
    (subst (λ (one : Option Certificate). IsPageOfKept task table height slim.width one evidence.page) same is.drawn) where
      by_kept : IsPageOfKept task table height slim.width (Some kept) evidence.page →
          HasLowPage task table height slim.width evidence
      by_kept (bytes, there, drawn) = record {
        lines = drawn.lines;
        low = drawn.low;
        taken = total_width task.style (out-Layout drawn.layout);
        page = bytes;
        there = there;
        is_page = page_of task table slim.width drawn.lines (total_width task.style (out-Layout drawn.layout)) drawn.layout bytes
            sound spellable (record { fits = drawn.fits; wide = refl; is_page = drawn.is_page });
      }

-- ---- the answer

-- what is answered, by the three cases
pub data IsSlimAnswer (task : Task) (height : ℕ) (slim : Slim) (evidence : Evidence) : Answer → Type 0 where
  met : slim.width ≡ slim.least → IsSlimAnswer task height slim evidence (answers.Slimmest slim.width height evidence)
  between : slim.width ≢ slim.least → slim.least ≤ task.width
      → IsSlimAnswer task height slim evidence (answers.Between (found_width slim.width) slim.least evidence)
  past : slim.width ≢ slim.least → task.width < slim.least
      → IsSlimAnswer task height slim evidence (answers.TooTall height evidence)

-- what is answered where the two widths do not meet
abbrev apart_answer : Task → ℕ → Slim → Evidence → Answer
apart_answer task height slim evidence = if nat_le slim.least task.width
    then answers.Between (found_width slim.width) slim.least evidence else answers.TooTall height evidence

pub is_slim_answer : (task : Task) (height : ℕ) (slim : Slim) (evidence : Evidence) →
    IsSlimAnswer task height slim evidence (slim_answer task height slim evidence)
is_slim_answer task height slim evidence = elim (eqb_tells slim.width slim.least) [
  | inl same ↦ subst (λ (test : Bool). IsSlimAnswer task height slim evidence (if test then answers.Slimmest slim.width height evidence
      else apart_answer task height slim evidence)) (sym same.0) (met same.1)
  | inr apart ↦ subst (λ (test : Bool). IsSlimAnswer task height slim evidence (if test then answers.Slimmest slim.width height evidence
      else apart_answer task height slim evidence)) (sym apart.0) (by_least apart.1)
] where
  by_least : slim.width ≢ slim.least → IsSlimAnswer task height slim evidence (apart_answer task height slim evidence)
  by_least apart = elim (leb_tells slim.least task.width) [
    | inl few ↦ subst (λ (test : Bool). IsSlimAnswer task height slim evidence (if test then answers.Between (found_width slim.width) slim.least evidence
        else answers.TooTall height evidence)) (sym few.0) (between apart few.1)
    | inr more ↦ subst (λ (test : Bool). IsSlimAnswer task height slim evidence (if test then answers.Between (found_width slim.width) slim.least evidence
        else answers.TooTall height evidence)) (sym more.0) (past apart more.1)
  ]

-- ---- what is said

module _ (met_law : MetIsSlimmest) (no_less : SlimmestIsNoLess) (has : KeptHasSlimmest) (task : Task) (height : ℕ)
    (bytes : List ℕ) (table : Table) (is_in : IsTableIn task bytes table) (spellable : IsSpellable (breaking_in task.source) table)
    (slim : Slim) (found : IsSlimIn task table height None slim) (evidence : Evidence)
    (is : IsEvidence task table height slim evidence) where
  low : slim.width ≢ 0 → HasLowPage task table height slim.width evidence
  low some =
      let kept = kept_there task table height None slim found some in
      low_page task table height slim evidence is_in.sound spellable is kept.0 kept.1

  wider : (width : ℕ) → slim.width ≡ width → IfSome (found_width width) (HasWiderPage task table height evidence)
  wider zero same = tt
  wider (suc narrower) same =
      let some : slim.width ≢ 0 = λ none. omega (arith, none, same) in
      let narrowest = has table task.style height task.width (budget_in task table) slim is_in.sound found.tells some in
      subst (HasWiderPage task table height evidence) same
      (record { low = low some; narrowest = narrowest.0; is = narrowest.1; within = narrowest.2 })

  says : {answer : Answer} → IsSlimAnswer task height slim evidence answer → Narrows task height bytes answer
  says (met same) =
      let least = found.tells.between.least_some in (
        refl,
        table,
        is_in,
        low (λ none. omega (arith, none, same, least)),
        met_law table task.style height task.width (budget_in task table) slim is_in.sound found.tells same,
      )
  says (between apart few) = (
    table,
    is_in,
    no_less table task.style height task.width (budget_in task table) slim is_in.sound found.tells,
    wider slim.width refl,
    below_counts task table height None slim found apart few task.width
        (last_within task.width slim found.tells.between.width_within found.tells.between.ordered) (omega arith),
  )
  says (past apart more) = (
    refl,
    table,
    is_in,
    λ width narrowest.
        let least = no_less table task.style height task.width (budget_in task table) slim is_in.sound found.tells width narrowest in
        let within = narrowest.within in
        omega (arith, least, within, more),
  )

pub narrowed_is_narrowest : MetIsSlimmest → SlimmestIsNoLess → KeptHasSlimmest → NarrowedIsNarrowest
narrowed_is_narrowest met_law no_less has task height bytes answer =
    says_of task (IsSlimmed task height) (Narrows task height bytes) bytes answer (λ refusal. tt)
    (λ table is_in spellable near is. subst (Narrows task height bytes) (sym is.so)
    (says met_law no_less has task height bytes table is_in spellable is.slim is.found is.evidence is.is_evidence
    (is_slim_answer task height is.slim is.evidence)))
