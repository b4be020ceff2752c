-- The section that is due has a problem, by the law of good sections.
use Rattle.std.proofs.Common.{◌≡◌, ◌∙◌, ℕ, ◌≤◌, List, inl, length, Some, IsSome, Option, None, MatchOption, refl, sym, subst}
use Rattle.std.proofs.Common.{arith}
use Rattle.tl_base.specs.declared.limits.TheConstants.{MAX_PAGE_WIDTH}
use Rattle.tl_base.specs.declared.style.Style.{Style}
use Rattle.tl_problem.specs.Problem.{ProblemModel}
use Rattle.tl_cert.specs.declared.section.Section.{Section}
use Rattle.tl_table.specs.declared.cell.Table.{Table}
use Rattle.tl_form.specs.declared.subject.Subject.{Subject}
use Rattle.tl_form.specs.ClosedLaws.{IsWideDocument}
use Rattle.tl_form.specs.DueProblems.{GivesSoundProblem, SectionsGiveSoundProblems}
use Rattle.tl_form.specs.Expected.{Due, IsDocumentOf, IsTableOf, own_number, least_of, due_after}
use Rattle.tl_table.specs.Least.{IsLeastWidth}
use Rattle.tl_table.specs.Numbered.{AreByNumber}
use Rattle.tl_form.specs.Nested.{AreInnerSteps, IsProblemFor}
use Rattle.tl_form.specs.Problems.{IsProblemOf}
use Rattle.tl_table.specs.Sound.{IsSound}
use Rattle.tl_form.specs.Subjects.{IsSubject, meant}
use Rattle.tl_form.specs.Valid.{AreGoodBelow, IsProblemAt}
use Rattle.tl_form.proofs.DueLaws.{MayBeDue, may_be_due}
use Rattle.tl_table.proofs.LinkLemmas.{IsLeastWidth-unique}
use Rattle.tl_table.proofs.TableNumbers.{sound_among}
use Rattle.tl_nested.specs.Searched.{IsWideEnough}

-- ---- a subject whose page is wide enough is the document of a table on a page that a layout of it fits

pub wide_page : (subject : Subject) → IsSubject subject → IsWideEnough subject →
    IsWideDocument subject.table.now subject.style subject.page (meant subject)
wide_page subject is fits = record {
  sound = is.sound;
  of = is.document;
  narrow = is.narrow;
  wide = λ least is_least. omega (
    arith,
    fits,
    IsLeastWidth-unique subject.table.now subject.style least (least_of (meant subject) (own_number (meant subject))) is_least
        (is.document.least subject.table.now (inl refl)),
  );
}

-- a subject that was made of a table
pub subject_of : (table : Table) (style : Style) (page : ℕ) (subject : Subject) → IsSound table → page ≤ MAX_PAGE_WIDTH →
    IsDocumentOf table style page (meant subject) → AreByNumber subject.table.now subject.tables.items → IsSubject subject
subject_of table style page subject sound narrow of tables = record {
  sound = subst IsSound (sym of.same) sound;
  narrow = omega (arith, of.wide, narrow);
  document = record { same = refl; drawn = refl; wide = refl; numbers = of.numbers; each = of.each; least = of.least };
  tables = tables;
}

pub fits_of : (table : Table) (style : Style) (page : ℕ) (subject : Subject) → IsDocumentOf table style page (meant subject) →
    ((least : ℕ) → IsLeastWidth table style least → least ≤ page) → IsWideEnough subject
fits_of table style page subject of wide =
    let own = of.least subject.table.now (inl refl) in
    let least = subst (λ t. IsLeastWidth t style (least_of (meant subject) (own_number (meant subject)))) of.same
    (subst (λ s. IsLeastWidth subject.table.now s (least_of (meant subject) (own_number (meant subject)))) of.drawn own) in
    omega (arith, wide (least_of (meant subject) (own_number (meant subject))) least, of.wide)

-- ---- the table that is due

module _ (subject : Subject) (is : IsSubject subject) (fits : IsWideEnough subject) (before : List Section) (budget : ℕ)
    (good : AreGoodBelow (meant subject) budget before (length before)) (now : Due)
    (due : due_after (meant subject) before ≡ Some now) where
  pub may : MayBeDue (meant subject) now
  may = may_be_due (meant subject) before now (omega (arith, is.document.numbers)) due

  module _ (one : Table) (named : IsTableOf (meant subject) now.table one) where
    pub sound_one : IsSound one
    sound_one = sound_among subject.table.now one is.sound named.among

    -- the problem is that of each section that is due
    pub problem_due : (problem : ProblemModel) → IsProblemFor one subject.style now.width before problem →
        (section : Section) → section.table ≡ now.table → section.width ≡ now.width →
        IsProblemAt (meant subject) before section problem
    problem_due problem own section table width = record {
      one = one;
      named = record { among = named.among; numbered = named.numbered ∙ sym table };
      inner = own.inner;
      steps = subst (λ w. AreInnerSteps one subject.style w before own.inner) (sym width) own.steps;
      made = subst (λ w. IsProblemOf one subject.style w own.inner problem) (sym width) own.made;
      sound = own.sound;
    }

    module _ (law : SectionsGiveSoundProblems) where
      -- what the sections before give the one that is due
      pub by_law : GivesSoundProblem (meant subject) before now one
      by_law = law (meant subject) budget before now one
          (record { wide = wide_page subject is fits; good = good; due = due; named = named })

      pub narrow : now.width ≤ MAX_PAGE_WIDTH
      narrow = omega (arith, by_law.within, is.narrow)

      pub some : {X : Type 0} (found : Option X) (P : X → Type 0) → MatchOption found ((problem : ProblemModel) →
          IsProblemFor one subject.style now.width before problem → ⊥) P → IsSome found
      some None P none = absurd (none by_law.some.0 by_law.some.1)
      some (Some x) P has = refl
