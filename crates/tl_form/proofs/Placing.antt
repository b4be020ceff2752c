-- A section has one problem, on what the sections before it tell of nested tables, and one placement on it.
use Rattle.std.proofs.Common.{◌≡◌, ◌∙◌, ℕ, List, MatchOption, Option, Some, None, sym, subst}
use Rattle.tl_base.specs.declared.style.Style.{Style}
use Rattle.tl_problem.specs.declared.placed.Placed.{Placed}
use Rattle.tl_problem.specs.Problem.{ProblemModel}
use Rattle.tl_problem.specs.Tight.{IsTightFrom}
use Rattle.tl_problem.proofs.TightLaws.{tight-unique, tight-is_tight}
use Rattle.tl_cert.specs.declared.section.Section.{Section}
use Rattle.tl_table.specs.declared.cell.Table.{Table, out-Table}
use Rattle.tl_form.specs.declared.heights.InnerSteps.{InnerSteps}
use Rattle.tl_form.specs.Problems.{InnerNeeds, IsProblemOf}
use Rattle.tl_table.specs.Tables.{inner_tables}
use Rattle.tl_form.proofs.OneProblem.{one_inner}
use Rattle.tl_form.proofs.ProblemTruth.{same-problem}
use Rattle.tl_form.specs.Expected.{Document, IsTableOf}
use Rattle.tl_form.specs.Nested.{AreInnerSteps, IsProblemFor}
use Rattle.tl_table.specs.Sound.{IsSound}
use Rattle.tl_form.specs.Valid.{IsProblemAt, HasPlacement, IsLaid}
use Rattle.tl_table.proofs.TableNumbers.{one_of_number}

-- what the section's widths are made, once tight, is the section's placement
pub same_placed : (problem : ProblemModel) (section : Section) (widths : List ℕ) (tight placed : Placed) →
    widths ≡ section.widths →
    IsTightFrom problem widths tight → HasPlacement section problem placed → tight ≡ placed
same_placed problem section widths tight placed wide made has =
    tight-unique problem placed.widths tight placed (subst (λ ws. IsTightFrom problem ws tight) (wide ∙ sym has.wide) made)
    has.tight

-- what the section's widths are made, once tight, is the section's placement, where it has those widths and the section's
-- height
pub is_placed : (problem : ProblemModel) (section : Section) (widths : List ℕ) (tight : Placed) →
    IsTightFrom problem widths tight →
    tight.widths ≡ section.widths → tight.height ≡ section.height → HasPlacement section problem tight
is_placed problem section widths tight made wide high = record {
  wide = wide;
  high = high;
  tight =
      tight-is_tight problem widths tight made;
}

-- a table has one problem with the same steps
pub one_problem_of : (table : Table) (style : Style) (width : ℕ) (inner : List InnerSteps) (one other : ProblemModel) →
    IsProblemOf table style width inner one → IsProblemOf table style width inner other → one ≡ other
one_problem_of table style width inner one other is are =
    same-problem (InnerNeeds (λ each. each.low) inner) (InnerNeeds (λ each. each.high) inner) style width (out-Table table)
    one other is are

-- the sections before tell of one problem
pub one_for : (table : Table) (style : Style) (width : ℕ) (before : List Section) (one other : ProblemModel) →
    IsProblemFor table style width before one → IsProblemFor table style width before other → one ≡ other
one_for table style width before one other is are =
    one_problem_of table style width is.inner one other is.made
    (subst (λ inner. IsProblemOf table style width inner other)
    (one_inner style width before (inner_tables (out-Table table)) are.inner is.inner are.steps is.steps) are.made)

-- what a call found, by whether it found something
pub found_none : {X : Type 0} (o : Option X) (P : Type 0) (Q : X → Type 0) → o ≡ None → MatchOption o P Q → P
found_none o P Q is found = subst (λ one. MatchOption one P Q) is found

pub found_some : {X : Type 0} (o : Option X) (x : X) (P : Type 0) (Q : X → Type 0) → o ≡ Some x → MatchOption o P Q → Q x
found_some o x P Q is found = subst (λ one. MatchOption one P Q) is found

-- ---- the problem of a section, and its placement

module _ (document : Document) (sound : IsSound document.table) (before : List Section) (section : Section) (one : Table)
    (named : IsTableOf document section.table one) where
  pub laid_at : (problem : ProblemModel) (placed : Placed) → IsProblemFor one document.style section.width before problem →
      HasPlacement section problem placed → IsLaid document before section problem
  laid_at problem placed of has = record {
    own = record { one = one; named = named; inner = of.inner; steps = of.steps; made = of.made; sound = of.sound };
    placed = placed;
    placement = has;
  }

  pub for_one : (problem : ProblemModel) → IsProblemAt document before section problem →
      IsProblemFor one document.style section.width before problem
  for_one problem own =
      let same = one_of_number document.table own.one one sound own.named.among named.among
      (own.named.numbered ∙ sym named.numbered) in record {
        inner = own.inner;
        steps = subst (λ t. AreInnerSteps t document.style section.width before own.inner) same own.steps;
        made = subst (λ t. IsProblemOf t document.style section.width own.inner problem) same own.made;
        sound = own.sound;
      }

  pub unlaid : ((problem : ProblemModel) (placed : Placed) → IsProblemFor one document.style section.width before problem →
      HasPlacement section problem placed → ⊥) → (problem : ProblemModel) → IsLaid document before section problem → ⊥
  unlaid none problem laid = none problem laid.placed (for_one problem laid.own) laid.placement
