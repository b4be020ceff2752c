-- Where two lists have the same sections of a table they give it the same steps; so the problem of the table around it is the
-- same on both.
use Rattle.std.proofs.Common.{◌≡◌, ℕ, ◌≤◌, List, [], ◌∷◌, get_or, Contains}
use Rattle.std.specs.List.{AllZip}
use Rattle.std.proofs.lemmas.List.Elements.{All-contains, Contains-get_or}
use Rattle.tl_base.specs.declared.style.Style.{Style}
use Rattle.tl_base.proofs.Members.{Contains-first, Contains-later}
use Rattle.tl_problem.specs.Problem.{ProblemModel}
use Rattle.tl_cert.specs.declared.section.Section.{Section}
use Rattle.tl_table.specs.declared.cell.Table.{Table, out-Table}
use Rattle.tl_table.specs.Tables.{inner_tables}
use Rattle.tl_form.specs.declared.heights.InnerSteps.{InnerSteps}
use Rattle.tl_form.specs.Expected.{Document, IsTableOf}
use Rattle.tl_form.specs.Nested.{AreStepsBy, IsAsWide, IsGreatestLower, IsLeastFound, IsPlacedWithin}
use Rattle.tl_form.specs.Valid.{IsProblemAt}
use Rattle.tl_form.proofs.NeedSteps.{AreStepsOf-same}
use Rattle.tl_solve.specs.declared.outcome.Outcome.{Outcome}
use Rattle.tl_nested.specs.inner.Found.{IsFoundOn}

-- each section of the table with this number in one list is in the other
pub record HaveSame (number : ℕ) (sections others : List Section) : Type 0 where
  pub there : (section : Section) → section.table ≡ number → Contains sections section → Contains others section
  pub back : (section : Section) → section.table ≡ number → Contains others section → Contains sections section

swap : (number : ℕ) (sections others : List Section) → HaveSame number sections others → HaveSame number others sections
swap number sections others same = record { there = same.back; back = same.there }

lower_on : (number w lower : ℕ) (sections others : List Section) → HaveSame number sections others →
    IsGreatestLower sections number w lower → IsGreatestLower others number w lower
lower_on number w lower sections others same is = record {
  attained =
      let at = is.attained in
      let has = same.there at.1 at.4.0.of (at.0, at.2, at.3) in
      (has.0, at.1, has.1, has.2, at.4);
  never_more = λ k d within wide.
      All-contains (λ section. IsAsWide number w section → section.lower ≤ lower) sections (get_or others k d) is.never_more
      (same.back (get_or others k d) wide.of (Contains-get_or others k d within)) wide;
}

found_by : (style : Style) (number w height : ℕ) (sections others : List Section) → HaveSame number sections others →
    IsLeastFound style sections number w height → IsLeastFound style others number w height
found_by style number w height sections others same is = record {
  attained =
      let at = is.attained in
      let has = same.there at.1 at.4.0.of (at.0, at.2, at.3) in
      (has.0, at.1, has.1, has.2, at.4);
  never_less = λ k d within narrow.
      All-contains (λ section. IsPlacedWithin style number w section → height ≤ section.height) sections (get_or others k d)
      is.never_less
      (same.back (get_or others k d) narrow.of (Contains-get_or others k d within)) narrow;
}

steps_on : (style : Style) (page : ℕ) (sections others : List Section) (nested : Table) (steps : InnerSteps) →
    HaveSame (out-Table nested).number sections others → AreStepsBy style page sections nested steps →
    AreStepsBy style page others nested steps
steps_on style page sections others nested steps same by =
    let number = (out-Table nested).number in
    let other = swap number sections others same in record {
      named = by.named;
      least = by.least;
      is_least = by.is_least;
      begins = by.begins;
      low = AreStepsOf-same (λ w lower. (by.least ≤ w) × IsGreatestLower sections number w lower)
          (λ w lower. (by.least ≤ w) × IsGreatestLower others number w lower) page steps.low
          (λ w h within both. (both.0, lower_on number w h sections others same both.1))
          (λ w h within both. (both.0, lower_on number w h others sections other both.1)) by.low;
      high = AreStepsOf-same (λ w height. (by.least ≤ w) × IsLeastFound style sections number w height)
          (λ w height. (by.least ≤ w) × IsLeastFound style others number w height) page steps.high
          (λ w h within both. (both.0, found_by style number w h sections others same both.1))
          (λ w h within both. (both.0, found_by style number w h others sections other both.1)) by.high;
    }

inner_on : (style : Style) (page : ℕ) (sections others : List Section) (tables : List Table) (inner : List InnerSteps) →
    ((nested : Table) → Contains tables nested → HaveSame (out-Table nested).number sections others) →
    AllZip (AreStepsBy style page sections) tables inner → AllZip (AreStepsBy style page others) tables inner
inner_on style page sections others [] [] same all = tt
inner_on style page sections others [] (steps ∷ inner) same all = absurd all
inner_on style page sections others (nested ∷ tables) [] same all = absurd all
inner_on style page sections others (nested ∷ tables) (steps ∷ inner) same all = (
  steps_on style page sections others nested steps (same nested (Contains-first nested tables)) all.0,
  inner_on style page sections others tables inner (λ one has. same one (Contains-later nested tables one has)) all.1,
)

-- the lists have the same sections of the tables nested directly in the one with this number
abbrev pub ShareNested : Document → ℕ → List Section → List Section → Type 0
ShareNested document number sections others = (one nested : Table) → IsTableOf document number one →
    Contains (inner_tables (out-Table one)) nested → HaveSame (out-Table nested).number sections others

pub problem_on : (document : Document) (sections others : List Section) (section : Section) (problem : ProblemModel) →
    ShareNested document section.table sections others → IsProblemAt document sections section problem →
    IsProblemAt document others section problem
problem_on document sections others section problem same own = record {
  one = own.one;
  named = own.named;
  inner = own.inner;
  steps = inner_on document.style section.width sections others (inner_tables (out-Table own.one)) own.inner
      (λ nested has. same own.one nested own.named has) own.steps;
  made = own.made;
  sound = own.sound;
}

pub found_on : (given : ProblemModel → Outcome → Type 0) (document : Document) (budget : ℕ) (sections others : List Section)
    (section : Section) → ShareNested document section.table sections others →
    IsFoundOn given document budget sections section → IsFoundOn given document budget others section
found_on given document budget sections others section same found = record {
  problem = found.problem;
  own = problem_on document sections others section found.problem same found.own;
  outcome = found.outcome;
  solved = found.solved;
  gives = found.gives;
  same = found.same;
}
