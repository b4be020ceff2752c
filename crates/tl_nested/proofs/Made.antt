-- A section that is due, made of an outcome for its problem, and one more section of a list.
use Rattle.tl_base.specs.declared.spacing.Spacing.{Spacing}
use Rattle.std.proofs.Common.{◌≡◌, ◌∙◌, ℕ, ◌+◌, ◌-◌, ◌*◌, ◌<◌, ◌≤◌, List, [], ◌∷◌, ◌++◌, inl, inr, length, get_or, take, Option, None}
use Rattle.std.proofs.Common.{Some, Result, Ok}
use Rattle.std.proofs.Common.{refl, sym, ap, subst, arith}
use Rattle.std.specs.declared.alloc.AllocError.{AllocError}
use denote.Param.Members.{Shared}
use denote.Ref.{Bor}
use Rattle.std.specs.List.{AllByRecursion}
use Rattle.std.proofs.Math.Seq.{get_or-append_seam}
use Rattle.std.proofs.lemmas.Bool.{cases_lt}
use Rattle.std.proofs.lemmas.List.{get_or_append_left, length_push, take_all, take-append-le}
use Rattle.tl_base.specs.declared.limits.TheConstants.{MAX_FILE_BYTES, MAX_PAGE_WIDTH}
use Rattle.tl_base.specs.declared.style.Style.{Style}
use Rattle.tl_base.specs.Style.{gap_of, edges_of}
use Rattle.tl_problem.specs.declared.placed.Placed.{Placed}
use Rattle.tl_problem.specs.Problem.{ProblemModel}
use Rattle.tl_base.specs.Sizes.{total}
use Rattle.tl_base.proofs.SizeLaws.{total-within}
use Rattle.tl_problem.specs.Sound as problem_sound
use Rattle.tl_cert.specs.declared.section.Section.{Section}
use Rattle.tl_cert.specs.Text.{IsSectionWritable}
use Rattle.tl_table.specs.declared.cell.Table.{Table}
use Rattle.tl_form.specs.declared.subject.Subject.{Subject}
use Rattle.tl_form.specs.DueProblems.{SectionsGiveSoundProblems}
use Rattle.tl_form.specs.Expected.{Document, Due, own_number, placed_width, first_due, next_due, due_after}
use Rattle.tl_form.specs.Named.{IsPlacementAt, IsPlacementOf}
use Rattle.tl_table.specs.Sound.{table_size}
use Rattle.tl_form.specs.Subjects.{IsSubject, meant}
use Rattle.tl_form.specs.Valid.{AreGoodBelow, IsGood, IsProblemAt}
use Rattle.tl_form.proofs.DueLaws.{MayBeDue, due_next, due_from-push}
use Rattle.tl_form.proofs.DueProblems.{good_follows}
use Rattle.tl_solve.specs.declared.outcome.Outcome.{Outcome}
use Rattle.tl_solve.specs.Solver.{IsSolverOutcome}
use Rattle.tl_nested.specs.Searched.{IsWideEnough, AreSectionsOf, AreWritable, EachIsSearched, IsSearched}
use Rattle.tl_nested.specs.Solved.{GivesOutcome, SolvesEach}
use Rattle.tl_nested.specs.inner.Found.{section_of}
use Rattle.tl_nested.specs.inner.SoFar.{AreSoFar, sections_left}
use Rattle.tl_nested.proofs.Counted.{few_enough, left_falls}
use Rattle.tl_nested.proofs.Ready.{by_law, may, narrow, sound_one}
use Rattle.tl_nested.proofs.Written.{written}

module _ (subject : Subject) (is : IsSubject subject) (fits : IsWideEnough subject) (before : List Section) (budget : ℕ)
    (good : AreGoodBelow (meant subject) budget before (length before)) (now : Due)
    (due : due_after (meant subject) before ≡ Some now)
    (outcome : Outcome) (problem : ProblemModel) (at : IsProblemAt (meant subject) before (section_of now outcome) problem)
    (solved : IsSolverOutcome problem budget outcome) where
  abbrev pub good_section : IsGood (meant subject) budget before (section_of now outcome)
  good_section = record {
    due = due;
    problem = problem;
    laid = record { own = at; placed = outcome.best; placement = record { wide = refl; high = refl; tight = solved.tight } };
    traced = solved.worked;
    logged = solved.good;
  }

  pub searched : (given : ProblemModel → Outcome → Type 0) → given problem outcome →
      IsSearched given (meant subject) budget before (section_of now outcome)
  searched given gives = record {
    good = good_section;
    outcome = outcome;
    solved = solved;
    gives = gives;
    same = record { height = refl; lower = refl; widths = refl; trace = refl; log = refl };
  }

  pub placement : IsPlacementAt (meant subject) before (section_of now outcome) outcome.best
  placement = (problem, at, record { wide = refl; high = refl; tight = solved.tight })

  pub placed_as : outcome.best.width ≡ placed_width subject.style (section_of now outcome)
  placed_as =
      solved.tight.placement.width
      ∙ ap (λ (s : Spacing). total s.gap s.edges outcome.best.widths) at.made.spaced

  pub writable : SectionsGiveSoundProblems → IsSectionWritable (section_of now outcome)
  writable law =
      let placement = solved.tight.placement in
      let next = by_law subject is fits before budget good now due at.one at.named law in
      let low = next.low problem outcome.best
      (record { inner = at.inner; steps = at.steps; made = at.made; sound = at.sound }) placement in
      let narrow_page = narrow subject is fits before budget good now due at.one at.named law in
      let one_small = at_size in
      written (section_of now outcome) (record {
        table = omega (arith, (may subject is fits before budget good now due).upto, is.document.numbers, is.sound.few_tables);
        width = narrow_page;
        height = omega (arith, low, one_small);
        lower = omega (arith, low, one_small, solved.ordered);
        some = solved.good.some;
        short = solved.short;
        columns = omega (arith, placement.page.columns, at.sound.few_columns);
        widths = total-within problem.spacing.gap problem.spacing.edges MAX_PAGE_WIDTH outcome.best.widths
            (omega (arith, placement.page.page, at.made.wide, narrow_page));
        trace = solved.trace_writable;
        log = solved.log_writable;
      })
    where
      at_size : table_size at.one ≤ MAX_FILE_BYTES + 1
      at_size = (sound_one subject is fits before budget good now due at.one at.named).size

-- ---- a call

pub solved_by : {F : Type 0} (g : Shared F (Bor ProblemModel × (ℕ × (ℕ × Unit {0}))) (Result Outcome AllocError)) (f : F)
    (p : Bor ProblemModel)
    (table budget : ℕ) (result : Result Outcome AllocError) (outcome : Outcome) → SolvesEach g f budget →
    problem_sound.IsSound p.now → result ≡ Ok outcome →
    g.post f (p, (table, (budget, tt))) result → IsSolverOutcome p.now budget outcome × GivesOutcome g f budget p.now outcome
solved_by g f p table budget result outcome solves sound is post =
    let call = subst (λ r. g.post f (p, (table, (budget, tt))) r) is post in
    (solves p table outcome sound call, record { argument = p; argument_is = refl; table = table; call = call })

-- ---- one more section

push_each : (given : ProblemModel → Outcome → Type 0) (document : Document) (budget : ℕ) (before : List Section)
    (section : Section) →
    EachIsSearched given document budget before → IsSearched given document budget before section →
    EachIsSearched given document budget (before ++ section ∷ [])
push_each given document budget before section each next = λ i d within. elim (cases_lt i (length before)) [
  | inl old ↦
      subst (λ all. IsSearched given document budget all (get_or (before ++ section ∷ []) i d))
      (sym (take-append-le i before (section ∷ []) (omega (arith, old))))
      (subst (IsSearched given document budget (take i before)) (sym (get_or_append_left before (section ∷ []) d i old))
      (each i d old))
  | inr new ↦
      let same : i ≡ length before = omega (arith, new, within, length_push before section) in
      let at : get_or (before ++ section ∷ []) i d ≡ section =
      ap (λ j. get_or (before ++ section ∷ []) j d) same ∙ get_or-append_seam before section [] d in
      let all : take i (before ++ section ∷ []) ≡ before =
      take-append-le i before (section ∷ []) (omega (arith, same)) ∙ take_all i before (omega (arith, same)) in
      subst (λ one. IsSearched given document budget (take i (before ++ section ∷ [])) one) (sym at)
      (subst (λ those. IsSearched given document budget those section) (sym all) next)
]

push_writable : (before : List Section) (section : Section) → AllByRecursion IsSectionWritable before →
    IsSectionWritable section →
    AllByRecursion IsSectionWritable (before ++ section ∷ [])
push_writable [] section each next = (next, tt)
push_writable (one ∷ before) section each next = (each.0, push_writable before section each.1 next)

-- the first that is due, and one more
pub none_so_far : (given : ProblemModel → Outcome → Type 0) (document : Document) (budget : ℕ) (sections : List Section) →
    sections ≡ [] →
    AreSoFar given document budget sections (Some (first_due document document.last))
none_so_far given document budget sections none =
    subst (λ all. AreSoFar given document budget all (Some (first_due document document.last))) (sym none)
    (record {
      each = λ i d within. absurd (omega (arith, within));
      due = refl;
      few = omega arith;
      writable = tt;
    })

pub more_so_far : (given : ProblemModel → Outcome → Type 0) (document : Document) (budget : ℕ) (before more : List Section)
    (now : Due) (section : Section)
    (placed : ℕ) (next : Option Due) → MayBeDue document now → AreSoFar given document budget before (Some now) →
    IsSearched given document budget before section → IsSectionWritable section → placed ≡ placed_width document.style section →
    placed ≤ now.width → more ≡ before ++ section ∷ [] → next ≡ next_due document now.table placed →
    AreSoFar given document budget more next
more_so_far given document budget before more now section placed next may_be so_far searched_one written_one same within push is =
    subst (λ all. AreSoFar given document budget all next) (sym push)
    (subst (AreSoFar given document budget (before ++ section ∷ [])) (sym is) (record {
      each = push_each given document budget before section so_far.each searched_one;
      due = due_from-push document (Some (first_due document document.last)) before section
          ∙ ap (λ due. due_next document due section) so_far.due ∙ ap (next_due document now.table) (sym same);
      few = omega (arith, so_far.few, left_falls document now may_be placed within, length_push before section);
      writable = push_writable before section so_far.writable written_one;
    }))

-- the placement of one more section is that of the last
pub last_placement : (document : Document) (before more : List Section) (section : Section) (placed : Placed) →
    IsPlacementAt document before section placed → more ≡ before ++ section ∷ [] →
    IsPlacementOf document more (length more - 1) placed
last_placement document before more section placed is push =
    subst (λ all. IsPlacementOf document all (length all - 1) placed) (sym push) (λ d.
    let all = before ++ section ∷ [] in
    let n : length all - 1 ≡ length before = omega (arith, length_push before section) in
    let one : get_or all (length all - 1) d ≡ section =
    ap (λ j. get_or all j d) n ∙ get_or-append_seam before section [] d in
    let those : take (length all - 1) all ≡ before =
    take-append-le (length all - 1) before (section ∷ []) (omega (arith, n))
    ∙ take_all (length all - 1) before (omega (arith, n)) in
    subst (λ one. IsPlacementAt document (take (length all - 1) all) one placed) (sym one)
    (subst (λ those. IsPlacementAt document those section placed) (sym those) is))

pub good_so_far : (given : ProblemModel → Outcome → Type 0) (document : Document) (budget : ℕ) (sections : List Section) →
    EachIsSearched given document budget sections → AreGoodBelow document budget sections (length sections)
good_so_far given document budget sections each = λ i d within. (each i d within).good

-- the placement of a good section that is due is within its page
pub within_due : (document : Document) (budget : ℕ) (before : List Section) (section : Section) (now : Due) (placed : ℕ) →
    IsGood document budget before section → due_after document before ≡ Some now →
    placed ≡ placed_width document.style section → placed ≤ now.width
within_due document budget before section now placed good due same =
    let follows = good_follows document budget before section good in
    let both : Some (record { table = section.table; width = section.width }) ≡ Some now = sym good.due ∙ due in
    let width : section.width ≡ now.width = ap (λ o. width_of o) both in
    omega (arith, follows.within, width, same)
  where
    width_of : Option Due → ℕ
    width_of None = 0
    width_of (Some one) = one.width

-- ---- the section that is due, searched and put at the end

module _ (given : ProblemModel → Outcome → Type 0) (subject : Subject) (is : IsSubject subject) (fits : IsWideEnough subject)
    (budget : ℕ) (before : List Section) (now : Due) (so_far : AreSoFar given (meant subject) budget before (Some now)) where
  pub due_may : MayBeDue (meant subject) now
  due_may = may subject is fits before budget (good_so_far given (meant subject) budget before so_far.each) now so_far.due

  module _ (section : Section) (placed : ℕ) (one : IsSearched given (meant subject) budget before section)
      (same : placed ≡ placed_width subject.style section) where
    within : placed ≤ now.width
    within = within_due (meant subject) budget before section now placed one.good so_far.due same

    pub left_after : (next : Option Due) → next ≡ next_due (meant subject) now.table placed →
        sections_left (meant subject) next < sections_left (meant subject) (Some now)
    left_after next next_is = subst (λ o. sections_left (meant subject) o < sections_left (meant subject) (Some now))
        (sym next_is) (left_falls (meant subject) now due_may placed within)

    pub so_far_after : (more : List Section) (next : Option Due) → IsSectionWritable section → more ≡ before ++ section ∷ [] →
        next ≡ next_due (meant subject) now.table placed → AreSoFar given (meant subject) budget more next
    so_far_after more next writable_one push next_is =
        more_so_far given (meant subject) budget before more now section placed next due_may so_far one writable_one same within
        push next_is

-- ---- the end

pub all_so_far : (given : ProblemModel → Outcome → Type 0) (subject : Subject) (budget : ℕ) (sections : List Section)
    (next : Option Due) →
    IsSubject subject → next ≡ None → AreSoFar given (meant subject) budget sections next → AreWritable sections
all_so_far given subject budget sections next is none so_far = record {
  some = nonempty sections (so_far.due ∙ none);
  most = few_enough (length sections) (subject.last - own_number (meant subject)) subject.page
      (omega (arith, is.document.numbers, is.sound.few_tables)) is.narrow
      (subst (λ o. length sections + sections_left (meant subject) o ≤ (subject.last - own_number (meant subject)) *
      (subject.page + 1) + subject.page + 1)
      none so_far.few);
  each = so_far.writable;
} where
  nonempty : (all : List Section) → due_after (meant subject) all ≡ None → 1 ≤ length all
  nonempty [] due = absurd cc
  nonempty (one ∷ all) due = omega arith

-- ---- given in other words

given_more : (given other : ProblemModel → Outcome → Type 0) →
    ((problem : ProblemModel) (outcome : Outcome) → given problem outcome → other problem outcome) →
    (document : Document) (budget : ℕ) (before : List Section) (section : Section) →
    IsSearched given document budget before section →
    IsSearched other document budget before section
given_more given other more document budget before section is = record {
  good = is.good;
  outcome = is.outcome;
  solved = is.solved;
  gives = more is.good.problem is.outcome is.gives;
  same = is.same;
}

pub sections_more : (given other : ProblemModel → Outcome → Type 0) →
    ((problem : ProblemModel) (outcome : Outcome) → given problem outcome → other problem outcome) →
    (table : Table) (style : Style) (page budget : ℕ) (sections : List Section) →
    AreSectionsOf given table style page budget sections →
    AreSectionsOf other table style page budget sections
sections_more given other more table style page budget sections are = record {
  document = are.document;
  of = are.of;
  each = λ i d within. given_more given other more are.document budget (take i sections) (get_or sections i d)
      (are.each i d within);
  none = are.none;
}
