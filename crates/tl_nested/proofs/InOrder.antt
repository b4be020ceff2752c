-- Sections that were found on all of them, put in the order of a certificate: each is good on those before it.
use Rattle.tl_base.specs.declared.spacing.Spacing.{Spacing}
use Rattle.std.proofs.Common.{◌≡◌, ◌∙◌, ℕ, zero, suc, ◌+◌, ◌-◌, ◌<◌, ◌≤◌, List, [], ◌∷◌, inl, inr, length, get_or}
use Rattle.std.proofs.Common.{take}
use Rattle.std.proofs.Common.{Some, Contains, refl, sym, ap, subst, arith}
use Rattle.std.specs.List.{All}
use Rattle.std.proofs.lemmas.Bool.{cases_lt}
use Rattle.std.proofs.lemmas.List.{get_or_default, take_all}
use Rattle.tl_base.specs.Style.{gap_of, edges_of}
use Rattle.tl_base.specs.Sizes.{total}
use Rattle.tl_base.proofs.Taken.{taken_more}
use Rattle.tl_problem.specs.Problem.{ProblemModel}
use Rattle.tl_cert.specs.declared.section.Section.{Section}
use Rattle.tl_table.specs.declared.cell.Table.{Table}
use Rattle.tl_table.proofs.TableNumbers.{inside_greater, sound_among}
use Rattle.tl_form.specs.declared.subject.Subject.{Subject}
use Rattle.tl_form.specs.DueProblems.{SectionsGiveSoundProblems}
use Rattle.tl_form.specs.Expected.{Document, Due, IsDue, IsTableOf, due_after, next_due, own_number, placed_width}
use Rattle.tl_form.specs.Expected.{AreDueInOrder}
use Rattle.tl_form.specs.Subjects.{IsSubject, meant}
use Rattle.tl_form.specs.Valid.{IsProblemAt}
use Rattle.tl_cert.specs.Text.{IsSectionWritable}
use Rattle.tl_form.proofs.DueLaws.{due_after-more, due_next, may_be_due, next_may}
use Rattle.tl_solve.specs.declared.outcome.Outcome.{Outcome}
use Rattle.tl_solve.specs.Solver.{IsSolverOutcome}
use Rattle.tl_form.specs.Nested.{IsProblemFor}
use Rattle.tl_nested.specs.Searched.{IsSearched, IsWideEnough}
use Rattle.tl_nested.specs.inner.Found.{IsBegun, IsFoundFor, IsFoundOn, HasNarrowWidths, section_of}
use Rattle.tl_nested.specs.inner.SoFar.{AreSoFar}
use Rattle.tl_nested.proofs.Made.{good_so_far, more_so_far, none_so_far, searched, within_due, writable}
use Rattle.tl_nested.proofs.Ready.{may}
use Rattle.tl_nested.proofs.SameSteps.{ShareNested, problem_on}

-- what is due next is of no greater number
next_lower : (document : Document) (number placed : ℕ) (next : Due) → own_number document ≤ number →
    next_due document number placed ≡ Some next → next.table ≤ number
next_lower document number placed next from is =
    (next_may (record {
      table = document.table;
      style = document.style;
      page = document.page;
      last = number;
      least = document.least;
    }) number placed next from (omega arith) is).upto

-- what an element of the first `n` is
take_contains : {X : Type 0} (n : ℕ) (xs : List X) (x : X) → Contains (take n xs) x → Contains xs x
take_contains zero xs x has = absurd (omega (arith, has.1))
take_contains (suc n) [] x has = has
take_contains (suc n) (y ∷ xs) x (zero, within, is) = (0, omega arith, is)
take_contains (suc n) (y ∷ xs) x (suc k, within, is) =
    let rest = take_contains n xs x (k, omega (arith, within), is) in (suc rest.0, omega (arith, rest.1), rest.2)

contains_take : {X : Type 0} (n : ℕ) (xs : List X) (x : X) (j : ℕ) → j < n → j < length xs → get_or xs j x ≡ x →
    Contains (take n xs) x
contains_take zero xs x j less within is = absurd (omega (arith, less))
contains_take (suc n) [] x j less within is = absurd (omega (arith, within))
contains_take (suc n) (y ∷ xs) x zero less within is = (0, omega arith, is)
contains_take (suc n) (y ∷ xs) x (suc j) less within is =
    let rest = contains_take n xs x j (omega (arith, less)) (omega (arith, within)) is in
    (suc rest.0, omega (arith, rest.1), rest.2)

module _ (subject : Subject) (is : IsSubject subject) (fits : IsWideEnough subject) (sections : List Section)
    (order : AreDueInOrder (meant subject) sections (length sections)) where
  abbrev document : Document
  document = meant subject

  no_section : Section
  no_section = record { table = 0; width = 0; height = 0; lower = 0; widths = []; trace = []; log = [] }

  some : own_number document ≤ document.last
  some = omega (arith, is.document.numbers)

  -- the numbers of the tables fall
  step_lower : (j : ℕ) → j + 1 < length sections →
      (get_or sections (j + 1) no_section).table ≤ (get_or sections j no_section).table
  step_lower j within =
      let here = order j no_section (omega (arith, within)) in
      let next = order (j + 1) no_section within in
      let after = due_after-more document sections j no_section (omega (arith, within)) in
      next_lower document (get_or sections j no_section).table
      (placed_width document.style (get_or sections j no_section))
      (record { table = (get_or sections (j + 1) no_section).table; width = (get_or sections (j + 1) no_section).width })
      (may_be_due document (take j sections) (record {
        table = (get_or sections j no_section).table;
        width = (get_or sections j no_section).width;
      }) some here).from
      (ap (λ due. due_next document due (get_or sections j no_section)) (sym here) ∙ sym after ∙ next)

  falls : (n k : ℕ) → n + k < length sections →
      (get_or sections (n + k) no_section).table ≤ (get_or sections n no_section).table
  falls n zero within = subst (λ m. (get_or sections m no_section).table ≤ (get_or sections n no_section).table)
      (same n) (omega arith)
    where
      same : (m : ℕ) → m ≡ m + zero
      same m = omega arith
  falls n (suc k) within =
      let before = falls n k (omega (arith, within)) in
      let step = step_lower (n + k) (omega (arith, within)) in
      let same : n + k + 1 ≡ n + suc k = omega arith in
      subst (λ m. (get_or sections m no_section).table ≤ (get_or sections n no_section).table) same
      (omega (arith, before, step))

  -- all sections of the tables nested in that of a section stand before it
  share_before : (n : ℕ) → n < length sections →
      ShareNested document (get_or sections n no_section).table sections (take n sections)
  share_before n here one nested named has = record {
    there = λ section of stands. elim (cases_lt stands.0 n) [
      | inl less ↦ contains_take n sections section stands.0 less stands.1 stands.2
      | inr more ↦
          let at : get_or sections stands.0 no_section ≡ section =
          get_or_default sections stands.0 no_section section stands.1 ∙ stands.2 in
          let split : n + (stands.0 - n) ≡ stands.0 = omega (arith, more) in
          let lower = subst (λ m. (get_or sections m no_section).table ≤ (get_or sections n no_section).table) split
          (falls n (stands.0 - n) (omega (arith, split, stands.1))) in
          let past = inside_greater one nested 1 (sound_among subject.table.now one is.sound named.among)
          (nested, has, inl refl) in
          absurd (omega (arith, lower, past, named.numbered, of, ap (λ (s : Section). s.table) at))
    ];
    back = λ section of stands. take_contains n sections section stands;
  }

  module _ (law : SectionsGiveSoundProblems) (given : ProblemModel → Outcome → Type 0) (budget : ℕ)
      (found : All (IsFoundOn given document budget sections) sections) where
    -- one more section
    one_more : (n : ℕ) (section : Section) → n < length sections → section ≡ get_or sections n no_section →
        AreSoFar given document budget (take n sections) (due_after document (take n sections)) →
        AreSoFar given document budget (take (n + 1) sections) (due_after document (take (n + 1) sections))
    one_more n section within at so_far =
        let now : Due = record { table = section.table; width = section.width } in
        let due : due_after document (take n sections) ≡ Some now =
        subst (λ (s : Section). IsDue document (take n sections) s) (sym at) (order n no_section within) in
        let before = subst (AreSoFar given document budget (take n sections)) due so_far in
        let good = good_so_far given document budget (take n sections) before.each in
        let here : IsFoundOn given document budget sections section =
        subst (IsFoundOn given document budget sections) (sym at) (found n no_section within) in
        let same : section_of now here.outcome ≡ section = λ i. record {
          table = section.table;
          width = section.width;
          height = sym here.same.height i;
          lower = sym here.same.lower i;
          widths = sym here.same.widths i;
          trace = sym here.same.trace i;
          log = sym here.same.log i;
        } in
        let shares : ShareNested document section.table sections (take n sections) =
        subst (λ (s : Section). ShareNested document s.table sections (take n sections)) (sym at) (share_before n within) in
        let own = problem_on document sections (take n sections) section here.problem shares here.own in
        let problem = subst (λ s. IsProblemAt document (take n sections) s here.problem) (sym same) own in
        let one : IsSearched given document budget (take n sections) section =
        subst (IsSearched given document budget (take n sections)) same
        (searched subject is fits (take n sections) budget good now due here.outcome here.problem problem here.solved given
        here.gives) in
        let text = subst IsSectionWritable same
        (writable subject is fits (take n sections) budget good now due here.outcome here.problem problem here.solved law) in
        more_so_far given document budget (take n sections) (take (n + 1) sections) now section
        (placed_width document.style section)
        (due_after document (take (n + 1) sections))
        (may subject is fits (take n sections) budget good now due) before one text refl
        (within_due document budget (take n sections) section now (placed_width document.style section) one.good due refl)
        (taken_more sections n no_section section within at)
        (due_after-more document sections n no_section within
        ∙ ap (λ due. due_next document due (get_or sections n no_section)) due
        ∙ ap (λ (s : Section). next_due document section.table (placed_width document.style s)) (sym at))

    so_far : (n : ℕ) → n ≤ length sections →
        AreSoFar given document budget (take n sections) (due_after document (take n sections))
    so_far zero within = none_so_far given document budget [] refl
    so_far (suc n) within =
        let same : n + 1 ≡ suc n = omega arith in
        subst (λ m. AreSoFar given document budget (take m sections) (due_after document (take m sections))) same
        (one_more n (get_or sections n no_section) (omega (arith, within)) refl (so_far n (omega (arith, within))))

    pub all_in_order : AreSoFar given document budget sections (due_after document sections)
    all_in_order =
        subst (λ all. AreSoFar given document budget all (due_after document all))
        (take_all (length sections) sections (omega arith))
        (so_far (length sections) (omega arith))

-- ---- a section that was found has a placement on its page

pub found_narrow : (given : ProblemModel → Outcome → Type 0) (document : Document) (budget : ℕ) (told : List Section)
    (section : Section) → IsFoundOn given document budget told section → HasNarrowWidths document.style section
found_narrow given document budget told section found =
    let placement = found.solved.tight.placement in
    let wide : total (gap_of document.style) (edges_of document.style) section.widths
    ≡ total found.problem.spacing.gap found.problem.spacing.edges found.outcome.best.widths =
    ap (total (gap_of document.style) (edges_of document.style)) found.same.widths
    ∙ ap (λ (s : Spacing). total s.gap s.edges found.outcome.best.widths) (sym found.own.made.spaced) in record {
      few = omega (arith, ap length found.same.widths, placement.page.columns, found.own.sound.few_columns);
      narrow = omega (arith, wide, placement.page.page, found.own.sound.narrow);
    }

-- a search of a table on the sections that are told
pub found_here : (given : ProblemModel → Outcome → Type 0) (document : Document) (budget : ℕ) (told : List Section) (now : Due)
    (one : Table) (problem : ProblemModel) (outcome : Outcome) (section : Section) → IsTableOf document now.table one →
    IsProblemFor one document.style now.width told problem → IsSolverOutcome problem budget outcome → given problem outcome →
    section ≡ section_of now outcome → IsFoundFor given document budget told now.table section
found_here given document budget told now one problem outcome section named for_one solved gives is =
    subst (IsFoundFor given document budget told now.table) (sym is) (record {
      found = record {
        problem = problem;
        own = record {
          one = one;
          named = named;
          inner = for_one.inner;
          steps = for_one.steps;
          made = for_one.made;
          sound = for_one.sound;
        };
        outcome = outcome;
        solved = solved;
        gives = gives;
        same = record { height = refl; lower = refl; widths = refl; trace = refl; log = refl };
      };
      of = refl;
    })

-- ---- the order so far

pub order_more : (document : Document) (sections : List Section) (number : ℕ) (due next : Due) (section : Section) (placed : ℕ) →
    number < length sections → AreDueInOrder document sections number →
    due_after document (take number sections) ≡ Some due → section ≡ get_or sections number section →
    section.table ≡ due.table → section.width ≡ due.width → placed ≡ placed_width document.style section →
    Some next ≡ next_due document due.table placed →
    AreDueInOrder document sections (number + 1) × (due_after document (take (number + 1) sections) ≡ Some next)
order_more document sections number due next section placed there order is_due at table width wide follows = (
  λ i d less. elim (cases_lt i number) [
    | inl before ↦ order i d before
    | inr last ↦
        let same : number ≡ i = omega (arith, last, less) in
        subst (λ k. IsDue document (take k sections) (get_or sections k d)) same
        (subst (λ (one : Section). IsDue document (take number sections) one)
        (at ∙ sym (get_or_default sections number d section there))
        (is_due ∙ λ j. Some (record { table = sym table j; width = sym width j })))
  ],
  due_after-more document sections number section there
      ∙ ap (λ o. due_next document o (get_or sections number section)) is_due
      ∙ ap (λ (one : Section). next_due document due.table (placed_width document.style one)) (sym at)
      ∙ ap (next_due document due.table) (sym wide) ∙ sym follows,
)

-- the sections with which a certificate begins, each on those before it
pub begun_so_far : (subject : Subject) → IsSubject subject → IsWideEnough subject → SectionsGiveSoundProblems →
    (given : ProblemModel → Outcome → Type 0) (budget : ℕ) (found sections : List Section) (due : Due) →
    All (IsFoundOn given (meant subject) budget found) found → IsBegun (meant subject) found sections due →
    AreSoFar given (meant subject) budget sections (Some due)
begun_so_far subject is fits law given budget found sections due all (inl (same, order, next)) =
    subst (λ those. AreSoFar given (meant subject) budget those (Some due)) (sym same)
    (subst (AreSoFar given (meant subject) budget found) next (all_in_order subject is fits found order law given budget all))
begun_so_far subject is fits law given budget found sections due all (inr (none, first)) =
    subst (λ one. AreSoFar given (meant subject) budget sections (Some one)) (sym first)
    (none_so_far given (meant subject) budget sections none)
