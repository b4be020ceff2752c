-- The table is laid out in the last section, and the choice is made on its problem.
use Rattle.std.proofs.Common.{◌≡◌, ◌-◌, List, length, get_or, take, inl, subst}
use Rattle.std.specs.Prelude.{MatchOption}
use Rattle.tl_cert.specs.declared.section.Section.{Section}
use Rattle.tl_form.proofs.Placing.{found_some}
use Rattle.tl_lay.proofs.ChosenLaid.{IsLaidOn, IsNeverLaid, laid_found, low_of, own_of, section_wide}
use Rattle.tl_lay.proofs.Tidying.{found_here, open_here}
use Rattle.tl_lay.proofs.tidiest.chosen_widths.Goals as goal

pub lay-requires-clause-wide : goal.lay-requires-clause-wide
lay-requires-clause-wide c =
    let section = c.index-sections-own.result in
    section_wide c.args.given.now.table c.args.task.now.style c.args.height c.args.width c.args.given.now.budget c.requires.usable.sound
    c.args.certificate.now c.requires.low section
    (subst (λ (all : List Section). section ≡ get_or all (length all - 1) section) c.as_slice-sections.ensures
    c.index-sections-own.is)

pub unwrap-laid-requires : goal.unwrap-laid-requires
unwrap-laid-requires c =
    let table = c.args.given.now.table in
    let style = c.args.task.now.style in
    let section = c.index-sections-own.result in
    laid_found table style c.args.height c.args.width c.args.given.now.budget c.requires.usable.sound
    c.args.certificate.now c.requires.low section
    (subst (λ (all : List Section). section ≡ get_or all (length all - 1) section) c.as_slice-sections.ensures
    c.index-sections-own.is) c.in_ok-lay.field-0
    (subst (λ (all : List Section). MatchOption c.in_ok-lay.field-0
    (IsNeverLaid table style section (take (length all - 1) all)) (IsLaidOn table style section (take (length all - 1) all)))
    c.as_slice-sections.ensures c.in_ok-lay.ensures)

pub returns-then-not-agrees_on_page : goal.returns-then-not-agrees_on_page
returns-then-not-agrees_on_page c =
    let table = c.args.given.now.table in
    let style = c.args.task.now.style in
    let section = c.index-sections-own.result in
    let all = c.args.certificate.now.sections in
    let both = found_some c.in_ok-lay.field-0 c.unwrap-laid.result
    (IsNeverLaid table style section (take (length all - 1) all)) (IsLaidOn table style section (take (length all - 1) all))
    c.unwrap-laid.ensures
    (subst (λ (all : List Section). MatchOption c.in_ok-lay.field-0
    (IsNeverLaid table style section (take (length all - 1) all)) (IsLaidOn table style section (take (length all - 1) all)))
    c.as_slice-sections.ensures c.in_ok-lay.ensures) in (
      c.unwrap-laid.result.problem,
      own_of table style c.args.height c.args.width c.args.given.now.budget c.requires.usable.sound c.args.certificate.now c.requires.low
          section
          (subst (λ (all : List Section). section ≡ get_or all (length all - 1) section) c.as_slice-sections.ensures
          c.index-sections-own.is) c.unwrap-laid.result both,
      inl (λ same. let yes = c.agrees_on_page.ensures.page.1 same in absurd cc),
    )

pub choose-requires-clause-some : goal.choose-requires-clause-some
choose-requires-clause-some c =
    let table = c.args.given.now.table in
    let style = c.args.task.now.style in
    let section = c.index-sections-own.result in
    let all = c.args.certificate.now.sections in
    let both = found_some c.in_ok-lay.field-0 c.unwrap-laid.result
    (IsNeverLaid table style section (take (length all - 1) all)) (IsLaidOn table style section (take (length all - 1) all))
    c.unwrap-laid.ensures
    (subst (λ (all : List Section). MatchOption c.in_ok-lay.field-0
    (IsNeverLaid table style section (take (length all - 1) all)) (IsLaidOn table style section (take (length all - 1) all)))
    c.as_slice-sections.ensures c.in_ok-lay.ensures) in
    low_of table style c.args.height c.args.width c.args.given.now.budget c.requires.usable.sound c.args.certificate.now c.requires.low
    section
    (subst (λ (all : List Section). section ≡ get_or all (length all - 1) section) c.as_slice-sections.ensures
    c.index-sections-own.is) c.unwrap-laid.result both

pub returns-in-Found : goal.returns-in-Found
returns-in-Found c =
    let table = c.args.given.now.table in
    let style = c.args.task.now.style in
    let section = c.index-sections-own.result in
    let all = c.args.certificate.now.sections in
    let both = found_some c.in_ok-lay.field-0 c.unwrap-laid.result
    (IsNeverLaid table style section (take (length all - 1) all)) (IsLaidOn table style section (take (length all - 1) all))
    c.unwrap-laid.ensures
    (subst (λ (all : List Section). MatchOption c.in_ok-lay.field-0
    (IsNeverLaid table style section (take (length all - 1) all)) (IsLaidOn table style section (take (length all - 1) all)))
    c.as_slice-sections.ensures c.in_ok-lay.ensures) in (
      c.unwrap-laid.result.problem,
      own_of table style c.args.height c.args.width c.args.given.now.budget c.requires.usable.sound c.args.certificate.now c.requires.low
          section
          (subst (λ (all : List Section). section ≡ get_or all (length all - 1) section) c.as_slice-sections.ensures
          c.index-sections-own.is) c.unwrap-laid.result both,
      found_here c.args.task.now table c.args.height c.args.given.now.budget c.unwrap-laid.result.problem c.in_ok-placed.field-0
          c.in-Found.placed c.requires.usable.of_task c.in-Found.is (c.agrees_on_page.ensures.page.0 c.if-not-agrees_on_page.false)
          c.in_ok-placed.ensures.found c.in_ok-placed.ensures.low c.in_ok-placed.ensures.enough,
    )

pub returns : goal.returns
returns c =
    let table = c.args.given.now.table in
    let style = c.args.task.now.style in
    let section = c.index-sections-own.result in
    let all = c.args.certificate.now.sections in
    let both = found_some c.in_ok-lay.field-0 c.unwrap-laid.result
    (IsNeverLaid table style section (take (length all - 1) all)) (IsLaidOn table style section (take (length all - 1) all))
    c.unwrap-laid.ensures
    (subst (λ (all : List Section). MatchOption c.in_ok-lay.field-0
    (IsNeverLaid table style section (take (length all - 1) all)) (IsLaidOn table style section (take (length all - 1) all)))
    c.as_slice-sections.ensures c.in_ok-lay.ensures) in (
      c.unwrap-laid.result.problem,
      own_of table style c.args.height c.args.width c.args.given.now.budget c.requires.usable.sound c.args.certificate.now c.requires.low
          section
          (subst (λ (all : List Section). section ≡ get_or all (length all - 1) section) c.as_slice-sections.ensures
          c.index-sections-own.is) c.unwrap-laid.result both,
      open_here c.args.task.now table c.args.height c.args.given.now.budget c.unwrap-laid.result.problem c.in_ok-placed.field-0
          c.requires.usable.of_task c.in-Open.is c.in_ok-placed.ensures.above c.in_ok-placed.ensures.count,
    )
