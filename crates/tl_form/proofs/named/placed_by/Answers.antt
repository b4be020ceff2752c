use Rattle.std.proofs.Common.{◌≡◌, ◌∙◌, ◌≤◌, take, refl, sym, ap, subst, rules}
use Rattle.tl_base.specs.declared.limits.TheConstants.{MAX_PAGE_WIDTH}
use Rattle.tl_problem.specs.declared.placed.Placed.{Placed}
use Rattle.tl_problem.specs.Problem.{ProblemModel}
use Rattle.tl_cert.specs.declared.section.Section.{Section}
use Rattle.tl_table.specs.declared.cell.Table.{out-Table}
use Rattle.tl_form.specs.Valid.{HasPlacement}
use Rattle.tl_form.specs.Nested.{IsProblemFor}
use Rattle.tl_form.proofs.NamedSteps.{has_place, is_some_by, placed_part, rooms_part, sound_part, wide_part}
use Rattle.tl_form.proofs.Placing.{found_some}
use Rattle.tl_form.proofs.named.placed_by.Goals as goal

pub lay-requires-clause-sound : goal.lay-requires-clause-sound
lay-requires-clause-sound c =
    let section = c.index-sections-at.result in
    let own : (out-Table c.args.table.now).number ≡ section.table =
    sym (c.requires.own section) ∙ sym (ap (λ (s : Section). s.table) c.index-sections-at.is) in
    sound_part c.requires.part.0 c.requires.part.1 c.args.style c.args.sections.now c.args.table.now c.requires.part.2
    c.args.at c.requires.there section c.index-sections-at.is own

pub lay-requires-clause-wide : goal.lay-requires-clause-wide
lay-requires-clause-wide c =
    let section = c.index-sections-at.result in
    let own : (out-Table c.args.table.now).number ≡ section.table =
    sym (c.requires.own section) ∙ sym (ap (λ (s : Section). s.table) c.index-sections-at.is) in
    wide_part c.requires.part.0 c.requires.part.1 c.args.style c.args.sections.now c.args.table.now c.requires.part.2
    c.args.at c.requires.there section c.index-sections-at.is own

pub unwrap-laid-requires : goal.unwrap-laid-requires
unwrap-laid-requires c =
    let section = c.index-sections-at.result in
    let own : (out-Table c.args.table.now).number ≡ section.table =
    sym (c.requires.own section) ∙ sym (ap (λ (s : Section). s.table) c.index-sections-at.is) in
    let has = has_place c.requires.part.0 c.requires.part.1 c.args.style c.args.sections.now c.args.table.now c.requires.part.2
    c.args.at c.requires.there section c.index-sections-at.is own in
    let found = is_some_by c.in_ok-lay.field-0
    ((problem : ProblemModel) (placed : Placed) → IsProblemFor c.args.table.now c.args.style section.width
    (take c.args.at c.args.sections.now) problem →
    HasPlacement section problem placed → ⊥)
    (λ laid. IsProblemFor c.args.table.now c.args.style section.width (take c.args.at c.args.sections.now) laid.problem
    × HasPlacement section laid.problem laid.placed) (λ none. none has.0 has.1 has.2 has.3) c.in_ok-lay.ensures in
    rw (found.1) (search rules)

pub returns-clause-own : goal.returns-clause-own
returns-clause-own c = λ document budget part.
    let section = c.index-sections-at.result in
    let own : (out-Table c.args.table.now).number ≡ section.table =
    sym (c.requires.own section) ∙ sym (ap (λ (s : Section). s.table) c.index-sections-at.is) in
    let both = found_some c.in_ok-lay.field-0 c.unwrap-laid.result
    ((problem : ProblemModel) (placed : Placed) → IsProblemFor c.args.table.now c.args.style section.width
    (take c.args.at c.args.sections.now) problem →
    HasPlacement section problem placed → ⊥)
    (λ laid. IsProblemFor c.args.table.now c.args.style section.width (take c.args.at c.args.sections.now) laid.problem
    × HasPlacement section laid.problem laid.placed) c.unwrap-laid.ensures c.in_ok-lay.ensures in
    rw c.into_placed.ensures (placed_part document budget c.args.style c.args.sections.now c.args.table.now part c.args.at
    c.requires.there
    section c.index-sections-at.is own c.unwrap-laid.result.problem c.unwrap-laid.result.placed both.0 both.1)

pub returns-clause-rooms : goal.returns-clause-rooms
returns-clause-rooms c =
    let section = c.index-sections-at.result in
    let own : (out-Table c.args.table.now).number ≡ section.table =
    sym (c.requires.own section) ∙ sym (ap (λ (s : Section). s.table) c.index-sections-at.is) in
    let both = found_some c.in_ok-lay.field-0 c.unwrap-laid.result
    ((problem : ProblemModel) (placed : Placed) → IsProblemFor c.args.table.now c.args.style section.width
    (take c.args.at c.args.sections.now) problem →
    HasPlacement section problem placed → ⊥)
    (λ laid. IsProblemFor c.args.table.now c.args.style section.width (take c.args.at c.args.sections.now) laid.problem
    × HasPlacement section laid.problem laid.placed) c.unwrap-laid.ensures c.in_ok-lay.ensures in
    rw c.into_placed.ensures (rooms_part c.requires.part.0 c.requires.part.1 c.args.style c.args.sections.now c.args.table.now
    c.requires.part.2
    c.args.at c.requires.there section c.index-sections-at.is own
    c.unwrap-laid.result.problem both.0 c.unwrap-laid.result.placed.widths both.1.tight.placement.page
    (subst (λ (s : Section). s.width ≤ MAX_PAGE_WIDTH) (sym c.index-sections-at.is)
    (c.requires.part.2.small c.args.at section c.requires.there).narrow)
    c.unwrap-laid.result.placed refl)
