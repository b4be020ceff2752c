use Rattle.std.proofs.Common.{◌≤◌, sym, subst, arith}
use Rattle.std.specs.List.{All}
use Rattle.std.proofs.lemmas.List.{get_or_read}
use Rattle.std.proofs.lemmas.List.Elements.{All-nil, All-push}
use Rattle.tl_form.specs.Expected.{least_of}
use Rattle.tl_form.specs.Subjects.{meant}
use Rattle.tl_nested.specs.declared.found.Found.{Found}
use Rattle.tl_nested.specs.Solved.{GivesOutcome}
use Rattle.tl_nested.specs.inner.Found.{IsFoundFor, MayBeSearchedNext}
use Rattle.tl_nested.proofs.Widths.{first_width, next_width, of_some}
use Rattle.tl_nested.proofs.found.table_sections.Goals as goal

pub loop-width-init : goal.loop-width-init
loop-width-init g c =
    let document = meant c.args.subject.now in
    let P = IsFoundFor (GivesOutcome g.F.Fn c.args.solve.now c.args.budget) document c.args.budget c.args.told.now
    c.args.number in (
      subst (All P) (sym c.new-sections.ensures) (All-nil P),
      first_width c.args.subject.now c.requires.subject c.requires.wide c.args.number c.requires.from c.requires.upto,
    )

pub loop-width-preserved : goal.loop-width-preserved
loop-width-preserved g c =
    let document = meant c.args.subject.now in
    let P = IsFoundFor (GivesOutcome g.F.Fn c.args.solve.now c.args.budget) document c.args.budget c.args.told.now
    c.args.number in
    let least = least_of document c.args.number in
    let page = c.args.subject.now.page in
    let found = c.in-Some-2.found in
    let one = of_some (λ (some : Found). P some.section) c.in_ok-found.field-0 found c.in-Some-2.is c.in_ok-found.ensures.found in
    let narrow = of_some (λ (some : Found). some.placed.width ≤ c.in-Some.now) c.in_ok-found.field-0 found c.in-Some-2.is
    c.in_ok-found.ensures.narrow in
    let now = subst (MayBeSearchedNext least page) c.in-Some.is c.loop-width.invariant.1 in
    let read = get_or_read c.args.subject.now.least.items _ _
    (omega (arith, c.requires.from, c.requires.upto, c.requires.subject.document.numbers, c.requires.subject.document.each))
    c.index-least.ensures 0 in (
      subst (All P) (sym c.in_ok-push.ensures.ok)
          (All-push P c.loop-width.sections found.section c.loop-width.invariant.0 one),
      next_width least _ page c.in-Some.now found.placed.width c.narrower-width.result read narrow now.1 c.narrower-width.ensures,
    )
