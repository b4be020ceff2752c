use Rattle.std.proofs.Common.{◌+◌, ◌-◌, ◌<◌, List, length, sym, subst, arith}
use Rattle.std.specs.List.{All, AllZip}
use Rattle.std.specs.List.Sorted.{IsPermutation}
use Rattle.std.proofs.lemmas.List.Elements.{All-weaker}
use Rattle.std.proofs.lemmas.Result.{IfOk-weaker}
use Rattle.tl_cert.specs.declared.section.Section.{Section}
use Rattle.tl_form.specs.Expected.{own_number}
use Rattle.tl_form.specs.Subjects.{meant}
use Rattle.tl_nested.specs.Solved.{GivesOutcome}
use Rattle.tl_nested.specs.inner.Depths.{AreDepths, IsAtDepth, depth_of}
use Rattle.tl_nested.specs.inner.Found.{AreTold, IsFoundFor, IsFoundOn}
use Rattle.tl_nested.proofs.ByDepth.{found_permuted, group_found, told_more}
use Rattle.tl_nested.proofs.at_once.nested_sections.Goals as goal

pub loop-up-preserved : goal.loop-up-preserved
loop-up-preserved g c =
    let document = meant c.args.subject.now in
    let given = GivesOutcome g.F.Fn c.args.solve.now c.args.budget in
    let sizes = c.in_ok-sizes.sizes.items in
    let depths = c.in_ok-depths.depths.items in
    let depth = c.greatest-most.result - c.loop-up.up in
    let told = c.loop-up.told in
    let n = length c.args.subject.now.least.items in
    let are = subst (AreDepths sizes depths) c.in_ok-sizes.ensures.count
    (subst (λ xs. AreDepths xs depths (length xs)) c.as_slice.ensures.value c.in_ok-depths.ensures) in
    let at = subst (λ xs. All (IsAtDepth (own_number document) xs depth) c.in_ok-numbers.numbers.items)
    c.as_slice-in-loop-up.ensures.value c.in_ok-numbers.ensures in
    let lists = subst (λ some. AllZip (λ number list. All (IsFoundFor given document c.args.budget some number) list)
    c.in_ok-numbers.numbers.items c.in_ok-lists.lists.items) c.as_slice-in-loop-up-3.ensures
    (subst (λ numbers. AllZip
    (λ number list. All (IsFoundFor given document c.args.budget c.as_slice-in-loop-up-3.result.now number) list)
    numbers c.in_ok-lists.lists.items) c.as_slice-in-loop-up-2.ensures.value c.in_ok-lists.ensures) in
    let new = group_found given document c.args.budget told depths depth c.in_ok-numbers.numbers.items c.in_ok-lists.lists.items
    at lists c.in_ok-more.more c.in_ok-more.ensures in
    subst (AreTold given document c.args.budget depths (c.greatest-most.result - (c.loop-up.up + 1)))
    (sym c.in_ok-told.ensures)
    (told_more document c.requires.subject.sound sizes depths n c.requires.subject.document.each c.in_ok-sizes.ensures are given
    c.args.budget depth (c.greatest-most.result - (c.loop-up.up + 1)) told c.in_ok-more.more
    (omega (arith, c.loop-up-test.true)) c.loop-up.invariant new)

pub returns : goal.returns
returns g c =
    let document = meant c.args.subject.now in
    let given = GivesOutcome g.F.Fn c.args.solve.now c.args.budget in
    let told = c.loop-up.told in
    let depths = c.in_ok-depths.depths.items in
    let all = All-weaker (λ section. IsFoundOn given document c.args.budget told section
    × ((c.greatest-most.result - c.loop-up.up) < depth_of (own_number document) depths section.table))
    (IsFoundOn given document c.args.budget told) (λ section both. both.0) told c.loop-up.invariant in
    IfOk-weaker c.sorted.result (IsPermutation told)
    (λ (found : List Section). All (IsFoundOn given document c.args.budget found) found)
    (λ found same. found_permuted given document c.args.budget told found same all) c.sorted.ensures
