-- One number more.
use Rattle.std.proofs.Common.{◌≡◌, ℕ, ◌<◌, true, false, List, [], length, get_or, map, take, sym, ap, ◌∙◌, subst, arith}
use Rattle.std.specs.List.{All, Contains}
use Rattle.std.proofs.lemmas.List.{get_or-map, take_more}
use Rattle.tl_problem.specs.Works.{AreAllowed}
use Rattle.tl_cert.specs.Implied.{Implied}
use Rattle.tl_cert.specs.declared.log.Bound.{Bound}
use Rattle.tl_store.specs.inner.Closings.{IsFirstIn, IsImpliedWhole}
use Rattle.tl_store.proofs.FirstLaws.{first-lower, first-same}
use Rattle.tl_store.proofs.closing.first_in.Goals.{then-number-first+then-are_implied, else-number-first}
use Rattle.tl_store.proofs.closing.first_in.Goals.{else-number-first-via-then-number-first+else-are_implied}
use Rattle.tl_store.proofs.closing.first_in.Goals.{else-number-first-via-else-number-first}
use Rattle.tl_store.proofs.closing.first_in.Goals as goal

pub numbers-preserved : goal.numbers-preserved
numbers-preserved c =
    let P = Implied c.args.problem.now (AreAllowed c.args.problem.now c.args.matrix.now.bounds) in
    let keys = c.args.keys.now in
    let nogoods = map (λ key. key.items) keys in
    let Closes = IsImpliedWhole c.args.problem.now (AreAllowed c.args.problem.now c.args.matrix.now.bounds) nogoods in
    let numbers = c.args.numbers.now in
    let i = c.numbers.number-index in
    let n = get_or numbers i 0 in
    let inv = c.numbers.invariant in
    subst (λ (l : List ℕ). IsFirstIn Closes (Contains l) c.args.below c.if-number-first.first)
    (sym (take_more numbers i 0 c.numbers-test.true)) (elim c.if-number-first.branch [
      | then-number-first+then-are_implied w ↦
          let within : n < length keys = omega (arith, w.if-number-first.true, inv.most, c.requires.below) in
          let same : get_or nogoods n [] ≡ w.deref.result.now =
          get_or-map (λ key. key.items) keys n w.index-keys-number.result [] within
          ∙ ap (λ key. key.items) (sym w.index-keys-number.is) ∙ sym w.deref.ensures.value in
          rw w.first-is (first-lower Closes c.args.below (take i numbers) c.numbers.first n inv w.if-number-first.true
          (subst (λ (l : List Bound). All P l) (sym same) (w.are_implied.ensures.0 w.if-are_implied.true)))
      | else-number-first w ↦ rw w.first-is (first-same Closes c.args.below (take i numbers) c.numbers.first n inv
          (elim w.else-number-first.branch [
            | else-number-first-via-then-number-first+else-are_implied v ↦ λ less closes.
                let within : n < length keys = omega (arith, less, inv.most, c.requires.below) in
                let same : get_or nogoods n [] ≡ v.deref.result.now =
                get_or-map (λ key. key.items) keys n v.index-keys-number.result [] within
                ∙ ap (λ key. key.items) (sym v.index-keys-number.is) ∙ sym v.deref.ensures.value in
                let differ : true ≡ false = sym (v.are_implied.ensures.1 (subst (λ (l : List Bound). All P l) same closes))
                ∙ v.if-are_implied.false in
                cc
            | else-number-first-via-else-number-first v ↦ λ less closes. omega (arith, less, v.if-number-first.false)
          ]))
    ])
