-- A group more, or a number more in one.
use Rattle.std.proofs.Common.{◌<◌, length, Option, refl, sym, ap, ◌∙◌, subst, arith}
use Rattle.std.proofs.lemmas.List.Elements.{Contains-append_left, Contains-push}
use Rattle.tl_cert.specs.declared.log.Bound.{Bound}
use Rattle.tl_store.specs.declared.groups.Group.{Group}
use Rattle.tl_store.specs.Stores.{IsHeadOf}
use Rattle.tl_store.proofs.GroupLaws.{listed-push, listed-new, listed-set, listed-grown}
use Rattle.tl_store.proofs.groups.list.Goals as goal

pub returns-then-place-len-clause-more : goal.returns-then-place-len-clause-more
returns-then-place-len-clause-more c = rw c.in_ok-push-2.ensures.items
    (λ bounds k is. listed-push c.args.groups.now.items _ bounds k is)

pub returns-then-place-len-clause-listed : goal.returns-then-place-len-clause-listed
returns-then-place-len-clause-listed c = rw c.in_ok-push-2.ensures.items
    (λ bounds head. listed-new c.args.groups.now.items _ bounds c.args.number (record {
      head = head;
      has = rw c.in_ok-push.ensures.items (Contains-push c.new-numbers.result.items c.args.number);
    }))

pub returns-in_err-push-3-clause-more : goal.returns-in_err-push-3-clause-more
returns-in_err-push-3-clause-more c =
    let place = c.place_of_head-place.result in
    let groups = c.args.groups.now.items in
    let within : place < length groups = omega (arith, c.if-place-len.false, c.len.ensures) in
    listed-set groups place within c.index_mut.result.now _ (sym c.index_mut.ensures.value) refl
    (λ k has. rw c.in_err-push-3.ensures.items has)

pub returns-clause-more : goal.returns-clause-more
returns-clause-more c =
    let place = c.place_of_head-place.result in
    let groups = c.args.groups.now.items in
    let within : place < length groups = omega (arith, c.if-place-len.false, c.len.ensures) in
    listed-set groups place within c.index_mut.result.now _ (sym c.index_mut.ensures.value) refl
    (λ k has. rw c.in_ok-push-3.ensures.items
    (Contains-append_left c.index_mut.result.now.numbers.items _ k has))

pub returns-clause-listed : goal.returns-clause-listed
returns-clause-listed c =
    let place = c.place_of_head-place.result in
    let groups = c.args.groups.now.items in
    let old = c.index_mut.result.now in
    let within : place < length groups = omega (arith, c.if-place-len.false, c.len.ensures) in
    let there = rw c.deref.ensures.value at (c.place_of_head-place.ensures.at old) in
    let at = sym c.index_mut.ensures.value in
    λ bounds head. listed-grown groups place within old _ at refl
    (λ k has. rw c.in_ok-push-3.ensures.items (Contains-append_left old.numbers.items _ k has))
    bounds c.args.number (record {
      head = subst (λ (h : Option Bound). IsHeadOf h bounds) (sym (ap (λ (g : Group). g.head) (sym at) ∙ there within)) head;
      has = rw c.in_ok-push-3.ensures.items (Contains-push old.numbers.items c.args.number);
    })
