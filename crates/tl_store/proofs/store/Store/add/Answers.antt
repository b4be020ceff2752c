-- The set keeps each key once.
use Rattle.std.proofs.Common.{◌≡◌, ◌<◌, List, length, refl, ◌∙◌, subst, arith}
use Rattle.std.specs.Cmp.Lexicographic.{pointwise}
use Rattle.std.specs.List.{All, AllPairs}
use Rattle.std.proofs.lemmas.List.{length-map}
use Rattle.std.proofs.lemmas.Slice.Eq.{slice_eq-Decides}
use Rattle.tl_base.proofs.Members.{All-from_Contains}
use Rattle.tl_problem.specs.Spans.{spans_of}
use Rattle.tl_cert.specs.contracts.log.BoundPartialEq.TheImpl.{ghosts}
use Rattle.tl_cert.specs.declared.log.Bound.{Bound}
use Rattle.tl_cert.specs.Nogoods.{nogood_bounds}
use Rattle.tl_check.proofs.Spans.{nogood-span}
use Rattle.tl_store.specs.Stores.{BoundComesFirst, HaveSame, nogoods_of}
use Rattle.tl_store.proofs.Adding.{is-added, all-inserted, few-inserted}
use Rattle.tl_store.proofs.GroupLaws.{all-listed, listed-inserted}
use Rattle.tl_store.proofs.BoundEq.{bound_eq-decides}
use Rattle.tl_store.proofs.store.Store.add.Goals as goal

pub returns-in_err-list_new-clause-store : goal.returns-in_err-list_new-clause-store
returns-in_err-list_new-clause-store c =
    let p = c.args.problem.now in
    let old = c.requires.store in
    let same = subst (λ (l : List Bound). HaveSame l c.in_ok-key.key.items) (c.as_slice.ensures ∙ c.in_ok-bounds.ensures)
    c.in_ok-key.ensures.same in
    record {
      page = old.page;
      mark = old.mark;
      spans = old.spans;
      sorted = old.sorted;
      few = old.few;
      heads = c.list_new.ensures.spans (length (spans_of p)) old.heads (λ bound has. nogood-span p old.page.work_of.sound
          c.args.trace.now c.requires.trace c.args.line.now.nogood c.requires.names bound
          ((same bound).1 (rw c.deref.ensures.value at has)));
      listed = all-listed c.args.self.now.groups.items c.list_new.new.groups.items (nogoods_of c.args.self.now)
          c.list_new.ensures.more old.listed;
    }

pub returns-in_err-number-clause-store : goal.returns-in_err-number-clause-store
returns-in_err-number-clause-store c =
    let p = c.args.problem.now in
    let old = c.requires.store in
    let kept : c.insert_full.new.self.keys ≡ c.args.self.now.kept.keys = c.in_err-number.ensures.err in
    let same = subst (λ (l : List Bound). HaveSame l c.in_ok-key.key.items) (c.as_slice.ensures ∙ c.in_ok-bounds.ensures)
    c.in_ok-key.ensures.same in
    record {
      page = old.page;
      mark = old.mark;
      spans = rw kept old.spans;
      sorted = rw kept old.sorted;
      few = rw kept old.few;
      heads = c.list_new.ensures.spans (length (spans_of p)) old.heads (λ bound has. nogood-span p old.page.work_of.sound
          c.args.trace.now c.requires.trace c.args.line.now.nogood c.requires.names bound
          ((same bound).1 (rw c.deref.ensures.value at has)));
      listed = rw kept (all-listed c.args.self.now.groups.items c.list_new.new.groups.items (nogoods_of c.args.self.now)
          c.list_new.ensures.more old.listed);
    }

pub returns-clause-added : goal.returns-clause-added
returns-clause-added c = is-added (λ key. key.items) _ (λ a b. slice_eq-Decides bound_eq-decides a.items b.items _ refl)
    c.args.self.now.kept.keys c.in_ok-key.key
    (nogood_bounds c.args.problem.now c.args.trace.now c.args.line.now.nogood) c.requires.store.sorted c.in_ok-key.ensures.sorted
    (subst (λ (l : List Bound). HaveSame l c.in_ok-key.key.items) (c.as_slice.ensures ∙ c.in_ok-bounds.ensures)
    c.in_ok-key.ensures.same)
    c.insert_full.new.self.keys c.in_ok-number.ensures.keys c.in_ok-number.number c.in_ok-number.ensures.stored

pub returns-clause-store : goal.returns-clause-store
returns-clause-store c =
    let p = c.args.problem.now in
    let trace = c.args.trace.now in
    let line = c.args.line.now in
    let old = c.requires.store in
    let keys = c.args.self.now.kept.keys in
    let new = c.insert_full.new.self.keys in
    let key = c.in_ok-key.key in
    let same = subst (λ (l : List Bound). HaveSame l key.items) (c.as_slice.ensures ∙ c.in_ok-bounds.ensures)
    c.in_ok-key.ensures.same in
    let spans : All (λ bound. bound.span < length (spans_of p)) key.items = All-from_Contains
    (λ bound. bound.span < length (spans_of p)) key.items (λ bound has.
    nogood-span p old.page.work_of.sound trace c.requires.trace line.nogood c.requires.names bound ((same bound).1 has)) in
    record {
      page = old.page;
      mark = old.mark;
      spans = all-inserted (λ k. k.items) _ (λ a b. slice_eq-Decides bound_eq-decides a.items b.items _ refl) keys key
          (All (λ bound. bound.span < length (spans_of p))) old.spans spans new c.in_ok-number.ensures.keys;
      sorted = all-inserted (λ k. k.items) _ (λ a b. slice_eq-Decides bound_eq-decides a.items b.items _ refl) keys key
          (AllPairs BoundComesFirst) old.sorted c.in_ok-key.ensures.sorted new c.in_ok-number.ensures.keys;
      few = omega (
        arith,
        few-inserted (λ k. k.items) (λ a b. pointwise ghosts.eq a.items b.items) keys key new c.in_ok-number.ensures.keys,
        c.if-len.false,
        c.len.ensures.len,
        length-map keys (λ k. k.items),
      );
      heads = c.list_new.ensures.spans (length (spans_of p)) old.heads (λ bound has. nogood-span p old.page.work_of.sound trace
          c.requires.trace line.nogood c.requires.names bound ((same bound).1 (rw c.deref.ensures.value at has)));
      listed = listed-inserted (λ k. k.items) (λ a b. pointwise ghosts.eq a.items b.items) keys key c.list_new.new.groups.items
          (all-listed c.args.self.now.groups.items c.list_new.new.groups.items (nogoods_of c.args.self.now)
          c.list_new.ensures.more old.listed)
          (rw c.deref.ensures.value at c.in_ok-list_new.ensures.listed) new c.in_ok-number.ensures.keys;
    }
