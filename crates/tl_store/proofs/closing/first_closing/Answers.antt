-- One group more.
use Rattle.std.proofs.Common.{◌≡◌, ℕ, ◌+◌, true, false, List, [], ◌∷◌, ◌++◌, length, get_or, map, take, sym, ap, ◌∙◌, subst}
use Rattle.std.specs.List.{Contains}
use Rattle.std.proofs.lemmas.List.{take_more}
use Rattle.tl_problem.specs.Works.{AreAllowed}
use Rattle.tl_store.specs.declared.groups.Group.{Group}
use Rattle.tl_store.specs.Stores.{IsListed}
use Rattle.tl_store.specs.inner.Closings.{IsFirstIn, IsImpliedWhole}
use Rattle.tl_store.proofs.FirstLaws.{groups-looked, groups-skipped}
use Rattle.tl_store.proofs.closing.first_closing.Goals.{then-may_hold, else-may_hold}
use Rattle.tl_store.proofs.closing.first_closing.Goals as goal

pub groups-preserved : goal.groups-preserved
groups-preserved c =
    let p = c.args.problem.now in
    let Among = AreAllowed p c.args.matrix.now.bounds in
    let nogoods = map (λ key. key.items) c.args.keys.now in
    let groups = c.args.groups.now in
    let i = c.groups.group-index in
    let group = c.group-item.result in
    let first = c.groups.first in
    let more : take (i + 1) groups ≡ take i groups ++ group ∷ [] = take_more groups i group c.groups-test.true
    ∙ ap (λ (g : Group). take i groups ++ g ∷ []) (sym c.group-item.is) in
    subst (λ (l : List Group). IsFirstIn (IsImpliedWhole p Among nogoods) (λ k. IsListed l (get_or nogoods k []) k)
    (length nogoods) c.if-may_hold.first) (sym more) (elim c.if-may_hold.branch [
      | then-may_hold w ↦ rw w.first-is (groups-looked p Among nogoods (take i groups) group first c.groups.invariant
          w.first_in-first.result (subst (λ (l : List ℕ). IsFirstIn (IsImpliedWhole p Among nogoods) (Contains l) first
          w.first_in-first.result) w.deref.ensures.value w.first_in-first.ensures))
      | else-may_hold w ↦ rw w.first-is (groups-skipped p Among nogoods (take i groups) group first c.groups.invariant
          (λ holds.
          let differ : true ≡ false = sym (c.may_hold.ensures.1 holds) ∙ w.if-may_hold.false in
          cc))
    ])
