-- `List` as a type through which a tree may hold itself: a node's children in a `List` are parts of the node.
use mathlib.Core.Path.{◌≡◌, refl, sym}
use mathlib.Core.List.{List, []}
use mathlib.Core.Former.{Former, this, list, via, children}
use base.Stored.{code_map}
use denote.RattleType.{RattleType}
use denote.HoleLaws.{Alike}
use denote.HolePlaces.{Recodes, struct_places, laid}
use denote.Hole.Carrier.{listed, list-listed}
use denote.Hole.Fix.{over}
use denote.Param.Weighed.{Weighed, w_list}
use denote.Model.Placed.{view_places}
use Rattle.std.specs.formers.vec.Vec as vec
use Rattle.std.specs.declared.alloc.Global.{Global}
use Rattle.std.specs.contracts.alloc.Global as heap
use Rattle.std.specs.contracts.impls.GlobalAllocator.TheImpl.{ghosts}
use Rattle.tl_base.specs.declared.items.List.TheInside.{Inside}
use Rattle.tl_base.specs.declared.items.List.TheView.{view, invariant}
use Rattle.tl_base.specs.contracts.items.List as contracts
use Rattle.tl_base.specs.contracts.items.List.TheInside as inside

-- a list of children
abbrev pub the_former : Former {0} → Former {0}
the_former child = list child

-- its depth is that of its deepest child
abbrev pub the_weighed : {child : Former {0}} → Weighed child → Weighed (the_former child)
the_weighed weighed = w_list weighed

-- the list with no child
pub the_empty : List ⊥
the_empty = []

-- the children are the items
abbrev pub the_items : (X : Type 0) → List X → List X
the_items X items = items

-- and they are listed in order
pub the_items_listed : (X : Type 0) (items : List X) → listed _ (children (the_former this) X items) ≡ the_items X items
the_items_listed X items = list-listed X items

-- the one field, the vector of the items
abbrev fields : Former {0}
fields = via (vec.the_former this Global) Inside (λ X a. a.items) (λ X v. record { items = v }) (λ X a. refl) (λ X v. refl)

module _ (R S : RattleType) (h : R.Denot → S.Denot) where
  -- a list is laid out alike at item types that are alike
  pub the_places : Alike R S h → Alike (contracts.the_row R) (contracts.the_row S) ((the_former this).map R.Denot S.Denot h)
  the_places alike = view_places fields (list this) view (λ X Y k u. refl) (λ X u. refl) R.Denot S.Denot h
      (contracts.the_row R).coded (contracts.the_row S).coded
      (invariant R.Denot) (invariant S.Denot) (λ u p q. refl) (λ u p q. refl) (λ u e. tt) (λ u e. tt)
      (over (inside.the_row R)) (over (inside.the_row S))
      (struct_places (inside.the_type R) (inside.the_type S) (vec.mapped h, tt) _ (λ d. refl) refl
      (laid _ _ _ (vec.the_places heap.the_row ghosts R S h alike), tt))

  -- and its code follows the items' code
  pub the_codes_placed : Recodes R S h → Recodes (contracts.the_row R) (contracts.the_row S)
      ((the_former this).map R.Denot S.Denot h)
  the_codes_placed recodes items = sym (code_map R.coded.code S.coded.code h (λ x. sym (recodes x)) items)
