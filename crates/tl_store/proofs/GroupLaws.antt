-- Groups of nogoods that grow.
use Rattle.std.proofs.Common.{◌≡◌, ℕ, ◌<◌, Bool, true, false, List, [], ◌∷◌, ◌++◌, inl, inr, length, get_or, set, map}
use Rattle.std.proofs.Common.{Option, Some, None, refl, sym, ap, ◌∙◌, subst, arith, length-append}
use Rattle.std.specs.Prelude.{IfSome}
use Rattle.std.specs.List.{Contains, list_any}
use Rattle.std.proofs.lemmas.Bool.{cases_eq, cases_lt}
use Rattle.std.proofs.lemmas.List.{get_or-set_same, get_or-set_other, get_or_default, length-set}
use Rattle.std.proofs.lemmas.List.{get_or_append_left, get_or_push, length-map, map_push}
use Rattle.std.proofs.lemmas.List.Elements.{Contains-append_left, Contains-push}
use Rattle.indexmap.specs.IndexSet.{insert_key}
use Rattle.tl_cert.specs.declared.log.Bound.{Bound}
use Rattle.tl_store.specs.declared.groups.Group.{Group}
use Rattle.tl_store.specs.Stores.{IsHeadOf, IsListedBy, IsListed, AreListed}

-- with one group more all that was listed is listed
pub listed-push : (groups : List Group) (group : Group) (bounds : List Bound) (k : ℕ) → IsListed groups bounds k →
    IsListed (groups ++ group ∷ []) bounds k
listed-push groups group bounds k is = record {
  group = is.group;
  there = Contains-append_left groups (group ∷ []) is.group is.there;
  listed = is.listed;
}

-- and what the new group has
pub listed-new : (groups : List Group) (group : Group) (bounds : List Bound) (k : ℕ) → IsListedBy group bounds k →
    IsListed (groups ++ group ∷ []) bounds k
listed-new groups group bounds k is = record { group = group; there = Contains-push groups group; listed = is }

-- a group with the same bound and at least the same numbers in the place of one
module _ (groups : List Group) (place : ℕ) (within : place < length groups) (old grown : Group)
    (at : get_or groups place old ≡ old) (head : grown.head ≡ old.head)
    (more : (k : ℕ) → Contains old.numbers.items k → Contains grown.numbers.items k) where
  at_place : Contains (set groups place grown) grown
  at_place = (
    place,
    omega (arith, within, length-set groups place grown),
    get_or-set_same groups place grown grown within,
  )

  pub listed-grown : (bounds : List Bound) (k : ℕ) → IsListedBy grown bounds k → IsListed (set groups place grown) bounds k
  listed-grown bounds k is = record { group = grown; there = at_place; listed = is }

  pub listed-set : (bounds : List Bound) (k : ℕ) → IsListed groups bounds k → IsListed (set groups place grown) bounds k
  listed-set bounds k is = elim (cases_eq is.there.0 place) [
    | inl here ↦
        let same : old ≡ is.group = sym at ∙ get_or_default groups place old is.group within
        ∙ subst (λ (i : ℕ). get_or groups i is.group ≡ is.group) here is.there.2 in
        listed-grown bounds k (record {
          head = subst (λ (h : Option Bound). IsHeadOf h bounds) (sym (head ∙ ap (λ (g : Group). g.head) same)) is.listed.head;
          has = more k (subst (λ (g : Group). Contains g.numbers.items k) (sym same) is.listed.has);
        })
    | inr other ↦ record {
      group = is.group;
      there = (
        is.there.0,
        omega (arith, is.there.1, length-set groups place grown),
        get_or-set_other groups place is.there.0 grown is.group other ∙ is.there.2,
      );
      listed = is.listed;
    }
  ]

-- the bound of a group is on a span that is there, if those of a nogood in it are
pub head-span : (count : ℕ) (head : Option Bound) (bounds : List Bound) → IsHeadOf head bounds →
    ((b : Bound) → Contains bounds b → b.span < count) → IfSome head (λ b. b.span < count)
head-span count None bounds none inside = tt
head-span count (Some bound) bounds has inside = inside bound has

-- groups that list more list all nogoods as well
pub all-listed : (groups more : List Group) (nogoods : List (List Bound)) →
    ((bounds : List Bound) (k : ℕ) → IsListed groups bounds k → IsListed more bounds k) → AreListed groups nogoods →
    AreListed more nogoods
all-listed groups more nogoods grow all k within = grow (get_or nogoods k []) k (all k within)

-- a key that is put last is listed under its number
module _ {K : Type 0} (items : K → List Bound) (eq : K → K → Bool) (keys : List K) (key : K) (groups : List Group)
    (all : AreListed groups (map items keys))
    (new_listed : list_any (eq key) keys ≡ false → IsListed groups (items key) (length keys)) where
  last-listed : list_any (eq key) keys ≡ false → AreListed groups (map items keys ++ items key ∷ [])
  last-listed lacks k within = elim (cases_lt k (length (map items keys))) [
    | inl old ↦ subst (λ (l : List Bound). IsListed groups l k)
        (sym (get_or_append_left (map items keys) (items key ∷ []) [] k old)) (all k old)
    | inr past ↦
        let count = length-append (map items keys) (items key ∷ []) in
        let here : k ≡ length (map items keys) = omega (arith, within, past, count) in
        subst (λ (l : List Bound). IsListed groups l k) (sym (get_or_push (map items keys) (items key) [] k (sym here)))
        (subst (λ (n : ℕ). IsListed groups (items key) n) (sym (here ∙ length-map keys items)) (new_listed lacks))
  ]

  pub listed-inserted : (new : List K) → new ≡ insert_key eq keys key → AreListed groups (map items new)
  listed-inserted new is = subst (λ (ks : List K). AreListed groups (map items ks)) (sym is) (either (list_any (eq key) keys) refl) where
    either : (b : Bool) → list_any (eq key) keys ≡ b → AreListed groups (map items (insert_key eq keys key))
    either true there = rw there all
    either false lacks = rw lacks (subst (AreListed groups) (sym (map_push items keys key)) (last-listed lacks))
