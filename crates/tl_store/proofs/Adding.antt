-- What a set of keys holds once a nogood is put into it.
use Rattle.std.proofs.Common.{◌≡◌, ℕ, ◌+◌, ◌<◌, ◌≤◌, Bool, true, false, List, [], ◌∷◌, ◌++◌, inl, inr, length, get_or, map, Some}
use Rattle.std.proofs.Common.{refl, sym, ap, ◌∙◌, subst, arith, length-append}
use Rattle.std.specs.Prelude.{slice_get}
use Rattle.std.specs.Bool.{Decides}
use Rattle.std.specs.List.{All, AllPairs, list_any}
use Rattle.std.proofs.lemmas.Bool.{cases_lt}
use Rattle.std.proofs.lemmas.List.{get_or-map, get_or_append_left, length-map, map_push}
use Rattle.std.proofs.lemmas.List.Elements.{All-push}
use Rattle.std.proofs.lemmas.List.Folds.{list_any_at}
use Rattle.std.proofs.lemmas.Option.{get_or_from_slice_get, slice_get_within}
use Rattle.indexmap.specs.IndexSet.{insert_key}
use Rattle.tl_cert.specs.declared.log.Bound.{Bound}
use Rattle.tl_store.specs.Stores.{BoundComesFirst, HaveSame, IsAddedNogood}
use Rattle.tl_store.proofs.BoundOrder.{same-bounds}
use Rattle.tl_store.proofs.SameBounds.{same-back, same-next}

module _ {K : Type 0} (items : K → List Bound) (eq : K → K → Bool) (decides : (a b : K) → Decides (eq a b) (items a ≡ items b))
    (keys : List K) (key : K) where
  -- what all keys have, all have with one more that has it
  pub all-inserted : (P : List Bound → Type 0) → All P (map items keys) → P (items key) → (new : List K) →
      new ≡ insert_key eq keys key → All P (map items new)
  all-inserted P all now new is = subst (λ ks. All P (map items ks)) (sym is) (either (list_any (eq key) keys) refl) where
    either : (b : Bool) → list_any (eq key) keys ≡ b → All P (map items (insert_key eq keys key))
    either true there = rw there all
    either false there = rw there (subst (All P) (sym (map_push items keys key))
        (All-push P (map items keys) (items key) all now))

  module _ (nogood : List Bound) (sorted : All (AllPairs BoundComesFirst) (map items keys))
      (ordered : AllPairs BoundComesFirst (items key)) (same : HaveSame nogood (items key))
      (new : List K) (is : new ≡ insert_key eq keys key) (number : ℕ)
      (stored : (k : K) × (slice_get new number ≡ Some k) × (eq key k ≡ true)) where
    -- the key under the number has the same bounds
    at : get_or (map items new) number [] ≡ items stored.0
    at = get_or-map items new number stored.0 [] (slice_get_within new number stored.0 stored.1)
        ∙ ap items (get_or_from_slice_get new number stored.0 stored.0 stored.1)

    is_same : HaveSame nogood (get_or (map items new) number [])
    is_same = subst (HaveSame nogood) (sym (at ∙ sym ((decides key stored.0).0 stored.2))) same

    there : number < length (map items new)
    there = omega (arith, slice_get_within new number stored.0 stored.1, length-map new items)

    -- a nogood of the store with the same bounds is the key's, so the test finds it
    found : (k : ℕ) → k < length (map items keys) → HaveSame nogood (get_or (map items keys) k []) → list_any (eq key) keys ≡ true
    found k within has =
        let inside : k < length keys = omega (arith, within, length-map keys items) in
        let here : get_or (map items keys) k [] ≡ items (get_or keys k key) = get_or-map items keys k key [] inside in
        let equal = same-bounds (items key) (get_or (map items keys) k []) ordered (sorted k [] within)
        (same-next (items key) nogood (get_or (map items keys) k []) (same-back nogood (items key) same) has) in
        list_any_at (eq key) keys k key inside ((decides key (get_or keys k key)).1 (equal ∙ here))

    pub is-added : IsAddedNogood (map items keys) (map items new) nogood number
    is-added = either (list_any (eq key) keys) refl where
      either : (b : Bool) → list_any (eq key) keys ≡ b → IsAddedNogood (map items keys) (map items new) nogood number
      either true has =
          let old : new ≡ keys = is ∙ kept has in
          let before : number < length (map items keys) = omega (arith, there, ap (λ ks. length (map items ks)) old) in
          record {
            there = there;
            same = is_same;
            before = λ _. ap (map items) old;
            last = λ past. absurd (omega (arith, past, before));
            first = λ k within same_bounds. before;
          }
        where
          kept : list_any (eq key) keys ≡ true → insert_key eq keys key ≡ keys
          kept passes = rw passes refl
      either false lacks =
          let longer : new ≡ keys ++ key ∷ [] = is ∙ more lacks in
          let count = ap length longer ∙ length-append keys (key ∷ []) in
          let last : number ≡ length (map items keys) = elim (cases_lt number (length keys)) [
            | inl old ↦
                let at_old : get_or keys number stored.0 ≡ stored.0 =
                sym (get_or_append_left keys (key ∷ []) stored.0 number old)
                ∙ ap (λ ks. get_or ks number stored.0) (sym longer)
                ∙ get_or_from_slice_get new number stored.0 stored.0 stored.1 in
                let yes = list_any_at (eq key) keys number stored.0 old (ap (eq key) at_old ∙ stored.2) in
                let differ : true ≡ false = sym yes ∙ lacks in
                absurd cc
            | inr past ↦ omega (arith, past, count, slice_get_within new number stored.0 stored.1, length-map keys items)
          ] in
          let lists : map items new ≡ map items keys ++ items key ∷ [] = ap (map items) longer ∙ map_push items keys key in
          record {
            there = there;
            same = is_same;
            before = λ less. absurd (omega (arith, less, last));
            last = λ past. (
              last,
              lists ∙ ap (λ l. map items keys ++ l ∷ []) ((decides key stored.0).0 stored.2 ∙ sym at),
            );
            first = λ k within same_bounds.
                let differ : true ≡ false = sym (found k within same_bounds) ∙ lacks in
                absurd cc;
          }
        where
          more : list_any (eq key) keys ≡ false → insert_key eq keys key ≡ keys ++ key ∷ []
          more no_key = rw no_key refl

-- one key more at most
pub few-inserted : {K : Type 0} (items : K → List Bound) (eq : K → K → Bool) (keys : List K) (key : K) (new : List K) →
    new ≡ insert_key eq keys key → length (map items new) ≤ length (map items keys) + 1
few-inserted items eq keys key new is = subst (λ ks. length (map items ks) ≤ length (map items keys) + 1) (sym is)
    (either (list_any (eq key) keys) refl) where
      either : (b : Bool) → list_any (eq key) keys ≡ b → length (map items (insert_key eq keys key)) ≤ length (map items keys) + 1
      either true there = rw there (omega arith)
      either false there = rw there
          (omega (arith, length-map (keys ++ key ∷ []) items, length-map keys items, length-append keys (key ∷ [])))
