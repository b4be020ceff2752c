-- Files that are stored one after the other, and the message after them.
use Rattle.std.proofs.Common.{◌≡◌, inl, inr, ℕ, ◌+◌, ◌<◌, List, [], ◌∷◌, ◌++◌, length, take, drop, map, get_or, Option, Some}
use Rattle.std.proofs.Common.{None}
use Rattle.std.proofs.Common.{refl, sym, ◌∙◌, ap, subst, append_assoc}
use Rattle.std.proofs.lemmas.List.{append-nil, map-append, map_more, take-append-drop}
use Rattle.tl_base.specs.Desk.{Files, Rose, StoresPrefix, SaysPrefix, longer, stored}
use Rattle.tl_program.specs.declared.output.File.{File}
use Rattle.tl_program.specs.declared.status.Status.{Status}
use Rattle.tl_program.specs.Change.{Change, Stored, StoresSome, FailsToStore, with_all, as_stored}
use Rattle.tl_program.specs.Messages.{status_of}
use Rattle.tl_program.specs.Deliveries.{Delivery, told}
use Rattle.tl_program.specs.inner.Printing.{IsPrinted, IsStored, IsDelivered}

-- ---- files stored one after the other

pub after_join : (files : Option Files) (xs ys : List Stored) → with_all files (xs ++ ys) ≡ with_all (with_all files xs) ys
after_join files [] ys = refl
after_join files (x ∷ xs) ys = after_join (stored files x.name x.bytes) xs ys

-- what is stored of some is stored of more
pub some_of_more : (files files_after : Option Files) (xs ys : List Stored) → StoresSome files files_after xs →
    StoresSome files files_after (xs ++ ys)
some_of_more files files_after xs ys is = record {
  done = is.done;
  rest = is.rest ++ ys;
  split = ap (λ (all : List Stored). all ++ ys) is.split ∙ append_assoc is.done is.rest ys;
  stand = is.stand;
}

pub fails_of_more : (files files_after : Option Files) (xs ys : List Stored) → FailsToStore files files_after xs →
    FailsToStore files files_after (xs ++ ys)
fails_of_more files files_after xs ys is = record {
  done = is.done;
  next = is.next;
  rest = is.rest ++ ys;
  split = ap (λ (all : List Stored). all ++ ys) is.split ∙ append_assoc is.done (is.next ∷ is.rest) ys;
  stand = is.stand;
}

-- what is stored after others
pub some_after : (files middle files_after : Option Files) (xs ys : List Stored) → middle ≡ with_all files xs →
    StoresSome middle files_after ys →
    StoresSome files files_after (xs ++ ys)
some_after files middle files_after xs ys same is = record {
  done = xs ++ is.done;
  rest = is.rest;
  split = ap (λ (more : List Stored). xs ++ more) is.split ∙ sym (append_assoc xs is.done is.rest);
  stand = is.stand ∙ ap (λ (f : Option Files). with_all f is.done) same ∙ sym (after_join files xs is.done);
}

pub fails_after : (files middle files_after : Option Files) (xs ys : List Stored) → middle ≡ with_all files xs →
    FailsToStore middle files_after ys →
    FailsToStore files files_after (xs ++ ys)
fails_after files middle files_after xs ys same is = record {
  done = xs ++ is.done;
  next = is.next;
  rest = is.rest;
  split = ap (λ (more : List Stored). xs ++ more) is.split ∙ sym (append_assoc xs is.done (is.next ∷ is.rest));
  stand = subst (λ (f : Option Files). StoresPrefix f files_after is.next.name is.next.bytes)
      (ap (λ (f : Option Files). with_all f is.done) same ∙ sym (after_join files xs is.done)) is.stand;
}

pub some_none : (files : Option Files) (all : List Stored) → StoresSome files files all
some_none files all = record { done = []; rest = all; split = refl; stand = refl }

pub some_all : (files files_after : Option Files) (all : List Stored) → files_after ≡ with_all files all →
    StoresSome files files_after all
some_all files files_after all same = record { done = all; rest = []; split = sym (append-nil all); stand = same }

-- ---- storing and printing, step by step

-- a change, and then another
abbrev pub joined : Change → Change → Change
joined first second = record {
  files = first.files;
  files_after = second.files_after;
  said = first.said;
  said_after = second.said_after;
  load_faults = first.load_faults;
  load_faults_after = second.load_faults_after;
  write_faults = first.write_faults;
  write_faults_after = second.write_faults_after;
}

-- what is stored after others
pub stored_then : (result : Option Status) (first second : Change) (xs ys : List Stored) → first.files_after ≡ second.files →
    first.write_faults_after ≡ second.write_faults → IsStored None first xs → IsStored result second ys →
    IsStored result (joined first second) (xs ++ ys)
stored_then None first second xs ys same few one other = (
  other.0 ∙ ap (λ (f : Option Files). with_all f ys) (sym same ∙ one.0) ∙ sym (after_join first.files xs ys),
  other.1 ∙ sym few ∙ one.1,
)
stored_then (Some status) first second xs ys same few one (inl is) = inl (
  is.0,
  subst (λ (n : ℕ). Rose n second.write_faults_after) (sym few ∙ one.1) is.1,
  fails_after first.files second.files second.files_after xs ys (sym same ∙ one.0) is.2,
)
stored_then (Some status) first second xs ys same few one (inr is) =
    inr (is.0, some_after first.files second.files second.files_after xs ys (sym same ∙ one.0) is.1)

-- where the first could not all be stored, no more is
pub stored_no_more : (status : Status) (change : Change) (xs ys : List Stored) → IsStored (Some status) change xs →
    IsStored (Some status) change (xs ++ ys)
stored_no_more status change xs ys (inl is) =
    inl (is.0, is.1, fails_of_more change.files change.files_after xs ys is.2)
stored_no_more status change xs ys (inr is) = inr (is.0, some_of_more change.files change.files_after xs ys is.1)

-- the next of the files is stored after those before it
pub stored_next : (result : Option Status) (first second : Change) (files : List File) (i : ℕ) (d : File) → i < length files →
    first.files_after ≡ second.files → first.write_faults_after ≡ second.write_faults →
    IsStored None first (map as_stored (take i files)) → IsStored result second (as_stored (get_or files i d) ∷ []) →
    IsStored result (joined first second) (map as_stored (take (i + 1) files))
stored_next result first second files i d within same few one other =
    subst (IsStored result (joined first second)) (sym (map_more as_stored files i d within))
    (stored_then result first second (map as_stored (take i files)) (as_stored (get_or files i d) ∷ []) same few one other)

-- where one could not be, no more is
pub stored_up_to : (status : Status) (change : Change) (files : List File) (i : ℕ) →
    IsStored (Some status) change (map as_stored (take i files)) → IsStored (Some status) change (map as_stored files)
stored_up_to status change files i is =
    subst (IsStored (Some status) change)
    (sym (map-append as_stored (take i files) (drop i files)) ∙ ap (map as_stored) (take-append-drop i files))
    (stored_no_more status change (map as_stored (take i files)) (map as_stored (drop i files)) is)

-- where not all could be stored, nothing is printed
pub stopped : (result : Status) (change : Change) (delivery : Delivery) → change.said_after ≡ change.said →
    IsStored (Some result) change delivery.stores → IsDelivered result change delivery
stopped result change delivery said (inl is) = inr (inl (is.0, is.1, inl (is.2, said)))
stopped result change delivery said (inr is) = inr (inr (is.0, said, is.1))

-- all is stored, and the message is printed or not
pub printed_last : (result : Status) (change third : Change) (delivery : Delivery) →
    change.files_after ≡ with_all change.files delivery.stores →
    third.write_faults ≡ change.write_faults → third.write_faults_after ≡ change.write_faults_after → third.said ≡ change.said →
    third.said_after ≡ change.said_after → IsPrinted (status_of delivery.report) result third (told delivery) →
    IsDelivered result change delivery
printed_last result change third delivery stored few count said said_after (inl is) = inl (
  is.0,
  stored,
  sym said_after ∙ is.1 ∙ ap (λ (s : Option (List ℕ)). longer s (told delivery)) said,
)
printed_last result change third delivery stored few count said said_after (inr (inl is)) = inr (inl (
  is.0,
  subst (λ (n : ℕ). Rose n change.write_faults_after) few (subst (Rose third.write_faults) count is.1),
  inr (
    stored,
    subst (λ (s : Option (List ℕ)). SaysPrefix s change.said_after (told delivery)) said
        (subst (λ (s : Option (List ℕ)). SaysPrefix third.said s (told delivery)) said_after is.2),
  ),
))
printed_last result change third delivery stored few count said said_after (inr (inr is)) = inr (inr (
  is.0,
  sym said_after ∙ is.1 ∙ said,
  some_all change.files change.files_after delivery.stores stored,
))

-- what is delivered after a load is delivered by the whole
pub delivered_from : (result : Status) (change other : Change) (delivery : Delivery) → other.files ≡ change.files →
    other.files_after ≡ change.files_after →
    other.said ≡ change.said → other.said_after ≡ change.said_after → other.write_faults ≡ change.write_faults →
    other.write_faults_after ≡ change.write_faults_after → IsDelivered result other delivery → IsDelivered result change delivery
delivered_from result change other delivery files files_after said said_after few count is =
    subst (λ (c : Change). IsDelivered result c delivery) same is where
      same : other ≡ record {
        files = change.files;
        files_after = change.files_after;
        said = change.said;
        said_after = change.said_after;
        load_faults = other.load_faults;
        load_faults_after = other.load_faults_after;
        write_faults = change.write_faults;
        write_faults_after = change.write_faults_after;
      }
      same = λ i. record {
        files = files i;
        files_after = files_after i;
        said = said i;
        said_after = said_after i;
        load_faults = other.load_faults;
        load_faults_after = other.load_faults_after;
        write_faults = few i;
        write_faults_after = count i;
      }
