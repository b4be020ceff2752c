-- What storing texts under names leaves: each text under its name, and any other file as it was.
use Rattle.std.proofs.Common.{◌≡◌, ◌≢◌, inl, inr, ℕ, zero, suc, ◌<◌, List, [], ◌∷◌, length, get_or, Option, Some, None}
use Rattle.std.proofs.Common.{◌⊎◌, ◌≤◌, ◌++◌, ◌∙◌, Bool, true, false, Contains, map, refl, sym, ap, subst, take, append-nil, arith}
use Rattle.std.specs.Prelude.{bytes_eq}
use Rattle.std.proofs.lemmas.List.{map-append}
use Rattle.std.proofs.lemmas.Map.{update_other, update_same}
use Rattle.std.proofs.lemmas.Option.{get_or_from_slice_get, same_Some, slice_get-get_or, slice_get_within}
use Rattle.std.proofs.lemmas.Slice.Eq.{bytes_eq-Decides}
use Rattle.std.specs.List.{AllByRecursion, AllPairs, slice_get}
use Rattle.tl_base.proofs.Members.{AllPairs-tail, Contains-cases, Contains-none}
use Rattle.tl_base.specs.Desk.{Files, put, stored}
use Rattle.tl_command.specs.Ask.{AreNames, Asked}
use Rattle.tl_lay.specs.declared.answer.Answer.{Answer}
use Rattle.tl_program.specs.declared.output.File.{File}
use Rattle.tl_program.specs.Change.{Holds, Stored, as_stored, with_all}
use Rattle.tl_program.specs.Asks.{page_name}
use Rattle.tl_program.specs.Deliveries.{delivery_of, files_of, texts_of}
use Rattle.tl_program.proofs.Ends.{other_bytes}

-- ---- one file

-- a file that is stored is there
pub holds_last : (files : Option Files) (name bytes : List ℕ) → Holds (stored files name bytes) name bytes
holds_last None name bytes = tt
holds_last (Some files) name bytes =
    update_same bytes_eq files name (Some bytes) name ((bytes_eq-Decides name name).1 refl)

-- and stays there when another is stored
pub holds_still : (files : Option Files) (name bytes other content : List ℕ) → other ≢ name → Holds files other content →
    Holds (stored files name bytes) other content
holds_still None name bytes other content apart holds = tt
holds_still (Some files) name bytes other content apart holds =
    update_other bytes_eq files name (Some bytes) other (other_bytes name other apart) ∙ holds

-- ---- files

-- none of the files that are stored has this name
abbrev pub HasOtherNames : List ℕ → List Stored → Type 0
HasOtherNames name stores = AllByRecursion (λ one. name ≢ one.name) stores

-- a file that none of them names stays
pub holds_through : (stores : List Stored) (files : Option Files) (name bytes : List ℕ) → HasOtherNames name stores →
    Holds files name bytes → Holds (with_all files stores) name bytes
holds_through [] files name bytes others holds = holds
holds_through (one ∷ stores) files name bytes others holds =
    holds_through stores (stored files one.name one.bytes) name bytes others.1
    (holds_still files one.name one.bytes name bytes others.0 holds)

-- the name is none of these
abbrev pub IsNoneOf : List ℕ → List (List ℕ) → Type 0
IsNoneOf name names = AllByRecursion (λ other. name ≢ other) names

-- then no file under these names has it
pub named_otherwise : (name : List ℕ) (names : List (List ℕ)) (texts : List (Option (List ℕ))) → IsNoneOf name names →
    HasOtherNames name (files_of names texts)
named_otherwise name [] texts others = tt
named_otherwise name (one ∷ names) [] others = tt
named_otherwise name (one ∷ names) (None ∷ texts) others = named_otherwise name names texts others.1
named_otherwise name (one ∷ names) (Some text ∷ texts) others = (others.0, named_otherwise name names texts others.1)

-- of names that are apart the first is none of the others
pub first_apart : (name : List ℕ) (names : List (List ℕ)) → AllPairs (λ one other. one ≢ other) (name ∷ names) →
    IsNoneOf name names
first_apart name names apart = among names (λ i d within. apart 0 (suc i) d (omega arith) (omega (arith, within))) where
  among : (others : List (List ℕ)) → ((i : ℕ) (d : List ℕ) → i < length others → name ≢ get_or others i d) →
      IsNoneOf name others
  among [] each = tt
  among (other ∷ others) each =
      (each 0 [] (omega arith), among others (λ i d within. each (suc i) d (omega (arith, within))))

-- a text that is there is stored under the name at its place
pub text_there : (names : List (List ℕ)) (texts : List (Option (List ℕ))) (files : Option Files) (place : ℕ)
    (name text : List ℕ) → AllPairs (λ one other. one ≢ other) names → slice_get names place ≡ Some name →
    slice_get texts place ≡ Some (Some text) → Holds (with_all files (files_of names texts)) name text
text_there [] texts files place name text apart named is = absurd (none place named) where
  none : (place : ℕ) → slice_get [] place ≡ Some name → ⊥
  none place e = absurd cc
text_there (one ∷ names) [] files place name text apart named is = absurd (none place is) where
  none : (place : ℕ) → slice_get [] place ≡ Some (Some text) → ⊥
  none place e = absurd cc
text_there (one ∷ names) (None ∷ texts) files zero name text apart named is = absurd (none is) where
  none : Some None ≡ Some (Some text) → ⊥
  none e = absurd cc
text_there (one ∷ names) (None ∷ texts) files (suc place) name text apart named is =
    text_there names texts files place name text (AllPairs-tail (λ a b. a ≢ b) one names apart) named is
text_there (one ∷ names) (Some first ∷ texts) files zero name text apart named is =
    subst (λ (n : List ℕ). Holds (with_all (stored files one first) (files_of names texts)) n text) same
    (subst (λ (t : List ℕ). Holds (with_all (stored files one first) (files_of names texts)) one t) texts_same
    (holds_through (files_of names texts) (stored files one first) one first
    (named_otherwise one names texts (first_apart one names apart)) (holds_last files one first))) where
      same : one ≡ name
      same = cc

      texts_same : first ≡ text
      texts_same = cc
text_there (one ∷ names) (Some first ∷ texts) files (suc place) name text apart named is =
    text_there names texts (stored files one first) place name text (AllPairs-tail (λ a b. a ≢ b) one names apart) named is

-- a name without a text is that of none of the files that are stored
pub no_file_named : (names : List (List ℕ)) (texts : List (Option (List ℕ))) (place : ℕ) (name : List ℕ) →
    AllPairs (λ one other. one ≢ other) names → slice_get names place ≡ Some name →
    ((text : List ℕ) → slice_get texts place ≡ Some (Some text) → ⊥) → HasOtherNames name (files_of names texts)
no_file_named [] texts place name apart named none = tt
no_file_named (one ∷ names) [] place name apart named none = tt
no_file_named (one ∷ names) (None ∷ texts) zero name apart named none =
    subst (λ (n : List ℕ). HasOtherNames n (files_of names texts)) (same_Some one name named)
    (named_otherwise one names texts (first_apart one names apart))
no_file_named (one ∷ names) (None ∷ texts) (suc place) name apart named none =
    no_file_named names texts place name (AllPairs-tail (λ a b. a ≢ b) one names apart) named none
no_file_named (one ∷ names) (Some text ∷ texts) zero name apart named none = absurd (none text refl)
no_file_named (one ∷ names) (Some text ∷ texts) (suc place) name apart named none = (
  λ same. apart 0 (suc place) [] (omega arith) (omega (arith, slice_get_within names place name named))
      (sym same ∙ sym (get_or_from_slice_get names place name [] named)),
  no_file_named names texts place name (AllPairs-tail (λ a b. a ≢ b) one names apart) named none,
)

-- a file that none of them names is as it was
pub left_as_it_was : (stores : List Stored) (files after : Files) (name : List ℕ) → HasOtherNames name stores →
    with_all (Some files) stores ≡ Some after → after name ≡ files name
left_as_it_was [] files after name others is = ap (λ (held : Files). held name) (sym (same_Some files after is))
left_as_it_was (one ∷ stores) files after name others is =
    left_as_it_was stores (put one.name one.bytes files) after name others.1 is
    ∙ update_other bytes_eq files one.name (Some one.bytes) name (differ (bytes_eq one.name name) refl) where
      differ : (test : Bool) → bytes_eq one.name name ≡ test → bytes_eq one.name name ≡ false
      differ true same = absurd (others.0 (sym ((bytes_eq-Decides one.name name).0 same)))
      differ false same = same

-- and a file that is stored is one of a text under the name at its place
pub record StandsAt (names : List (List ℕ)) (texts : List (Option (List ℕ))) (one : Stored) : Type 0 where
  pub place : ℕ
  pub named : slice_get names place ≡ Some one.name
  pub is : slice_get texts place ≡ Some (Some one.bytes)

pub stands_at : (names : List (List ℕ)) (texts : List (Option (List ℕ))) (one : Stored) → Contains (files_of names texts) one →
    StandsAt names texts one
stands_at [] texts one there = absurd (Contains-none one there)
stands_at (name ∷ names) [] one there = absurd (Contains-none one there)
stands_at (name ∷ names) (None ∷ texts) one there =
    let rest = stands_at names texts one there in
    record { place = suc rest.place; named = rest.named; is = rest.is }
stands_at (name ∷ names) (Some text ∷ texts) one there =
    elim (Contains-cases (record { name = name; bytes = text }) (files_of names texts) one there) [
      | inl same ↦ record {
        place = 0;
        named = ap (λ (s : Stored). Some s.name) same;
        is = ap (λ (s : Stored). Some (Some s.bytes)) same;
      }
      | inr later ↦
          let rest = stands_at names texts one later in
          record { place = suc rest.place; named = rest.named; is = rest.is }
    ]

-- ---- a page

-- the page of an answer is stored under the second name
pub page_there : (files : Option Files) (asked : Asked) (answer : Answer) (page : List ℕ) → AreNames asked.names →
    2 ≤ length asked.names → slice_get (texts_of answer) 1 ≡ Some (Some page) →
    Holds (with_all files (delivery_of asked answer).stores) (page_name asked) page
page_there files asked answer page are two is = text_there asked.names (texts_of answer) files 1 (page_name asked) page are.apart
    (slice_get-get_or asked.names 1 [] (omega (arith, two))) is

-- ---- one file after the other

-- the file of one text, where it is there
abbrev pub file_of : List ℕ → Option (List ℕ) → List Stored
file_of name None = []
file_of name (Some text) = record { name = name; bytes = text } ∷ []

-- one place more has its file at the end
pub files_and_one : (names : List (List ℕ)) (texts : List (Option (List ℕ))) (n : ℕ) → n < length names → n < length texts →
    files_of (take (suc n) names) (take (suc n) texts)
    ≡ files_of (take n names) (take n texts) ++ file_of (get_or names n []) (get_or texts n None)
files_and_one [] texts n there is = absurd (omega (arith, there))
files_and_one (name ∷ names) [] n there is = absurd (omega (arith, is))
files_and_one (name ∷ names) (None ∷ texts) zero there is = refl
files_and_one (name ∷ names) (Some text ∷ texts) zero there is = refl
files_and_one (name ∷ names) (None ∷ texts) (suc n) there is =
    files_and_one names texts n (omega (arith, there)) (omega (arith, is))
files_and_one (name ∷ names) (Some text ∷ texts) (suc n) there is =
    ap (λ (rest : List Stored). record { name = name; bytes = text } ∷ rest)
    (files_and_one names texts n (omega (arith, there)) (omega (arith, is)))

-- and where one of the lists ends, these are all
pub all_files : (names : List (List ℕ)) (texts : List (Option (List ℕ))) (n : ℕ) →
    (length names ≤ n) ⊎ (length texts ≤ n) → files_of (take n names) (take n texts) ≡ files_of names texts
all_files [] texts zero past = refl
all_files [] texts (suc n) past = refl
all_files (name ∷ names) [] zero past = refl
all_files (name ∷ names) [] (suc n) past = refl
all_files (name ∷ names) (text ∷ texts) zero (inl past) = absurd (omega (arith, past))
all_files (name ∷ names) (text ∷ texts) zero (inr past) = absurd (omega (arith, past))
all_files (name ∷ names) (None ∷ texts) (suc n) past = all_files names texts n (less past) where
  less : (length (name ∷ names) ≤ suc n) ⊎ (length (None ∷ texts) ≤ suc n) → (length names ≤ n) ⊎ (length texts ≤ n)
  less (inl le) = inl (omega (arith, le))
  less (inr le) = inr (omega (arith, le))
all_files (name ∷ names) (Some text ∷ texts) (suc n) past =
    ap (λ (rest : List Stored). record { name = name; bytes = text } ∷ rest) (all_files names texts n (less past)) where
      less : (length (name ∷ names) ≤ suc n) ⊎ (length (Some text ∷ texts) ≤ suc n) →
          (length names ≤ n) ⊎ (length texts ≤ n)
      less (inl le) = inl (omega (arith, le))
      less (inr le) = inr (omega (arith, le))

-- what has been made of the first places, and of one more
module _ (names : List (List ℕ)) (texts : List (Option (List ℕ))) (place : ℕ) (there : place < length names)
    (is : place < length texts) (files : List File)
    (made : map as_stored files ≡ files_of (take place names) (take place texts)) where
  pub made_one : (new : List File) (file : File) (name text : List ℕ) → new ≡ files ++ file ∷ [] →
      get_or names place [] ≡ name → get_or texts place None ≡ Some text → file.name.now ≡ name → file.bytes.now ≡ text →
      (next : ℕ) → next ≡ suc place → map as_stored new ≡ files_of (take next names) (take next texts)
  made_one new file name text grown named held called told next follows =
      ap (map as_stored) grown ∙ map-append as_stored files (file ∷ []) ∙ ap (λ (first : List Stored). first ++ as_stored file ∷ [])
      made ∙ ap (λ (last : List Stored). files_of (take place names) (take place texts) ++ last) (sym one)
      ∙ sym (files_and_one names texts place there is) ∙ ap (λ (n : ℕ). files_of (take n names) (take n texts)) (sym follows)
    where
      one : file_of (get_or names place []) (get_or texts place None) ≡ as_stored file ∷ []
      one = ap (file_of (get_or names place [])) (held ∙ ap Some (sym told))
          ∙ ap (λ (n : List ℕ). file_of n (Some file.bytes.now)) (named ∙ sym called)

  pub made_none : get_or texts place None ≡ None → (next : ℕ) → next ≡ suc place →
      map as_stored files ≡ files_of (take next names) (take next texts)
  made_none held next follows =
      made ∙ sym (append-nil (files_of (take place names) (take place texts)))
      ∙ ap (λ (last : List Stored). files_of (take place names) (take place texts) ++ last)
      (sym (ap (file_of (get_or names place [])) held))
      ∙ sym (files_and_one names texts place there is) ∙ ap (λ (n : ℕ). files_of (take n names) (take n texts)) (sym follows)
