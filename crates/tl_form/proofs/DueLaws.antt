-- Which section is due after some, one at a time; and that the last of all is one of the document's own table on the whole
-- page.
use Rattle.std.proofs.Common.{◌≡◌, ◌∙◌, ℕ, zero, suc, ◌+◌, ◌-◌, ◌<◌, ◌≤◌, Bool, true, false, if◌then◌else◌, ◌==◌, nat_le, List, [], ◌∷◌}
use Rattle.std.proofs.Common.{◌++◌, ◌⊎◌, inl, inr}
use Rattle.std.proofs.Common.{length, get_or, take, Option, None, Some, refl, sym, ap, subst, arith}
use Rattle.std.proofs.lemmas.Bool.{cases_eq, eq-eqb, ne_eqb}
use Rattle.std.proofs.lemmas.List.{take_more}
use Rattle.tl_base.proofs.Options.{Some-same}
use Rattle.tl_cert.specs.declared.section.Section.{Section}
use Rattle.tl_form.specs.Expected.{Document, Due, own_number, least_of, first_due, next_width, due_in, next_due, placed_width}
use Rattle.tl_form.specs.Expected.{due_from, due_after}

-- what is due after one more section
abbrev pub due_next : Document → Option Due → Section → Option Due
due_next document None section = None
due_next document (Some now) section = next_due document now.table (placed_width document.style section)

pub due_from-push : (document : Document) (due : Option Due) (sections : List Section) (section : Section) →
    due_from document due (sections ++ section ∷ []) ≡ due_next document (due_from document due sections) section
due_from-push document None [] section = refl
due_from-push document (Some now) [] section = refl
due_from-push document None (first ∷ sections) section = refl
due_from-push document (Some now) (first ∷ sections) section =
    due_from-push document (next_due document now.table (placed_width document.style first)) sections section

-- after the section with number `i`
pub due_after-more : (document : Document) (sections : List Section) (i : ℕ) (d : Section) → i < length sections →
    due_after document (take (i + 1) sections) ≡ due_next document (due_after document (take i sections)) (get_or sections i d)
due_after-more document sections i d within =
    ap (due_after document) (take_more sections i d within)
    ∙ due_from-push document (Some (first_due document document.last)) (take i sections) (get_or sections i d)

-- ---- what is due next

-- the table's next section, or the first of the table before it; nothing after the document's own table
pub by_next : (document : Document) (number placed : ℕ) (P : Option Due → Type 0) →
    (number ≡ own_number document → P None) →
    ((number ≡ own_number document → ⊥) → P (Some (due_in document number (next_width (least_of document number) placed)))) →
    P (next_due document number placed)
by_next document number placed P none some = elim (cases_eq number (own_number document)) [
  | inl same ↦ subst P (sym (ap after (eq-eqb number (own_number document) same))) (none same)
  | inr other ↦ subst P (sym (ap after (ne_eqb number (own_number document) other))) (some other)
]
  where
    after : Bool → Option Due
    after last = if last then None else Some (due_in document number (next_width (least_of document number) placed))

-- the next width of a table is one less than the placement before took
pub next_falls : (least placed width : ℕ) → next_width least placed ≡ Some width → width + 1 ≡ placed
next_falls least zero width is = absurd (none_some is)
  where
    none_some : {X : Type 0} {x : X} → None ≡ Some x → ⊥
    none_some equal = cc
next_falls least (suc narrower) width is = by_test (nat_le least narrower) is
  where
    by_test : (test : Bool) → (if test then Some narrower else None) ≡ Some width → width + 1 ≡ suc narrower
    by_test true same = let equal : narrower ≡ width = cc in omega (arith, equal)
    by_test false same = absurd cc

-- the table before another one has one table less before it
pub one_before : (own number : ℕ) → own ≤ number → (number ≡ own → ⊥) → number - own ≡ (number - 1 - own) + 1
one_before own number from other = by_left (number - own) refl
  where
    by_left : (k : ℕ) → number - own ≡ k → number - own ≡ (number - 1 - own) + 1
    by_left zero none = absurd (other (omega (arith, none, from)))
    by_left (suc k) some = omega (arith, some)

-- ---- what may be due

-- a section of a table of the document; of its own table on the whole page alone
pub record MayBeDue (document : Document) (now : Due) : Type 0 where
  pub from : own_number document ≤ now.table
  pub upto : now.table ≤ document.last
  pub whole : now.table ≡ own_number document → now.width ≡ document.page

pub first_may : (document : Document) → own_number document ≤ document.last → MayBeDue document (first_due document document.last)
first_may document some = record { from = some; upto = omega arith; whole = λ own. refl }

pub next_may : (document : Document) (number placed : ℕ) (next_one : Due) → own_number document ≤ number →
    number ≤ document.last →
    next_due document number placed ≡ Some next_one → MayBeDue document next_one
next_may document number placed next_one from upto is = by_test (number == own_number document) refl is
  where
    after : (width : Option ℕ) → (number ≡ own_number document → ⊥) → MayBeDue document (due_in document number width)
    after None other = record {
      from = by_less (cases_eq (own_number document) number);
      upto = omega arith;
      whole = λ own. refl;
    } where
      by_less : (own_number document ≡ number) ⊎ (own_number document ≡ number → ⊥) → own_number document ≤ number - 1
      by_less (inl same) = absurd (other (sym same))
      by_less (inr apart) = not_least (number - own_number document) refl
        where
          not_least : (left : ℕ) → number - own_number document ≡ left → own_number document ≤ number - 1
          not_least zero none = absurd (apart (omega (arith, none, from)))
          not_least (suc left) some = omega (arith, some)
    after (Some width) other = record { from = from; upto = upto; whole = λ own. absurd (other own) }

    by_test : (test : Bool) → (number == own_number document) ≡ test →
        (if number == own_number document then None else Some
        (due_in document number (next_width (least_of document number) placed))) ≡ Some next_one →
        MayBeDue document next_one
    by_test true same found = absurd (none_is (subst (λ (b : Bool). (if b then None else Some
        (due_in document number (next_width (least_of document number) placed))) ≡ Some next_one) same found))
      where
        none_is : {X : Type 0} {x : X} → None ≡ Some x → ⊥
        none_is equal = cc
    by_test false same found =
        subst (MayBeDue document) (Some-same (subst (λ (b : Bool). (if b then None else Some
        (due_in document number (next_width (least_of document number) placed))) ≡ Some next_one) same found))
        (after (next_width (least_of document number) placed) (λ equal. apart equal same))
      where
        apart : number ≡ own_number document → (number == own_number document) ≡ false → ⊥
        apart equal fails = elim (cases_eq number (own_number document)) [
          | inl both ↦ true_false (sym (eq-eqb number (own_number document) both) ∙ fails)
          | inr other ↦ other equal
        ]
          where
            true_false : true ≡ false → ⊥
            true_false equal = cc

nothing_due : (document : Document) (sections : List Section) (next_one : Due) →
    due_from document None sections ≡ Some next_one → ⊥
nothing_due document [] next_one is = cc
nothing_due document (one ∷ sections) next_one is = cc

due_may : (document : Document) (due : Option Due) (next_one : Due) (sections : List Section) →
    ((now : Due) → due ≡ Some now → MayBeDue document now) → due_from document due sections ≡ Some next_one →
    MayBeDue document next_one
due_may document due next_one [] may is = may next_one is
due_may document None next_one (section ∷ sections) may is = absurd (nothing_due document (section ∷ sections) next_one is)
due_may document (Some now) next_one (section ∷ sections) may is =
    due_may document (next_due document now.table (placed_width document.style section)) next_one sections
    (λ next same. next_may document now.table (placed_width document.style section) next (may now refl).from
    (may now refl).upto same) is

pub may_be_due : (document : Document) (sections : List Section) (next_one : Due) → own_number document ≤ document.last →
    due_after document sections ≡ Some next_one → MayBeDue document next_one
may_be_due document sections next_one some is =
    due_may document (Some (first_due document document.last)) next_one sections
    (λ now same. subst (MayBeDue document) (Some-same same) (first_may document some)) is

-- nothing is due after a section of the document's own table alone
pub last_is_own : (document : Document) (number placed : ℕ) → next_due document number placed ≡ None →
    number ≡ own_number document
last_is_own document number placed is = elim (cases_eq number (own_number document)) [
  | inl same ↦ same
  | inr other ↦ absurd (some_is (ap (λ (b : Bool). if b then None else Some
      (due_in document number (next_width (least_of document number) placed)))
      (sym (ne_eqb number (own_number document) other)) ∙ is))
]
  where
    some_is : {X : Type 0} {x : X} → Some x ≡ None → ⊥
    some_is equal = cc
