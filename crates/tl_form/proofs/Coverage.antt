-- Which widths of a nested table the sections so far tell of: all from its least width up to the page where its sections are
-- done, and those above the width that is due where they are not.
use Rattle.std.proofs.Common.{◌≡◌, ◌∙◌, ℕ, zero, suc, ◌+◌, ◌-◌, ◌<◌, ◌≤◌, Bool, if◌then◌else◌, List, [], ◌∷◌, ◌++◌}
use Rattle.std.proofs.Common.{inl, inr, length, get_or, take, Option, None, Some, Contains, refl, sym, ap, subst, arith}
use Rattle.std.proofs.lemmas.Bool.{cases_eq, cases_lt, eq-eqb, ne_eqb}
use Rattle.std.proofs.lemmas.List.{take_more}
use Rattle.std.proofs.lemmas.List.Elements.{Contains-push, Contains-append_left}
use Rattle.std.proofs.lemmas.Option.{same_Some, none-some}
use Rattle.tl_base.specs.declared.style.Style.{Style}
use Rattle.tl_problem.proofs.Heights.{test_le, test_le_false}
use Rattle.tl_cert.specs.declared.section.Section.{Section}
use Rattle.tl_form.specs.Expected.{Document, Due, own_number, least_of, first_due, next_width, due_in, next_due, placed_width}
use Rattle.tl_form.specs.Expected.{due_after, IsDue}
use Rattle.tl_form.proofs.DueLaws.{MayBeDue, due_next, due_after-more, first_may, next_may}

-- a section of the table tells of this width: its page is at least so wide, and its placement no wider
pub record Tells (style : Style) (number w : ℕ) (section : Section) : Type 0 where
  pub of : section.table ≡ number
  pub wide : w ≤ section.width
  pub narrow : placed_width style section ≤ w

abbrev pub AreTold : Style → List Section → ℕ → ℕ → Type 0
AreTold style sections number w = (section : Section) × Contains sections section × Tells style number w section

-- the tables above the one that is due are told of at all widths, and that one above the width that is due
pub record IsCovered (document : Document) (sections : List Section) (now : Due) : Type 0 where
  pub upto : now.width ≤ document.page
  pub from : least_of document now.table ≤ now.width
  pub above : (number w : ℕ) → now.table < number → number ≤ document.last → least_of document number ≤ w → w ≤ document.page →
      AreTold document.style sections number w
  pub own : (w : ℕ) → now.width < w → w ≤ document.page → AreTold document.style sections now.table w

-- ---- one more section

pub more_told : (style : Style) (sections : List Section) (section : Section) (number w : ℕ) → AreTold style sections number w →
    AreTold style (sections ++ section ∷ []) number w
more_told style sections section number w (one, has, tells) = (one, Contains-append_left sections (section ∷ []) one has, tells)

next_none : (least placed : ℕ) → next_width least placed ≡ None → placed ≤ least
next_none least zero is = omega arith
next_none least (suc narrower) is = elim (cases_lt narrower least) [
  | inl less ↦ omega (arith, less)
  | inr more ↦ absurd (none-some _ (sym is ∙ ap (λ (b : Bool). if b then Some narrower else None) (test_le least narrower more)))
]

next_some : (least placed width : ℕ) → next_width least placed ≡ Some width → (width + 1 ≡ placed) × (least ≤ width)
next_some least zero width is = absurd (none-some _ is)
next_some least (suc narrower) width is = elim (cases_lt narrower least) [
  | inl less ↦ absurd (none-some _ (sym (ap (λ (b : Bool). if b then Some narrower else None)
      (test_le_false least narrower less)) ∙ is))
  | inr more ↦
      let same : narrower ≡ width =
      same_Some _ _ (sym (ap (λ (b : Bool). if b then Some narrower else None) (test_le least narrower more)) ∙ is) in
      (omega (arith, same), omega (arith, same, more))
]

module _ (document : Document) (leasts : (number : ℕ) → own_number document ≤ number → number ≤ document.last →
    least_of document number ≤ document.page) where
  pub first_covered : own_number document ≤ document.last → IsCovered document [] (first_due document document.last)
  first_covered some = record {
    upto = omega arith;
    from = leasts document.last some (omega arith);
    above = λ number w past within least narrow. absurd (omega (arith, past, within));
    own = λ w past within. absurd (omega (arith, past, within));
  }

  module _ (sections : List Section) (now : Due) (covered : IsCovered document sections now) (may : MayBeDue document now)
      (section : Section)
      (of : section.table ≡ now.table) (wide : section.width ≡ now.width)
      (within : placed_width document.style section ≤ section.width) where
    abbrev after : List Section
    after = sections ++ section ∷ []

    abbrev placed : ℕ
    placed = placed_width document.style section

    here : (w : ℕ) → placed ≤ w → w ≤ document.page → AreTold document.style after now.table w
    here w narrow upto = elim (cases_lt now.width w) [
      | inl past ↦ more_told document.style sections section now.table w (covered.own w past upto)
      | inr more ↦ (
        section,
        Contains-push sections section,
        record { of = of; wide = omega (arith, wide, more); narrow = narrow },
      )
    ]

    by_width : (width : Option ℕ) → next_width (least_of document now.table) placed ≡ width →
        (now.table ≡ own_number document → ⊥) →
        IsCovered document after (due_in document now.table width)
    by_width None is other = record {
      upto = omega arith;
      from = leasts (now.table - 1) (omega (arith, less)) (omega (arith, may.upto));
      above = λ number w past upto least narrow. elim (cases_lt now.table number) [
        | inl more ↦ more_told document.style sections section number w (covered.above number w more upto least narrow)
        | inr last ↦
            let same : now.table ≡ number = omega (arith, past, last, less) in
            let from : least_of document now.table ≤ w = subst (λ n. least_of document n ≤ w) (sym same) least in
            subst (λ n. AreTold document.style after n w) same
            (here w (omega (arith, next_none (least_of document now.table) placed is, from)) narrow)
      ];
      own = λ w past upto. absurd (omega (arith, past, upto));
    } where
      less : own_number document < now.table
      less = elim (cases_lt (own_number document) now.table) [
        | inl before ↦ before
        | inr same ↦ absurd (other (omega (arith, same, may.from)))
      ]
    by_width (Some width) is other =
        let next = next_some (least_of document now.table) placed width is in
        record {
          upto = omega (arith, next.0, within, wide, covered.upto);
          from = next.1;
          above = λ number w past upto least narrow.
              more_told document.style sections section number w (covered.above number w past upto least narrow);
          own = λ w past upto. here w (omega (arith, next.0, past)) upto;
        }

    pub next_covered : (next : Due) → next_due document now.table placed ≡ Some next → IsCovered document after next
    next_covered next is = elim (cases_eq now.table (own_number document)) [
      | inl same ↦ absurd (none-some _ (sym (ap (λ (b : Bool). if b then None else Some (due_in document now.table
          (next_width (least_of document now.table) placed))) (eq-eqb now.table (own_number document) same)) ∙ is))
      | inr other ↦
          let due : due_in document now.table (next_width (least_of document now.table) placed) ≡ next =
          same_Some _ _ (sym (ap (λ (b : Bool). if b then None else Some (due_in document now.table
          (next_width (least_of document now.table) placed))) (ne_eqb now.table (own_number document) other)) ∙ is) in
          subst (IsCovered document after) due (by_width (next_width (least_of document now.table) placed) refl other)
    ]

-- ---- all sections so far

-- the section is the one that is due, and its placement is within its page
pub record Follows (document : Document) (before : List Section) (section : Section) : Type 0 where
  pub due : IsDue document before section
  pub within : placed_width document.style section ≤ section.width

-- what is due after some sections
pub record Stands (document : Document) (sections : List Section) (now : Due) : Type 0 where
  pub covered : IsCovered document sections now
  pub may : MayBeDue document now

module _ (document : Document) (some : own_number document ≤ document.last)
    (leasts : (number : ℕ) → own_number document ≤ number → number ≤ document.last → least_of document number ≤ document.page)
    (sections : List Section) where
  no_section : Section
  no_section = record { table = 0; width = 0; height = 0; lower = 0; widths = []; trace = []; log = [] }

  abbrev due_of : Section → Due
  due_of section = record { table = section.table; width = section.width }

  one_more : (n : ℕ) (section : Section) → n < length sections → section ≡ get_or sections n no_section → n + 1 ≡ suc n →
      Follows document (take n sections) section → Stands document (take n sections) (due_of section) →
      (now : Due) → due_after document (take (suc n) sections) ≡ Some now → Stands document (take (suc n) sections) now
  one_more n section within same one follows stood now is =
      let next : next_due document section.table (placed_width document.style section) ≡ Some now =
      ap (λ due. due_next document due section) (sym follows.due)
      ∙ ap (λ this. due_next document (due_after document (take n sections)) this) same
      ∙ sym (due_after-more document sections n no_section within)
      ∙ ap (λ many. due_after document (take many sections)) one ∙ is in
      subst (λ all. Stands document all now)
      (ap (λ this. take n sections ++ this ∷ []) same ∙ sym (take_more sections n no_section within) ∙ ap
      (λ many. take many sections) one)
      (record {
        covered = next_covered document leasts (take n sections) (due_of section)
            stood.covered stood.may section refl refl follows.within now next;
        may = next_may document section.table (placed_width document.style section) now stood.may.from stood.may.upto next;
      })

  pub stands : (n : ℕ) → n ≤ length sections →
      ((i : ℕ) (d : Section) → i < n → Follows document (take i sections) (get_or sections i d)) →
      (now : Due) → due_after document (take n sections) ≡ Some now → Stands document (take n sections) now
  stands zero within follow now is =
      subst (Stands document []) (same_Some _ _ is) (record {
        covered = first_covered document leasts some;
        may =
            first_may document some;
      })
  stands (suc n) within follow now is =
      let section = get_or sections n no_section in
      let follows = follow n no_section (omega arith) in
      one_more n section (omega (arith, within)) refl (omega arith) follows
      (stands n (omega (arith, within)) (λ i d less. follow i d (omega (arith, less))) (due_of section) follows.due) now is
