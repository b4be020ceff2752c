-- Sections in order: the one that is due is as wide as its table needs at least, whatever those before it are, and its widths
-- are those of a text.
use Rattle.std.proofs.Common.{◌≡◌, ◌∙◌, ℕ, zero, suc, ◌+◌, ◌-◌, ◌<◌, ◌≤◌, Bool, if◌then◌else◌, List, [], ◌∷◌, ◌++◌}
use Rattle.std.proofs.Common.{inl, inr, length, get_or, take, Option, None, Some, option_map, codes, sum, ◌*◌, ◌^◌, refl}
use Rattle.std.proofs.Common.{sym, ap, subst, arith}
use Rattle.std.specs.List.{AllByRecursion, flat_map}
use Rattle.std.proofs.lemmas.Bool.{cases_eq, cases_lt, eq-eqb, ne_eqb}
use Rattle.std.proofs.lemmas.List.{get_or_default}
use Rattle.std.proofs.lemmas.List.Concat.{flat_map-cons}
use Rattle.std.proofs.lemmas.Option.{same_Some, none-some}
use Rattle.tl_base.specs.declared.limits.TheConstants.{MAX_BUDGET, MAX_COLUMNS, MAX_PAGE_WIDTH}
use Rattle.tl_base.specs.Sizes.{total}
use Rattle.tl_base.proofs.Sums.{sum-cons}
use Rattle.tl_problem.proofs.AreaLaws.{times_le}
use Rattle.tl_problem.proofs.Heights.{test_le, test_le_false}
use Rattle.tl_cert.specs.declared.certificate.Certificate.{Certificate}
use Rattle.tl_cert.specs.declared.section.Section.{Section}
use Rattle.tl_cert.specs.Pieces.{AllWithin, field, word}
use Rattle.tl_cert.specs.Text.{IsWritable, space, line_feed, spaced, cut_pieces, line_pieces, section_head, section_pieces}
use Rattle.tl_cert.specs.Text.{chain_pieces, claim_pieces, version_word, style_field, has_area}
use Rattle.tl_cert.proofs.reading.Spellings.{within-first, within-second}
use Rattle.tl_form.specs.declared.subject.Due.{Due}
use Rattle.tl_form.specs.Expected as expected
use Rattle.tl_form.specs.Expected.{Document, IsDue, own_number, least_of, first_due, next_width, due_in, next_due}
use Rattle.tl_form.specs.Expected.{placed_width, AreDueInOrder}
use Rattle.tl_form.specs.Expected.{due_from, due_after}
use Rattle.tl_form.specs.Subjects.{due_of}
use Rattle.tl_form.proofs.DueLaws.{MayBeDue, due_after-more, due_next, first_may, next_may}
use Rattle.tl_verify.specs.inner.Sections.{IsInOrderTo, IsDueOrder}

-- ---- what is due is wide enough

wide_enough : (least placed width : ℕ) → next_width least placed ≡ Some width → least ≤ width
wide_enough least zero width is = absurd (none-some _ is)
wide_enough least (suc narrower) width is = elim (cases_lt narrower least) [
  | inl less ↦ absurd (none-some _ (sym (ap (λ (b : Bool). if b then Some narrower else None)
      (test_le_false least narrower less)) ∙ is))
  | inr more ↦
      let same : narrower ≡ width =
      same_Some _ _ (sym (ap (λ (b : Bool). if b then Some narrower else None) (test_le least narrower more)) ∙ is) in
      omega (arith, same, more)
]

nothing_due : (document : Document) (sections : List Section) (next : expected.Due) →
    due_from document None sections ≡ Some next → ⊥
nothing_due document [] next is = cc
nothing_due document (one ∷ sections) next is = cc

module _ (document : Document) (some : own_number document ≤ document.last)
    (leasts : (number : ℕ) → own_number document ≤ number → number ≤ document.last →
    least_of document number ≤ document.page) where
  -- a section of a table of the document, no narrower than that needs
  record CanBeDue (now : expected.Due) : Type 0 where
    pub may : MayBeDue document now
    pub wide : least_of document now.table ≤ now.width

  by_width : (number placed : ℕ) (width : Option ℕ) → own_number document < number → number ≤ document.last →
      next_width (least_of document number) placed ≡ width →
      least_of document (due_in document number width).table ≤ (due_in document number width).width
  by_width number placed None past upto is = leasts (number - 1) (omega (arith, past)) (omega (arith, upto))
  by_width number placed (Some width) past upto is = wide_enough (least_of document number) placed width is

  next_can : (now : expected.Due) (placed : ℕ) (next : expected.Due) → CanBeDue now →
      next_due document now.table placed ≡ Some next → CanBeDue next
  next_can now placed next can is = record {
    may = next_may document now.table placed next can.may.from can.may.upto is;
    wide = elim (cases_eq now.table (own_number document)) [
      | inl same ↦ absurd (none-some _ (sym (ap (λ (b : Bool). if b then None else Some (due_in document now.table
          (next_width (least_of document now.table) placed))) (eq-eqb now.table (own_number document) same)) ∙ is))
      | inr other ↦
          let due : due_in document now.table (next_width (least_of document now.table) placed) ≡ next =
          same_Some _ _ (sym (ap (λ (b : Bool). if b then None else Some (due_in document now.table
          (next_width (least_of document now.table) placed))) (ne_eqb now.table (own_number document) other)) ∙ is) in
          let past : own_number document < now.table = elim (cases_lt (own_number document) now.table) [
            | inl before ↦ before
            | inr same ↦ absurd (other (omega (arith, same, can.may.from)))
          ] in
          subst (λ (one : expected.Due). least_of document one.table ≤ one.width) due
          (by_width now.table placed (next_width (least_of document now.table) placed) past can.may.upto refl)
    ];
  }

  can_from : (due : Option expected.Due) (next : expected.Due) (sections : List Section) →
      ((now : expected.Due) → due ≡ Some now → CanBeDue now) → due_from document due sections ≡ Some next → CanBeDue next
  can_from due next [] can is = can next is
  can_from None next (section ∷ sections) can is = absurd (nothing_due document (section ∷ sections) next is)
  can_from (Some now) next (section ∷ sections) can is =
      can_from (next_due document now.table (placed_width document.style section)) next sections
      (λ one same. next_can now (placed_width document.style section) one (can now refl) same) is

  -- what is due after sections is as wide as its table needs at least
  pub after_wide : (sections : List Section) (now : expected.Due) → due_after document sections ≡ Some now →
      least_of document now.table ≤ now.width
  after_wide sections now is =
      (can_from (Some (first_due document document.last)) now sections
      (λ one same. subst CanBeDue (same_Some _ _ same)
      (record { may = first_may document some; wide = leasts document.last some (omega arith) })) is).wide

-- ---- the order so far

module _ (document : Document) (sections : List Section) where
  pub order_none : (first : Due) → due_of first ≡ first_due document document.last →
      IsInOrderTo document sections 0 (option_map due_of (Some first))
  order_none first is = record {
    within = omega arith;
    each = λ i d less. absurd (omega (arith, less));
    next = ap Some (sym is);
  }

  pub order_more : (number : ℕ) (due next : Option Due) (now : Due) (placed : ℕ) (section : Section) →
      number < length sections →
      IsInOrderTo document sections number (option_map due_of due) → due ≡ Some now →
      section ≡ get_or sections number section → section.table ≡ now.table → section.width ≡ now.width →
      placed ≡ placed_width document.style section →
      option_map due_of next ≡ next_due document now.table placed →
      IsInOrderTo document sections (number + 1) (option_map due_of next)
  order_more number due next now placed section there to is at table width wide follows = record {
    within = omega (arith, there);
    each = λ i d less. elim (cases_lt i number) [
      | inl before ↦ to.each i d before
      | inr last ↦
          let same : number ≡ i = omega (arith, last, less) in
          subst (λ k. IsDue document (take k sections) (get_or sections k d)) same
          (subst (λ (one : Section). IsDue document (take number sections) one)
          (at ∙ sym (get_or_default sections number d section there))
          (due_now ∙ λ j. Some (record { table = sym table j; width = sym width j })))
    ];
    next =
        due_after-more document sections number section there
        ∙ ap (λ o. due_next document o (get_or sections number section)) due_now
        ∙ ap (λ (one : Section). next_due document now.table (placed_width document.style one)) (sym at)
        ∙ ap (next_due document now.table) (sym wide) ∙ sym follows;
  } where
    due_now : due_after document (take number sections) ≡ Some (due_of now)
    due_now = to.next ∙ ap (option_map due_of) is

  -- nothing is due, and so nothing follows
  pub order_ends : (number : ℕ) (due : Option Due) → IsInOrderTo document sections number (option_map due_of due) →
      due ≡ None → IsDueOrder document sections number (option_map due_of due)
  order_ends number due to is = record {
    to = to;
    stops = λ d within is_due. none-some _ (sym (to.next ∙ ap (option_map due_of) is) ∙ is_due);
  }

  -- another section follows than the one that is due
  pub order_breaks : (number : ℕ) (due : Option Due) (now : Due) (section : Section) →
      IsInOrderTo document sections number (option_map due_of due) → due ≡ Some now →
      section ≡ get_or sections number section → (section.table ≡ now.table → section.width ≡ now.width → ⊥) →
      IsDueOrder document sections number (option_map due_of due)
  order_breaks number due now section to is at other = record {
    to = to;
    stops = λ d within is_due.
        let same : get_or sections number d ≡ section = get_or_default sections number d section within ∙ sym at in
        let both = same_Some _ _ (sym (to.next ∙ ap (option_map due_of) is) ∙ is_due) in
        other (sym (ap (λ (one : expected.Due). one.table) both ∙ ap (λ (s : Section). s.table) same))
        (sym (ap (λ (one : expected.Due). one.width) both ∙ ap (λ (s : Section). s.width) same));
  }

  -- all sections are in order
  pub order_all : (number : ℕ) (due : Option Due) → length sections ≤ number →
      IsInOrderTo document sections number (option_map due_of due) → IsDueOrder document sections number (option_map due_of due)
  order_all number due end to = record { to = to; stops = λ d within is_due. omega (arith, within, end) }

-- ---- the widths of a section that has a text

widths_within : (widths : List ℕ) → AllWithin (flat_map (spaced MAX_PAGE_WIDTH) widths) →
    AllByRecursion (λ width. width ≤ MAX_PAGE_WIDTH) widths
widths_within [] all = tt
widths_within (width ∷ widths) all =
    let both = subst AllWithin (flat_map-cons (spaced MAX_PAGE_WIDTH) width widths) all in (
      (within-first (spaced MAX_PAGE_WIDTH width) (flat_map (spaced MAX_PAGE_WIDTH) widths) both).1.0.1,
      widths_within widths
          (within-second (spaced MAX_PAGE_WIDTH width) (flat_map (spaced MAX_PAGE_WIDTH) widths) both),
    )

of_section : (section : Section) → AllWithin (section_pieces section) →
    AllByRecursion (λ width. width ≤ MAX_PAGE_WIDTH) section.widths
of_section section all =
    let from_cuts = flat_map cut_pieces section.trace ++ flat_map line_pieces section.log in
    let from_end = word (codes "\n") ++ from_cuts in
    let from_widths = flat_map (spaced MAX_PAGE_WIDTH) section.widths ++ from_end in
    widths_within section.widths
    (within-first (flat_map (spaced MAX_PAGE_WIDTH) section.widths) from_end
    (within-second (word (codes "widths")) from_widths
    (within-second (section_head section) (word (codes "widths") ++ from_widths) all)))

of_sections : (sections : List Section) (i : ℕ) (d : Section) → i < length sections →
    AllWithin (flat_map section_pieces sections) →
    AllByRecursion (λ width. width ≤ MAX_PAGE_WIDTH) (get_or sections i d).widths
of_sections [] i d within all = absurd (omega arith)
of_sections (section ∷ sections) zero d within all =
    of_section section (within-first (section_pieces section) (flat_map section_pieces sections)
    (subst AllWithin (flat_map-cons section_pieces section sections) all))
of_sections (section ∷ sections) (suc i) d within all =
    of_sections sections i d (omega arith)
    (within-second (section_pieces section) (flat_map section_pieces sections)
    (subst AllWithin (flat_map-cons section_pieces section sections) all))

-- each is at most a page
pub narrow_widths : (certificate : Certificate) → IsWritable certificate → (i : ℕ) (d : Section) →
    i < length certificate.sections →
    AllByRecursion (λ width. width ≤ MAX_PAGE_WIDTH) (get_or certificate.sections i d).widths
narrow_widths c written i d within =
    let sections = flat_map section_pieces c.sections ++ word (codes "end\n") in
    let chains = flat_map chain_pieces c.chains ++ sections in
    let claim = claim_pieces c.claim ++ chains in
    let budget = field 0 MAX_BUDGET c.budget line_feed ++ claim in
    let style = word (style_field c.style) ++ budget in
    let width = field 1 MAX_PAGE_WIDTH c.width space ++ style in
    let version = word (version_word (has_area c.sections)) ++ width in
    of_sections c.sections i d within
    (within-first (flat_map section_pieces c.sections) (word (codes "end\n"))
    (within-second (flat_map chain_pieces c.chains) sections
    (within-second (claim_pieces c.claim) chains
    (within-second (field 0 MAX_BUDGET c.budget line_feed) claim
    (within-second (word (style_field c.style)) budget
    (within-second (field 1 MAX_PAGE_WIDTH c.width space) style
    (within-second (word (version_word (has_area c.sections))) width
    (within-second (word (codes "tablelayout ")) version written.1))))))))

-- so they take few columns in all
pub total_fits : (gap edge : ℕ) (widths : List ℕ) → gap ≤ 2 → edge ≤ 2 → length widths ≤ MAX_COLUMNS →
    AllByRecursion (λ width. width ≤ MAX_PAGE_WIDTH) widths → total gap edge widths < 2 ^ 32
total_fits gap edge [] small thin few narrow = omega arith
total_fits gap edge (width ∷ widths) small thin few narrow =
    let sums = sum_fits widths narrow.1 in
    let gaps = times_le gap 2 (length widths) small in
    omega (arith, narrow.0, sums, gaps, few, thin)
  where
    sum_fits : (widths : List ℕ) → AllByRecursion (λ width. width ≤ MAX_PAGE_WIDTH) widths →
        sum widths ≤ MAX_PAGE_WIDTH * length widths
    sum_fits [] narrow = omega arith
    sum_fits (width ∷ widths) narrow = omega (arith, sum-cons width widths, narrow.0, sum_fits widths narrow.1)
