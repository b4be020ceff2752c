-- All sections of a document together make at most as many cuts as the searches of one section of its own table, and of one of
-- each nested table at each width from 1 to the page's. The sections of a nested table have falling widths, and that at width 0
-- makes no cut.
use Rattle.std.proofs.Common.{◌≡◌, ◌∙◌, ℕ, zero, suc, ◌+◌, ◌-◌, ◌*◌, ◌<◌, ◌≤◌, List, length, get_or, take, Option, Some}
use Rattle.std.proofs.Common.{None, refl, sym, ap, subst, arith}
use Rattle.std.proofs.lemmas.List.{take_all}
use Rattle.std.proofs.lemmas.List.Sums.{sum_by_more}
use Rattle.tl_problem.proofs.AreaLaws.{times_le}
use Rattle.tl_cert.specs.declared.section.Section.{Section}
use Rattle.tl_cert.proofs.TextSizes.{cuts_in}
use Rattle.tl_cert.proofs.UncutPages.{no_cut}
use Rattle.tl_form.specs.Expected.{Document, Due, own_number, least_of, first_due, next_width, due_in, next_due, placed_width}
use Rattle.tl_form.specs.Expected.{due_after}
use Rattle.tl_form.specs.Valid.{IsGood, AreGoodBelow}
use Rattle.tl_form.proofs.DueLaws.{MayBeDue, by_next, due_next, due_after-more, may_be_due, next_falls, one_before}
use Rattle.tl_form.proofs.DueProblems.{good_follows}
use Rattle.tl_form.proofs.ValidLaws.{no_section}

-- ---- sums

stays : (cuts next all budget : ℕ) → cuts ≡ 0 → next ≤ all → cuts + next * budget ≤ all * budget
stays cuts next all budget none less = omega (arith, none, times_le next all budget less)

falls : (cuts next all budget : ℕ) → cuts ≤ budget → next + 1 ≤ all → cuts + next * budget ≤ all * budget
falls cuts next all budget upto less =
    let more : (next + 1) * budget ≡ next * budget + budget = omega arith in
    omega (arith, more, upto, times_le (next + 1) all budget less)

sums : (before cuts next now first : ℕ) → before + now ≤ first → cuts + next ≤ now → before + cuts + next ≤ first
sums before cuts next now first so_far less = omega (arith, so_far, less)

rest : (cuts nested page budget : ℕ) → cuts + page * budget ≤ (nested + page + 1) * budget → cuts ≤ (1 + nested) * budget
rest cuts nested page budget all =
    let parts : (nested + page + 1) * budget ≡ (1 + nested) * budget + page * budget = omega arith in
    omega (arith, all, parts)

-- ---- one section

-- how many sections that make cuts may still follow, the one that is due counted, and as many more as the page has columns
abbrev cutting_left : Document → Option Due → ℕ
cutting_left document None = document.page
cutting_left document (Some now) = (now.table - own_number document) * document.page + now.width + 1

module _ (document : Document) (now : Due) (may : MayBeDue document now) (placed : ℕ) (within : placed ≤ now.width) where
  -- a section leaves one less, and one at width 0 no more
  left_falls : (one : ℕ) → one ≤ 1 → one ≤ now.width →
      cutting_left document (next_due document now.table placed) + one ≤ cutting_left document (Some now)
  left_falls one few some = by_next document now.table placed
      (λ next. cutting_left document next + one ≤ cutting_left document (Some now))
      (λ same. omega (arith, may.whole same, few))
      (λ other. by_width other (next_width (least_of document now.table) placed) refl)
    where
      by_width : (now.table ≡ own_number document → ⊥) → (width : Option ℕ) →
          next_width (least_of document now.table) placed ≡ width →
          cutting_left document (Some (due_in document now.table width)) + one ≤ cutting_left document (Some now)
      by_width other None is =
          let before = now.table - 1 - own_number document in
          let left : (now.table - own_number document) * document.page ≡ before * document.page + document.page =
          ap (λ (n : ℕ). n * document.page) (one_before (own_number document) now.table may.from other) ∙ omega arith in
          omega (arith, left, some)
      by_width other (Some width) is = omega (arith, next_falls (least_of document now.table) placed width is, within, few)

  -- so the cuts of a section are among those that it takes from what may still be made
  cuts_fall : (cuts budget : ℕ) → cuts ≤ budget → (now.width ≡ 0 → cuts ≡ 0) →
      cuts + cutting_left document (next_due document now.table placed) * budget ≤ cutting_left document (Some now) * budget
  cuts_fall cuts budget upto none = by_width now.width refl
    where
      next : ℕ
      next = cutting_left document (next_due document now.table placed)

      by_width : (width : ℕ) → now.width ≡ width → cuts + next * budget ≤ cutting_left document (Some now) * budget
      by_width zero narrow = stays cuts next (cutting_left document (Some now)) budget (none narrow)
          (omega (arith, left_falls 0 (omega arith) (omega arith)))
      by_width (suc width) wide = falls cuts next (cutting_left document (Some now)) budget upto
          (left_falls 1 (omega arith) (omega (arith, wide)))

-- ---- all sections

module _ (document : Document) (budget : ℕ) (sections : List Section) (some : own_number document ≤ document.last)
    (good : AreGoodBelow document budget sections (length sections)) where
  one_more : (section : Section) (before : List Section) → IsGood document budget before section →
      length section.trace + cutting_left document (due_next document (due_after document before) section) * budget
      ≤ cutting_left document (due_after document before) * budget
  one_more section before is = subst (λ (due : Option Due). length section.trace
      + cutting_left document (due_next document due section) * budget ≤ cutting_left document due * budget) (sym is.due)
      (cuts_fall document (record { table = section.table; width = section.width })
      (may_be_due document before (record { table = section.table; width = section.width }) some is.due)
      (placed_width document.style section) (good_follows document budget before section is).within
      (length section.trace) budget is.traced.within
      (λ narrow. no_cut is.problem section.trace (is.laid.own.made.wide ∙ narrow) is.traced.trace_of))

  cuts_below : (n : ℕ) → n ≤ length sections →
      cuts_in (take n sections) + cutting_left document (due_after document (take n sections)) * budget
      ≤ cutting_left document (Some (first_due document document.last)) * budget
  cuts_below zero within = omega arith
  cuts_below (suc n) within =
      let section = get_or sections n no_section in
      let less : n < length sections = omega (arith, within) in
      let joined = sums (cuts_in (take n sections)) (length section.trace)
      (cutting_left document (due_next document (due_after document (take n sections)) section) * budget)
      (cutting_left document (due_after document (take n sections)) * budget)
      (cutting_left document (Some (first_due document document.last)) * budget)
      (cuts_below n (omega (arith, within))) (one_more section (take n sections) (good n no_section less)) in
      let same : n + 1 ≡ suc n = omega arith in
      subst (λ (many : ℕ). cuts_in (take many sections)
      + cutting_left document (due_after document (take many sections)) * budget
      ≤ cutting_left document (Some (first_due document document.last)) * budget) same
      (subst (λ (due : Option Due). cuts_in (take (n + 1) sections) + cutting_left document due * budget
      ≤ cutting_left document (Some (first_due document document.last)) * budget)
      (sym (due_after-more document sections n no_section less))
      (subst (λ (cuts : ℕ). cuts + cutting_left document (due_next document (due_after document (take n sections)) section) * budget
      ≤ cutting_left document (Some (first_due document document.last)) * budget)
      (sym (sum_by_more (λ (one : Section). length one.trace) sections n no_section less)) joined))

  -- they are at most as many as the searches together may make
  pub cuts_within : due_after document sections ≡ None →
      cuts_in sections ≤ (1 + (document.last - own_number document) * document.page) * budget
  cuts_within none =
      let whole = take_all (length sections) sections (omega arith) in
      let below = subst (λ (all : List Section). cuts_in all + cutting_left document (due_after document all) * budget
      ≤ cutting_left document (Some (first_due document document.last)) * budget) whole (cuts_below (length sections) (omega arith)) in
      rest (cuts_in sections) ((document.last - own_number document) * document.page) document.page budget
      (subst (λ (due : Option Due). cuts_in sections + cutting_left document due * budget
      ≤ cutting_left document (Some (first_due document document.last)) * budget) none below)
