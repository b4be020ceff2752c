-- Reading the sections of a certificate, and its last line, is exact.
use Rattle.std.proofs.Common.{◌≡◌, ℕ, zero, suc, ◌≤◌, Bool, true, false, List, [], ◌∷◌, ◌++◌, length, refl, sym, ap, ◌∙◌}
use Rattle.std.proofs.Common.{append_assoc, arith}
use Rattle.std.specs.List.{flat_map, AllByRecursion}
use Rattle.tl_cert.specs.declared.section.Section.{Section}
use Rattle.tl_cert.specs.declared.areas.Areas.{Areas}
use Rattle.tl_cert.specs.declared.areas.Areas.TheVariants.{Never, Free, Owed}
use Rattle.tl_cert.specs.declared.limits.TheConstants.{MAX_SECTIONS}
use Rattle.tl_cert.specs.Pieces.{TextPiece}
use Rattle.tl_cert.specs.Text.{section_pieces, log_has_area, has_area, IsSectionShaped}
use Rattle.tl_cert.specs.inner.Areas.{Suits, for_part, after}
use Rattle.tl_cert.specs.inner.CertReading.{sections_turn, sections_reading, sections_at}
use Rattle.tl_cert.specs.inner.reading.Lists.{Listing}
use Rattle.tl_cert.proofs.reading.Exact.{Exact}
use Rattle.tl_cert.proofs.reading.Same.{exact_same}
use Rattle.tl_cert.proofs.reading.ListExact.{ListForm, IsListed, list_pieces, Turns, IsExactList, exact_list}
use Rattle.tl_cert.proofs.text.SectionParts.{IsPaid, suits_parts, suits_first, suits_others, paid_at_last, none_owed}
use Rattle.tl_cert.proofs.text.SectionParts.{paid_if_none}
use Rattle.tl_cert.proofs.text.SectionReading.{IsSection, exact_section}
use Rattle.tl_cert.proofs.text.Chains.{exact_end_line, end_line}

abbrev State : Type 0
State = Bool × Areas

abbrev state : Bool → Areas → State
state first areas = (first, areas)

-- a section was read, and nothing is owed
abbrev IsOver : Bool → Areas → Type 0
IsOver true areas = ⊥
IsOver false areas = IsPaid areas

abbrev IsReadyFor : ℕ → State → Type 0
IsReadyFor zero s = IsOver (s.0) (s.1)
IsReadyFor (suc k) s = Unit {0}

abbrev sections_form : ListForm State Section Section (Unit {0})
sections_form = record {
  IsItem = λ k s section. IsSection (for_part k (s.1)) section;
  item_pieces = section_pieces;
  IsStop = λ k s e. IsOver (s.0) (s.1);
  stop_pieces = λ e. end_line;
  lift = λ section sections. section;
  IsReady = IsReadyFor;
}

sections_exact : IsExactList sections_reading sections_form
sections_exact = record {
  at_end = λ s ready. exact_end_line (IsOver (s.0) (s.1)) ready;
  turns = λ k s ready. turns k (s.0) (s.1);
  ready = later;
  lifted = λ k s section sections e is listed. refl;
}
  where
    turns : (k : ℕ) (first : Bool) (areas : Areas) → Turns sections_reading sections_form (sections_turn first areas) k
        (state first areas)
    turns k true areas = record { item = exact_section (for_part k areas); no_stop = λ e is. is }
    turns k false Never = record {
      item = exact_section (for_part k Never);
      stop = exact_end_line (Unit {0}) tt;
      item_begins = λ section t is. refl;
      stop_begins = λ e t is. refl;
    }
    turns k false Free = record {
      item = exact_section (for_part k Free);
      stop = exact_end_line (Unit {0}) tt;
      item_begins = λ section t is. refl;
      stop_begins = λ e t is. refl;
    }
    turns k false Owed = record { item = exact_section (for_part k Owed); no_stop = λ e is. is }

    later : (k : ℕ) (s : State) (section : Section) → IsReadyFor (suc k) s → IsSection (for_part k (s.1)) section
        → IsReadyFor k (state false (after (s.1) (log_has_area section.log)))
    later zero s section ready is = paid_at_last (s.1) (log_has_area section.log) is.asked
    later (suc k) s section ready is = tt

-- so many sections at most, and a line that ends by `area` as it is asked
pub record AreSections (limit : ℕ) (areas : Areas) (sections : List Section) : Type 0 where
  pub most : length sections ≤ limit
  pub shaped : AllByRecursion IsSectionShaped sections
  pub asked : Suits areas (has_area sections)

sections_to : (k : ℕ) (first : Bool) (areas : Areas) (sections : List Section) (e : Unit {0})
    → IsListed sections_reading sections_form k (state first areas) sections e
    → AreSections k areas sections × (first ≡ true → 1 ≤ length sections)
sections_to zero true areas [] e is = absurd is
sections_to zero false areas [] e is = (
  record { most = omega arith; shaped = tt; asked = none_owed areas is },
  λ begun. absurd cc,
)
sections_to zero first areas (section ∷ sections) e is = absurd is
sections_to (suc k) true areas [] e is = absurd is
sections_to (suc k) false areas [] e is = (
  record { most = omega arith; shaped = tt; asked = none_owed areas is },
  λ begun. absurd cc,
)
sections_to (suc k) first areas (section ∷ sections) e is =
    let p = sections_to k false (after areas (log_has_area section.log)) sections e is.1.1 in (
      record {
        most = omega (arith, p.0.most);
        shaped = (is.1.0.shaped, p.0.shaped);
        asked = suits_parts areas k (log_has_area section.log) (has_area sections) is.1.0.asked p.0.asked;
      },
      λ begun. omega arith,
    )

none_after : (sections : List Section) (k : ℕ) → length sections ≤ k → k ≡ 0 → has_area sections ≡ false
none_after [] k most none = refl
none_after (section ∷ sections) k most none = absurd (omega arith)

sections_from : (k : ℕ) (first : Bool) (areas : Areas) (sections : List Section) (e : Unit {0}) → AreSections k areas sections
    → (first ≡ true → 1 ≤ length sections)
    → IsListed sections_reading sections_form k (state first areas) sections e
sections_from zero true areas [] e is some = absurd (omega (arith, some refl))
sections_from zero false areas [] e is some = paid_if_none areas is.asked
sections_from zero first areas (section ∷ sections) e is some = absurd (omega (arith, is.most))
sections_from (suc k) true areas [] e is some = absurd (omega (arith, some refl))
sections_from (suc k) false areas [] e is some = paid_if_none areas is.asked
sections_from (suc k) first areas (section ∷ sections) e is some =
    let left : length sections ≤ k = omega (arith, is.most) in (
      refl,
      (
        record {
          shaped = is.shaped.0;
          asked = suits_first areas k (log_has_area section.log) (has_area sections)
              (none_after sections k left) is.asked;
        },
        sections_from k false (after areas (log_has_area section.log)) sections e
            (record {
              most = left;
              shaped = is.shaped.1;
              asked =
                  suits_others areas (log_has_area section.log) (has_area sections) is.asked;
            })
            (λ begun. absurd cc),
      ),
    )

abbrev pub sections_pieces : Listing Section (Unit {0}) → List TextPiece
sections_pieces x = flat_map section_pieces (x.0) ++ end_line

sections_text : (sections : List Section) (e : Unit {0}) → list_pieces sections_form sections e ≡ flat_map section_pieces
    sections ++ end_line
sections_text [] e = refl
sections_text (section ∷ sections) e =
    ap (λ (ps : List TextPiece). section_pieces section ++ ps) (sections_text sections e)
    ∙ sym (append_assoc (section_pieces section) (flat_map section_pieces sections) end_line)

-- at least one section, and at most so many
pub record AreAllSections (areas : Areas) (x : Listing Section (Unit {0})) : Type 0 where
  pub sections : AreSections MAX_SECTIONS areas (x.0)
  pub some : 1 ≤ length (x.0)

pub exact_sections : (areas : Areas) → Exact (sections_at areas) (AreAllSections areas) sections_pieces
exact_sections areas =
    exact_same (AreAllSections areas) sections_pieces (exact_list sections_reading sections_form sections_exact MAX_SECTIONS
    (state true areas) tt)
    (λ x is. let p = sections_to MAX_SECTIONS true areas (x.0) (x.1) is in record { sections = p.0; some = p.1 refl })
    (λ x is. sections_from MAX_SECTIONS true areas (x.0) (x.1) is.sections (λ begun. is.some))
    (λ x is. sections_text (x.0) (x.1))
