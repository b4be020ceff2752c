-- Reading the log lines, the cuts and the widths of a section is exact.
use Rattle.std.proofs.Common.{◌≡◌, ℕ, zero, suc, Bool, true, false, ◌||◌, List, [], ◌∷◌, ◌++◌, length, refl, ap, ◌∙◌, arith}
use Rattle.std.specs.Prelude.{codes}
use Rattle.std.specs.List.{flat_map, AllByRecursion}
use Rattle.tl_cert.specs.declared.trace.CutAt.{CutAt}
use Rattle.tl_cert.specs.declared.log.LogLine.{LogLine}
use Rattle.tl_cert.specs.declared.areas.Areas.{Areas}
use Rattle.tl_cert.specs.declared.areas.Areas.TheVariants.{Never, Free, Owed}
use Rattle.tl_cert.specs.declared.limits.TheConstants.{MAX_ZONE, MAX_SPAN, MAX_CLASS}
use Rattle.tl_cert.specs.Pieces.{TextPiece, field}
use Rattle.tl_cert.specs.Text.{space, line_feed, line_pieces, cut_pieces, is_area, log_has_area, IsLineShaped}
use Rattle.tl_cert.specs.inner.Areas.{Suits, for_part, after}
use Rattle.tl_cert.specs.inner.CertReading.{lines_reading, lines_at, cut_at, cuts_reading, cuts_at}
use Rattle.tl_cert.specs.inner.reading.Readings.{give}
use Rattle.tl_cert.specs.inner.reading.Lists.{Listing}
use Rattle.tl_cert.proofs.reading.Exact.{Exact}
use Rattle.tl_cert.proofs.reading.Words.{IsAny}
use Rattle.tl_cert.proofs.reading.Same.{exact_same}
use Rattle.tl_cert.proofs.reading.ListExact.{ListForm, IsListed, list_pieces, IsExactList, exact_list}
use Rattle.tl_cert.proofs.text.Fields.{exact_after, exact_field, exact_part_then, exact_only}
use Rattle.tl_cert.proofs.text.LogLines.{IsLine, exact_line}

-- ---- where a line that ends by `area` stands

-- at the end of a list nothing is owed
abbrev pub IsPaid : Areas → Type 0
IsPaid Never = Unit {0}
IsPaid Free = Unit {0}
IsPaid Owed = ⊥

-- what is asked of the whole is asked of the first part and of the others
pub suits_parts : (areas : Areas) (k : ℕ) (first others : Bool) → Suits (for_part k areas) first →
    Suits (after areas first) others
    → Suits areas (first || others)
suits_parts Never zero false others one two = two
suits_parts Never (suc k) false others one two = two
suits_parts Never zero true others one two = absurd cc
suits_parts Never (suc k) true others one two = absurd cc
suits_parts Free k first others one two = tt
suits_parts Owed k true others one two = refl
suits_parts Owed k false others one two = two

pub suits_first : (areas : Areas) (k : ℕ) (first others : Bool) → (k ≡ 0 → others ≡ false) → Suits areas (first || others) →
    Suits (for_part k areas) first
suits_first Never zero false others last is = refl
suits_first Never zero true others last is = is
suits_first Never (suc k) false others last is = refl
suits_first Never (suc k) true others last is = is
suits_first Free zero first others last is = tt
suits_first Free (suc k) first others last is = tt
suits_first Owed zero true others last is = refl
suits_first Owed zero false others last is = absurd (let none : others ≡ false = last refl in cc)
suits_first Owed (suc k) first others last is = tt

pub suits_others : (areas : Areas) (first others : Bool) → Suits areas (first || others) → Suits (after areas first) others
suits_others Never false others is = is
suits_others Never true others is = absurd cc
suits_others Free first others is = tt
suits_others Owed true others is = tt
suits_others Owed false others is = is

pub paid_at_last : (areas : Areas) (has : Bool) → Suits areas has → IsPaid (after areas has)
paid_at_last Never has is = tt
paid_at_last Free has is = tt
paid_at_last Owed true is = tt
paid_at_last Owed false is = absurd cc

-- ---- log lines

abbrev pub IsReadyFor : ℕ → Areas → Type 0
IsReadyFor zero areas = IsPaid areas
IsReadyFor (suc k) areas = Unit {0}

abbrev IsAtEnd : ℕ → Areas → Type 0
IsAtEnd zero areas = IsPaid areas
IsAtEnd (suc k) areas = ⊥

abbrev lines_form : ListForm Areas LogLine LogLine (Unit {0})
lines_form = record {
  IsItem = λ k areas line. IsLine (for_part k areas) line;
  item_pieces = line_pieces;
  IsStop = λ k areas e. IsAtEnd k areas;
  stop_pieces = λ e. [];
  lift = λ line lines. line;
  IsReady = IsReadyFor;
}

-- nothing is left to read
exact_nothing : (IsEnd : Type 0) → IsEnd → Exact (give tt) (λ (e : Unit {0}). IsEnd) (λ e. [])
exact_nothing IsEnd is = exact_only tt (λ (e : Unit {0}). IsEnd) is (λ e end. refl)

lines_exact : IsExactList lines_reading lines_form
lines_exact = record {
  at_end = λ areas ready. exact_nothing (IsPaid areas) ready;
  turns = λ k areas ready. record { item = exact_line (for_part k areas); no_stop = λ e is. is };
  ready = later;
  lifted = λ k areas line lines e is listed. refl;
}
  where
    later : (k : ℕ) (areas : Areas) (line : LogLine) → IsReadyFor (suc k) areas → IsLine (for_part k areas) line →
        IsReadyFor k (after areas (is_area line.end))
    later zero areas line ready is = paid_at_last areas (is_area line.end) is.end
    later (suc k) areas line ready is = tt

-- so many lines, and one that ends by `area` as it is asked
pub record AreLines (count : ℕ) (areas : Areas) (lines : List LogLine) : Type 0 where
  pub count_is : length lines ≡ count
  pub shaped : AllByRecursion IsLineShaped lines
  pub asked : Suits areas (log_has_area lines)

pub none_owed : (areas : Areas) → IsPaid areas → Suits areas false
none_owed Never is = refl
none_owed Free is = tt
none_owed Owed is = absurd is

pub paid_if_none : (areas : Areas) → Suits areas false → IsPaid areas
paid_if_none Never is = tt
paid_if_none Free is = tt
paid_if_none Owed is = absurd cc

lines_to : (k : ℕ) (areas : Areas) (lines : List LogLine) (e : Unit {0}) → IsListed lines_reading lines_form k areas lines e →
    AreLines k areas lines
lines_to zero areas [] e is = record { count_is = refl; shaped = tt; asked = none_owed areas is }
lines_to zero areas (line ∷ lines) e is = absurd is
lines_to (suc k) areas [] e is = absurd is
lines_to (suc k) areas (line ∷ lines) e is =
    let p = lines_to k (after areas (is_area line.end)) lines e is.1.1 in
    record {
      count_is = omega (arith, p.count_is);
      shaped = (is.1.0.shaped, p.shaped);
      asked = suits_parts areas k (is_area line.end) (log_has_area lines) is.1.0.end p.asked;
    }

no_more_lines : (lines : List LogLine) (k : ℕ) → length lines ≡ k → k ≡ 0 → log_has_area lines ≡ false
no_more_lines [] k count_is none = refl
no_more_lines (line ∷ lines) k count_is none = absurd (omega arith)

lines_from : (k : ℕ) (areas : Areas) (lines : List LogLine) (e : Unit {0}) → AreLines k areas lines →
    IsListed lines_reading lines_form k areas lines e
lines_from zero areas [] e is = paid_if_none areas is.asked
lines_from zero areas (line ∷ lines) e is = absurd (omega (arith, is.count_is))
lines_from (suc k) areas [] e is = absurd (omega (arith, is.count_is))
lines_from (suc k) areas (line ∷ lines) e is =
    let left : length lines ≡ k = omega (arith, is.count_is) in
    let first = suits_first areas k (is_area line.end) (log_has_area lines) (no_more_lines lines k left) is.asked in (
      refl,
      (
        record { shaped = is.shaped.0; end = first },
        lines_from k (after areas (is_area line.end)) lines e
            (record {
              count_is = left;
              shaped = is.shaped.1;
              asked =
                  suits_others areas (is_area line.end) (log_has_area lines) is.asked;
            }),
      ),
    )

lines_text : (lines : List LogLine) (e : Unit {0}) → list_pieces lines_form lines e ≡ flat_map line_pieces lines
lines_text [] e = refl
lines_text (line ∷ lines) e = ap (λ (ps : List TextPiece). line_pieces line ++ ps) (lines_text lines e)

pub exact_lines : (count : ℕ) (areas : Areas) → IsReadyFor count areas →
    Exact (lines_at count areas) (λ x. AreLines count areas (x.0))
    (λ x. flat_map line_pieces (x.0))
exact_lines count areas ready =
    exact_same (λ (x : Listing LogLine (Unit {0})). AreLines count areas (x.0)) (λ x. flat_map line_pieces (x.0))
    (exact_list lines_reading lines_form lines_exact count areas ready)
    (λ x is. lines_to count areas (x.0) (x.1) is) (λ x is. lines_from count areas (x.0) (x.1) is) (λ x is. lines_text (x.0) (x.1))

-- ---- cuts

exact_cut : Exact cut_at IsAny cut_pieces
unfolding cut_at
exact_cut =
    let after_zone : CutAt → List TextPiece = λ cut. field 0 MAX_SPAN cut.span space ++ field 0 MAX_CLASS cut.class line_feed in
    let after_word : CutAt → List TextPiece = λ cut. field 0 MAX_ZONE cut.zone space ++ after_zone cut in
    exact_after (codes "cut ") after_word cut_pieces
    (exact_part_then (λ (cut : CutAt). cut.zone) IsAny after_word (λ zone cut. after_zone cut) (exact_field 0 MAX_ZONE space refl)
    (λ zone a. exact_part_then (λ (cut : CutAt). cut.span) (λ cut. IsAny cut × (cut.zone ≡ zone)) after_zone
    (λ span cut. field 0 MAX_CLASS cut.class line_feed) (exact_field 0 MAX_SPAN space refl)
    (λ span b. exact_part_then (λ (cut : CutAt). cut.class) (λ cut. (IsAny cut × (cut.zone ≡ zone)) × (cut.span ≡ span))
    (λ cut. field 0 MAX_CLASS cut.class line_feed) (λ class cut. []) (exact_field 0 MAX_CLASS line_feed refl)
    (λ class d. exact_only (record { zone = zone; span = span; class = class })
    (λ cut. ((IsAny cut × (cut.zone ≡ zone)) × (cut.span ≡ span))
    × (cut.class ≡ class))
    (((tt, refl), refl), refl) (λ cut is. cut_again cut zone span class is.0.0.1 is.0.1 is.1))
    (λ cut is. (tt, refl)))
    (λ cut is. (tt, refl)))
    (λ cut is. (tt, refl)))
    (λ cut is. refl)
  where
    cut_again : (cut : CutAt) (zone span class : ℕ) → cut.zone ≡ zone → cut.span ≡ span → cut.class ≡ class
        → cut ≡ record { zone = zone; span = span; class = class }
    cut_again cut zone span class a b d =
        let P : ℕ → CutAt = λ k. record { zone = k; span = cut.span; class = cut.class } in
        let Q : ℕ → CutAt = λ k. record { zone = zone; span = k; class = cut.class } in
        let R : ℕ → CutAt = λ k. record { zone = zone; span = span; class = k } in
        ap P a ∙ ap Q b ∙ ap R d

abbrev IsDone : ℕ → Type 0
IsDone zero = Unit {0}
IsDone (suc k) = ⊥

abbrev cuts_form : ListForm (Unit {0}) CutAt CutAt (Unit {0})
cuts_form = record {
  IsItem = λ k s cut. IsAny cut;
  item_pieces = cut_pieces;
  IsStop = λ k s e. IsDone k;
  stop_pieces = λ e. [];
  lift = λ cut cuts. cut;
  IsReady = λ k s. Unit {0};
}

cuts_exact : IsExactList cuts_reading cuts_form
cuts_exact = record {
  at_end = λ s ready. exact_nothing (Unit {0}) tt;
  turns = λ k s ready. record { item = exact_cut; no_stop = λ e is. is };
  ready = λ k s cut ready is. tt;
  lifted = λ k s cut cuts e is listed. refl;
}

cuts_to : (k : ℕ) (cuts : List CutAt) (e : Unit {0}) → IsListed cuts_reading cuts_form k tt cuts e → length cuts ≡ k
cuts_to zero [] e is = refl
cuts_to zero (cut ∷ cuts) e is = absurd is
cuts_to (suc k) [] e is = absurd is
cuts_to (suc k) (cut ∷ cuts) e is = ap suc (cuts_to k cuts e is.1.1)

cuts_from : (k : ℕ) (cuts : List CutAt) (e : Unit {0}) → length cuts ≡ k → IsListed cuts_reading cuts_form k tt cuts e
cuts_from zero [] e is = tt
cuts_from zero (cut ∷ cuts) e is = absurd (omega arith)
cuts_from (suc k) [] e is = absurd (omega arith)
cuts_from (suc k) (cut ∷ cuts) e is = (refl, (tt, cuts_from k cuts e (omega arith)))

cuts_text : (cuts : List CutAt) (e : Unit {0}) → list_pieces cuts_form cuts e ≡ flat_map cut_pieces cuts
cuts_text [] e = refl
cuts_text (cut ∷ cuts) e = ap (λ (ps : List TextPiece). cut_pieces cut ++ ps) (cuts_text cuts e)

pub exact_cuts : (count : ℕ) → Exact (cuts_at count) (λ x. length (x.0) ≡ count) (λ x. flat_map cut_pieces (x.0))
exact_cuts count =
    exact_same (λ (x : Listing CutAt (Unit {0})). length (x.0) ≡ count) (λ x. flat_map cut_pieces (x.0))
    (exact_list cuts_reading cuts_form cuts_exact count tt tt)
    (λ x is. cuts_to count (x.0) (x.1) is) (λ x is. cuts_from count (x.0) (x.1) is) (λ x is. cuts_text (x.0) (x.1))
