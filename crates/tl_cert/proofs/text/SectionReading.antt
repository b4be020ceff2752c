-- Reading the widths, the number of log lines and a whole section is exact.
use Rattle.std.proofs.Common.{◌≡◌, ℕ, zero, suc, ◌+◌, ◌*◌, ◌≤◌, ◌<◌, Bool, true, false, eqb, ltb, ◌&&◌}
use Rattle.std.proofs.Common.{List, [], ◌∷◌, ◌++◌, ◌⊎◌, inl, inr, length, refl, sym, ap, subst, ◌∙◌, append_assoc, arith}
use Rattle.std.specs.Prelude.{codes}
use Rattle.std.specs.List.{flat_map, AllByRecursion}
use Rattle.std.specs.Char.{is_ascii_digit}
use Rattle.std.proofs.lemmas.Bool.{eqb-true, and_parts, lt-ltb}
use Rattle.std.proofs.lemmas.List.{append-nil}
use Rattle.tl_cert.specs.declared.trace.CutAt.{CutAt}
use Rattle.tl_cert.specs.declared.log.LogLine.{LogLine}
use Rattle.tl_cert.specs.declared.section.Section.{Section}
use Rattle.tl_cert.specs.declared.areas.Areas.{Areas}
use Rattle.tl_cert.specs.declared.areas.Areas.TheVariants.{Never, Free, Owed}
use Rattle.tl_base.specs.declared.limits.TheConstants.{MAX_PAGE_WIDTH, MAX_COLUMNS, MAX_HEIGHT, MAX_BUDGET}
use Rattle.tl_cert.specs.declared.limits.TheConstants.{MAX_TABLE}
use Rattle.tl_cert.specs.Pieces.{TextPiece, character, number, field, word, spell, numeral}
use Rattle.tl_cert.specs.Text.{space, line_feed, spaced, line_pieces, cut_pieces, section_pieces, log_has_area, IsSectionShaped}
use Rattle.tl_cert.specs.inner.Areas.{Suits}
use Rattle.tl_cert.specs.inner.CertReading.{width_at, widths_reading, some_widths_at, widths_at, may_count, count_at, section_at}
use Rattle.tl_cert.specs.inner.reading.Readings.{begins}
use Rattle.tl_cert.specs.inner.reading.Lists.{Listing, listing}
use Rattle.tl_cert.proofs.reading.Exact.{Exact}
use Rattle.tl_cert.proofs.reading.Choice.{Chosen, exact_either}
use Rattle.tl_cert.proofs.reading.Same.{exact_same}
use Rattle.tl_cert.proofs.reading.NumberReading.{IsRule, exact_number}
use Rattle.tl_cert.proofs.reading.ListExact.{list_pieces, exact_list}
use Rattle.tl_cert.proofs.text.Fields.{exact_after, exact_field, exact_part_then, exact_only, exact_made, exact_sign}
use Rattle.tl_cert.proofs.text.Items.{end_of, ends_by, end_is, item_rule, flagged, item_pieces, items_form, items_exact, items_to}
use Rattle.tl_cert.proofs.text.Items.{items_from, items_text}
use Rattle.tl_cert.proofs.text.SectionParts.{IsReadyFor, AreLines, exact_lines, exact_cuts}

-- ---- widths

abbrev width_pieces : ℕ → List TextPiece
width_pieces width = number 0 MAX_PAGE_WIDTH width ∷ []

pub space_again : (more : Bool) → eqb (end_of more) space ≡ more
space_again true = refl
space_again false = refl

abbrev AnyWidth : ℕ → Type 0
AnyWidth width = Unit {0}

exact_width : (more : Bool) → Exact (width_at more) (λ (a : ℕ × Bool). AnyWidth (a.0) × (a.1 ≡ true → more ≡ true))
    (item_pieces AnyWidth width_pieces)
unfolding width_at
exact_width more =
    exact_made (λ (x : ℕ × ℕ). flagged AnyWidth width_pieces (x.0) (eqb (x.1) space)) (λ (a : ℕ × Bool). (a.0, end_of (a.1)))
    (λ (a : ℕ × Bool). AnyWidth (a.0) × (a.1 ≡ true → more ≡ true)) (item_pieces AnyWidth width_pieces)
    (exact_number 0 MAX_PAGE_WIDTH (item_rule more))
    (λ a is. (ends_by more (a.1) is.1, ap (flagged AnyWidth width_pieces (a.0)) (sym (space_again (a.1)))))
    (λ x is. let p = end_is more (x.1) is in
    ((tt, p.1), ap (λ (c : ℕ). number 0 MAX_PAGE_WIDTH (x.0) ∷ character c ∷ []) (sym p.0)))

record AreSomeWidths (x : Listing ℕ (Unit {0})) : Type 0 where
  some : 1 ≤ length (x.0)
  most : length (x.0) ≤ MAX_COLUMNS

any_widths : (ws : List ℕ) → AllByRecursion AnyWidth ws
any_widths [] = tt
any_widths (w ∷ ws) = (tt, any_widths ws)

abbrev widths_read : Listing ℕ (Unit {0}) → List TextPiece
widths_read x = list_pieces (items_form AnyWidth width_pieces) (x.0) (x.1)

exact_some_widths : Exact some_widths_at AreSomeWidths widths_read
exact_some_widths =
    exact_same AreSomeWidths widths_read
    (exact_list widths_reading (items_form AnyWidth width_pieces)
    (items_exact AnyWidth width_pieces (λ k more. width_at (ltb 0 k))
    (λ k. exact_width (ltb 0 k))) MAX_COLUMNS true tt)
    (λ x is. let p = items_to AnyWidth width_pieces (λ k more. width_at (ltb 0 k)) MAX_COLUMNS (x.0) (x.1) is in
    record { some = p.0; most = p.1.0 })
    (λ x is. items_from AnyWidth width_pieces (λ k more. width_at (ltb 0 k)) MAX_COLUMNS (x.0) (x.1) is.some is.most
    (any_widths (x.0)))
    (λ x is. refl)

abbrev widths_tail : Listing ℕ (Unit {0}) → List TextPiece
widths_tail x = flat_map (spaced MAX_PAGE_WIDTH) (x.0) ++ word (codes "\n")

some_widths_text : (ws : List ℕ) (e : Unit {0}) → 1 ≤ length ws →
    widths_tail (listing ws e) ≡ word (codes " ") ++ widths_read (listing ws e)
some_widths_text [] e some = absurd (omega arith)
some_widths_text (w ∷ ws) e some =
    items_text AnyWidth width_pieces (λ k more. width_at (ltb 0 k)) w ws e [] ∙ ap (λ (ps : List TextPiece). character space ∷ ps)
    (append-nil (widths_read (listing (w ∷ ws) e)))

abbrev pub AreWidths : Listing ℕ (Unit {0}) → Type 0
AreWidths x = length (x.0) ≤ MAX_COLUMNS

widths_separated : (ws : List ℕ) (e : Unit {0}) → length ws ≤ MAX_COLUMNS →
    AreSomeWidths (listing ws e) ⊎ (listing ws e ≡ listing [] tt)
widths_separated [] e most = inr refl
widths_separated (w ∷ ws) e most = inl (record { some = omega arith; most = most })

widths_begin : (ws : List ℕ) (e : Unit {0}) (t : List ℕ) → 1 ≤ length ws →
    begins (λ c. eqb c space) (spell (widths_tail (listing ws e)) ++ t) ≡ true
widths_begin [] e t some = absurd (omega arith)
widths_begin (w ∷ ws) e t some = refl

abbrev pub widths_pieces : Listing ℕ (Unit {0}) → List TextPiece
widths_pieces x = word (codes "widths") ++ widths_tail x

pub exact_widths : Exact widths_at AreWidths widths_pieces
unfolding widths_at
exact_widths =
    let chosen : Chosen (λ c. eqb c space) widths_tail AreSomeWidths (λ (x : Listing ℕ (Unit {0})). x ≡ listing [] tt)
    AreWidths = record {
      separated = λ x is. widths_separated (x.0) (x.1) is;
      first = λ x is. is.most;
      other = λ x is. subst AreWidths (sym is) (omega arith);
      yes = λ x t is. widths_begin (x.0) (x.1) t is.some;
      no = λ x t is. ap (λ (y : Listing ℕ (Unit {0})). begins (λ c. eqb c space) (spell (widths_tail y) ++ t)) is;
    } in
    exact_after (codes "widths") widths_tail widths_pieces
    (exact_either (exact_after (codes " ") widths_read widths_tail exact_some_widths
    (λ x is. some_widths_text (x.0) (x.1) is.some))
    (exact_sign (codes "\n") (listing [] tt) widths_tail refl) chosen)
    (λ x is. refl)

-- ---- the number of log lines

some_count : (areas : Areas) (n : ℕ) → 0 < n → may_count areas n ≡ true
some_count Never n positive = refl
some_count Free n positive = refl
some_count Owed n positive = lt-ltb 0 n positive

count_rule : (areas : Areas) → IsRule (may_count areas) (λ n c. eqb c line_feed && may_count areas n)
count_rule areas = record {
  some_end = λ n can. (10, can);
  no_end = λ n e cannot ends. let can = (and_parts (eqb e line_feed) (may_count areas n) ends).1 in cc;
  not_digit = λ n e ends. ap is_ascii_digit (eqb-true e 10 ((and_parts (eqb e line_feed) (may_count areas n) ends).0));
  longer = λ n positive. (n, [], some_count areas n positive, sym (append-nil (numeral n)));
}

exact_count : (areas : Areas) (cuts : ℕ) → Exact (count_at areas cuts) (λ n. may_count areas n ≡ true)
    (λ n. field 1 (2 * cuts + 1) n line_feed)
unfolding count_at
exact_count areas cuts =
    exact_made (λ (x : ℕ × ℕ). x.0) (λ n. (n, line_feed)) (λ n. may_count areas n ≡ true)
    (λ n. field 1 (2 * cuts + 1) n line_feed)
    (exact_number 1 (2 * cuts + 1) (count_rule areas))
    (λ n is. (is, refl))
    (λ x is.
    let p = and_parts (eqb x.1 line_feed) (may_count areas x.0) is in
    (p.1, ap (λ (c : ℕ). number 1 (2 * cuts + 1) x.0 ∷ character c ∷ []) (sym (eqb-true x.1 10 p.0))))

-- ---- a section

-- a section that is shaped, with lines that end by `area` as it is asked
pub record IsSection (areas : Areas) (section : Section) : Type 0 where
  pub shaped : IsSectionShaped section
  pub asked : Suits areas (log_has_area section.log)

ready_for : (areas : Areas) (n : ℕ) → may_count areas n ≡ true → IsReadyFor n areas
ready_for areas (suc n) can = tt
ready_for Never zero can = tt
ready_for Free zero can = tt
ready_for Owed zero can = absurd cc

counted : (areas : Areas) (log : List LogLine) → Suits areas (log_has_area log) → may_count areas (length log) ≡ true
counted Never log asked = refl
counted Free log asked = refl
counted Owed [] asked = absurd cc
counted Owed (line ∷ log) asked = lt-ltb 0 (length (line ∷ log)) (omega arith)

module _ (areas : Areas) where
  abbrev log_part : Section → List TextPiece
  log_part s = flat_map line_pieces s.log

  abbrev trace_part : Section → List TextPiece
  trace_part s = flat_map cut_pieces s.trace ++ log_part s

  abbrev widths_part : Section → List TextPiece
  widths_part s = word (codes "widths") ++ (flat_map (spaced MAX_PAGE_WIDTH) s.widths ++ (word (codes "\n") ++ trace_part s))

  abbrev count_part : Section → List TextPiece
  count_part s = field 1 (2 * length s.trace + 1) (length s.log) line_feed ++ widths_part s

  abbrev cuts_part : Section → List TextPiece
  cuts_part s = field 0 MAX_BUDGET (length s.trace) space ++ count_part s

  abbrev lower_part : Section → List TextPiece
  lower_part s = field 0 MAX_HEIGHT s.lower space ++ cuts_part s

  abbrev height_part : Section → List TextPiece
  height_part s = field 0 MAX_HEIGHT s.height space ++ lower_part s

  abbrev width_part : Section → List TextPiece
  width_part s = field 0 MAX_PAGE_WIDTH s.width space ++ height_part s

  abbrev table_part : Section → List TextPiece
  table_part s = field 0 MAX_TABLE s.table space ++ width_part s

  abbrev Is1 : ℕ → Section → Type 0
  Is1 table s = IsSection areas s × (s.table ≡ table)

  abbrev Is2 : ℕ → ℕ → Section → Type 0
  Is2 table width s = Is1 table s × (s.width ≡ width)

  abbrev Is3 : ℕ → ℕ → ℕ → Section → Type 0
  Is3 table width height s = Is2 table width s × (s.height ≡ height)

  abbrev Is4 : ℕ → ℕ → ℕ → ℕ → Section → Type 0
  Is4 table width height lower s = Is3 table width height s × (s.lower ≡ lower)

  abbrev Is5 : ℕ → ℕ → ℕ → ℕ → ℕ → Section → Type 0
  Is5 table width height lower cuts s = Is4 table width height lower s × (length s.trace ≡ cuts)

  abbrev Is6 : ℕ → ℕ → ℕ → ℕ → ℕ → ℕ → Section → Type 0
  Is6 table width height lower cuts lines s = Is5 table width height lower cuts s × (length s.log ≡ lines)

  abbrev widths_of : Section → Listing ℕ (Unit {0})
  widths_of s = listing s.widths tt

  abbrev trace_of : Section → Listing CutAt (Unit {0})
  trace_of s = listing s.trace tt

  abbrev log_of : Section → Listing LogLine (Unit {0})
  log_of s = listing s.log tt

  abbrev Is7 : ℕ → ℕ → ℕ → ℕ → ℕ → ℕ → Listing ℕ (Unit {0}) → Section → Type 0
  Is7 table width height lower cuts lines widths s = Is6 table width height lower cuts lines s × (widths_of s ≡ widths)

  abbrev Is8 : ℕ → ℕ → ℕ → ℕ → ℕ → ℕ → Listing ℕ (Unit {0}) → Listing CutAt (Unit {0}) → Section → Type 0
  Is8 table width height lower cuts lines widths trace s = Is7 table width height lower cuts lines widths s × (trace_of s ≡ trace)

  abbrev Is9 : ℕ → ℕ → ℕ → ℕ → ℕ → ℕ → Listing ℕ (Unit {0}) → Listing CutAt (Unit {0}) → Listing LogLine (Unit {0}) → Section →
      Type 0
  Is9 table width height lower cuts lines widths trace log s =
      Is8 table width height lower cuts lines widths trace s × (log_of s ≡ log)

  abbrev made : ℕ → ℕ → ℕ → ℕ → List ℕ → List CutAt → List LogLine → Section
  made table width height lower widths trace log = record {
    table = table;
    width = width;
    height = height;
    lower = lower;
    widths = widths;
    trace = trace;
    log = log;
  }

  section_again : (table width height lower cuts lines : ℕ) (widths : Listing ℕ (Unit {0})) (trace : Listing CutAt (Unit {0}))
      (log : Listing LogLine (Unit {0})) (s : Section)
      → Is9 table width height lower cuts lines widths trace log s →
      s ≡ made table width height lower (widths.0) (trace.0) (log.0)
  section_again table width height lower cuts lines widths trace log s is =
      ap (λ (k : ℕ). made k s.width s.height s.lower s.widths s.trace s.log) is.0.0.0.0.0.0.0.0.1
      ∙ ap (λ (k : ℕ). made table k s.height s.lower s.widths s.trace s.log) is.0.0.0.0.0.0.0.1
      ∙ ap (λ (k : ℕ). made table width k s.lower s.widths s.trace s.log) is.0.0.0.0.0.0.1
      ∙ ap (λ (k : ℕ). made table width height k s.widths s.trace s.log) is.0.0.0.0.0.1
      ∙ ap (λ (x : Listing ℕ (Unit {0})). made table width height lower (x.0) s.trace s.log) is.0.0.1
      ∙ ap (λ (x : Listing CutAt (Unit {0})). made table width height lower (widths.0) (x.0) s.log) is.0.1
      ∙ ap (λ (x : Listing LogLine (Unit {0})). made table width height lower (widths.0) (trace.0) (x.0)) is.1

  section_made : (table width height lower cuts lines : ℕ) (widths : Listing ℕ (Unit {0})) (trace : Listing CutAt (Unit {0}))
      (log : Listing LogLine (Unit {0}))
      → AreWidths widths → length (trace.0) ≡ cuts → AreLines lines areas (log.0)
      → Is9 table width height lower cuts lines widths trace log (made table width height lower (widths.0) (trace.0) (log.0))
  section_made table width height lower cuts lines widths trace log most cut lined = (
    (
      (
        (
          (
            (
              (((record { shaped = record { widths = most; lines = lined.shaped }; asked = lined.asked }, refl), refl), refl),
              refl,
            ),
            cut,
          ),
          lined.count_is,
        ),
        refl,
      ),
      refl,
    ),
    refl,
  )

  pub exact_section : Exact (section_at areas) (IsSection areas) section_pieces
  unfolding section_at
  exact_section =
      exact_after (codes "section ") table_part section_pieces
      (exact_part_then (λ (s : Section). s.table) (IsSection areas) table_part (λ a s. width_part s)
      (exact_field 0 MAX_TABLE space refl) (λ table _.
      exact_part_then (λ (s : Section). s.width) (Is1 table) width_part (λ a s. height_part s)
      (exact_field 0 MAX_PAGE_WIDTH space refl) (λ width _.
      exact_part_then (λ (s : Section). s.height) (Is2 table width) height_part (λ a s. lower_part s)
      (exact_field 0 MAX_HEIGHT space refl) (λ height _.
      exact_part_then (λ (s : Section). s.lower) (Is3 table width height) lower_part (λ a s. cuts_part s)
      (exact_field 0 MAX_HEIGHT space refl) (λ lower _.
      exact_part_then (λ (s : Section). length s.trace) (Is4 table width height lower) cuts_part (λ a s. count_part s)
      (exact_field 0 MAX_BUDGET space refl)
      (λ cuts _.
      exact_part_then (λ (s : Section). length s.log) (Is5 table width height lower cuts) count_part (λ a s. widths_part s)
      (exact_count areas cuts)
      (λ lines can.
      exact_part_then widths_of (Is6 table width height lower cuts lines) widths_part (λ a s. trace_part s) exact_widths
      (λ widths most.
      exact_part_then trace_of (Is7 table width height lower cuts lines widths) trace_part (λ a s. log_part s) (exact_cuts cuts)
      (λ trace cut.
      exact_part_then log_of (Is8 table width height lower cuts lines widths trace) log_part (λ a s. [])
      (exact_lines lines areas (ready_for areas lines can))
      (λ log lined.
      exact_only (made table width height lower (widths.0) (trace.0) (log.0))
      (Is9 table width height lower cuts lines widths trace log)
      (section_made table width height lower cuts lines widths trace log most cut lined)
      (section_again table width height lower cuts lines widths trace log))
      (λ s is. (
        record { count_is = is.0.0.1; shaped = is.0.0.0.0.0.0.0.0.shaped.lines; asked = is.0.0.0.0.0.0.0.0.asked },
        sym (append-nil (log_part s)),
      )))
      (λ s is. (is.0.0.1, refl)))
      (λ s is. (
        is.0.0.0.0.0.0.shaped.widths,
        sym (append_assoc (word (codes "widths") ++ flat_map (spaced MAX_PAGE_WIDTH) s.widths) (word (codes "\n")) (trace_part s)
            ∙ append_assoc (word (codes "widths")) (flat_map (spaced MAX_PAGE_WIDTH) s.widths)
            (word (codes "\n") ++ trace_part s))
            ∙ ap (λ (ps : List TextPiece). ps ++ trace_part s)
            (append_assoc (word (codes "widths")) (flat_map (spaced MAX_PAGE_WIDTH) s.widths) (word (codes "\n"))),
      )))
      (λ s is. (
        counted areas s.log is.0.0.0.0.0.asked,
        ap (λ (k : ℕ). field 1 (2 * k + 1) (length s.log)
            line_feed ++ widths_part s) is.1,
      )))
      (λ s is. (tt, refl)))
      (λ s is. (tt, refl)))
      (λ s is. (tt, refl)))
      (λ s is. (tt, refl)))
      (λ s is. (tt, refl)))
      (λ s is. refl)
