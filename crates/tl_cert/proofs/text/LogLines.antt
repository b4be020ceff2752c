-- Reading a log line is exact.
use Rattle.std.proofs.Common.{◌≡◌, ℕ, ◌≤◌, Bool, true, false, eqb, List, [], ◌∷◌, ◌++◌, ◌⊎◌, inl, inr, length, refl, sym, ap}
use Rattle.std.proofs.Common.{subst, ◌∙◌, append_assoc, arith}
use Rattle.std.specs.Prelude.{codes}
use Rattle.std.specs.List.{flat_map}
use Rattle.tl_cert.specs.declared.log.Bound.{Bound}
use Rattle.tl_cert.specs.declared.log.Nogood.{Nogood}
use Rattle.tl_cert.specs.declared.log.Nogood.TheVariants as nogoods
use Rattle.tl_cert.specs.declared.log.End.{End}
use Rattle.tl_cert.specs.declared.log.LogLine.{LogLine}
use Rattle.tl_cert.specs.declared.areas.Areas.{Areas}
use Rattle.tl_base.specs.declared.limits.TheConstants.{MAX_PAGE_WIDTH}
use Rattle.tl_cert.specs.declared.limits.TheConstants.{MAX_ZONE, MAX_LINE}
use Rattle.tl_cert.specs.Pieces.{TextPiece, character, number, field, word, spell, numeral}
use Rattle.tl_cert.specs.Text.{space, side_sign, bound_pieces, bounds_pieces, fire_pieces, line_pieces, is_area, IsLineShaped}
use Rattle.tl_cert.specs.Text.{IsNogoodShaped, AreBounds}
use Rattle.tl_cert.specs.inner.Areas.{Suits}
use Rattle.tl_cert.specs.inner.CertReading.{zone_line_at, bounds_line_at, line_at}
use Rattle.tl_cert.specs.inner.reading.Readings.{begins}
use Rattle.tl_cert.specs.inner.reading.Lists.{Listing, listing}
use Rattle.tl_cert.proofs.reading.Exact.{Exact}
use Rattle.tl_cert.proofs.reading.Choice.{Chosen, exact_either}
use Rattle.tl_cert.proofs.reading.NumeralDigits.{numeral_first}
use Rattle.tl_cert.proofs.reading.Numerals.{digit_range}
use Rattle.std.specs.Char.{is_ascii_digit}
use Rattle.std.proofs.lemmas.Bool.{ne_eqb}
use Rattle.std.proofs.lemmas.List.{append-nil}
use Rattle.tl_cert.proofs.text.Fields.{exact_after, exact_field, exact_part_then, exact_only, exact_made, shifted}
use Rattle.tl_cert.proofs.text.Ends.{AreFires, fires_pieces, exact_fires, end_pieces}
use Rattle.tl_cert.proofs.text.BoundReading.{bounds_text, exact_bounds}

-- a line that is shaped, with an end as it is asked
pub record IsLine (areas : Areas) (line : LogLine) : Type 0 where
  pub shaped : IsLineShaped line
  pub end : Suits areas (is_area line.end)

-- ---- by the number of a zone

abbrev zone_of : Nogood → ℕ
zone_of (nogoods.Zone zone) = zone
zone_of (nogoods.Bounds bounds) = 0

abbrev IsZone : Nogood → Type 0
IsZone (nogoods.Zone zone) = Unit {0}
IsZone (nogoods.Bounds bounds) = ⊥

abbrev fired_by : LogLine → Listing ℕ End
fired_by line = listing line.fires line.end

record IsZoneLine (areas : Areas) (line : LogLine) : Type 0 where
  zone : IsZone line.nogood
  fires : AreFires areas (fired_by line)

abbrev after_zone : LogLine → List TextPiece
after_zone line = field 0 MAX_ZONE (zone_of line.nogood) space ++ fires_pieces (fired_by line)

zone_again : (nogood : Nogood) (zone : ℕ) → IsZone nogood → zone_of nogood ≡ zone → nogood ≡ nogoods.Zone zone
zone_again (nogoods.Zone z) zone is same = ap (λ (k : ℕ). nogoods.Zone k) same
zone_again (nogoods.Bounds bounds) zone is same = absurd is

zone_text : (nogood : Nogood) (line : LogLine) → IsZone nogood → line.nogood ≡ nogood →
    line_pieces line ≡ word (codes "z") ++ after_zone line
zone_text (nogoods.Zone z) line is same =
    let P : Nogood → List TextPiece = λ nogood. line_pieces (record { nogood = nogood; fires = line.fires; end = line.end }) in
    let Q : Nogood → List TextPiece = λ nogood. word (codes "z") ++
    (field 0 MAX_ZONE (zone_of nogood) space ++ fires_pieces (fired_by line)) in
    ap P same ∙ ap (λ (ps : List TextPiece). character 122 ∷ number 0 MAX_ZONE z ∷ ps)
    (shifted (λ (n : ℕ). character 64 ∷ number 0 MAX_LINE n ∷ []) (character space) line.fires (end_pieces line.end)) ∙ sym
    (ap Q same)
zone_text (nogoods.Bounds bounds) line is same = absurd is

line_again : (line : LogLine) (zone : ℕ) (x : Listing ℕ End) → IsZone line.nogood → zone_of line.nogood ≡ zone → fired_by line ≡ x
    → line ≡ record { nogood = nogoods.Zone zone; fires = x.0; end = x.1 }
line_again line zone x is same rest =
    let P : Nogood → LogLine = λ nogood. record { nogood = nogood; fires = line.fires; end = line.end } in
    let Q : Listing ℕ End → LogLine = λ y. record { nogood = nogoods.Zone zone; fires = y.0; end = y.1 } in
    ap P (zone_again line.nogood zone is same) ∙ ap Q rest

exact_zone_line : (areas : Areas) → Exact (zone_line_at areas) (IsZoneLine areas) line_pieces
exact_zone_line areas =
    exact_after (codes "z") after_zone line_pieces
    (exact_part_then (λ (line : LogLine). zone_of line.nogood) (IsZoneLine areas) after_zone
    (λ zone line. fires_pieces (fired_by line))
    (exact_field 0 MAX_ZONE space refl)
    (λ zone any. exact_part_then fired_by (λ line. IsZoneLine areas line × (zone_of line.nogood ≡ zone))
    (λ line. fires_pieces (fired_by line)) (λ x line. [])
    (exact_fires areas)
    (λ x fires. exact_only (record { nogood = nogoods.Zone zone; fires = x.0; end = x.1 })
    (λ line. (IsZoneLine areas line × (zone_of line.nogood ≡ zone)) × (fired_by line ≡ x))
    ((record { zone = tt; fires = fires }, refl), refl) (λ line is. line_again line zone x is.0.0.zone is.0.1 is.1))
    (λ line is. (is.0.fires, sym (append-nil (fires_pieces (fired_by line))))))
    (λ line is. (tt, refl)))
    (λ line is. zone_text line.nogood line is.zone refl)

-- ---- by bounds

abbrev bounds_of : Nogood → List Bound
bounds_of (nogoods.Zone zone) = []
bounds_of (nogoods.Bounds bounds) = bounds

abbrev IsBounds : Nogood → Type 0
IsBounds (nogoods.Zone zone) = ⊥
IsBounds (nogoods.Bounds bounds) = AreBounds bounds

record IsBoundsLine (areas : Areas) (line : LogLine) : Type 0 where
  bounds : IsBounds line.nogood
  fires : AreFires areas (fired_by line)

abbrev line_of : Listing Bound (Listing ℕ End) → LogLine
line_of x = record { nogood = nogoods.Bounds (x.0); fires = x.1.0; end = x.1.1 }

abbrev parts_of : LogLine → Listing Bound (Listing ℕ End)
parts_of line = listing (bounds_of line.nogood) (fired_by line)

bounds_again : (nogood : Nogood) → IsBounds nogood → (AreBounds (bounds_of nogood)) × (nogood ≡ nogoods.Bounds (bounds_of nogood))
bounds_again (nogoods.Zone zone) is = absurd is
bounds_again (nogoods.Bounds bounds) is = (is, refl)

bounds_line_text : (bounds : List Bound) (x : Listing ℕ End) → 1 ≤ length bounds →
    line_pieces (line_of (listing bounds x)) ≡ bounds_text (listing bounds x)
bounds_line_text [] x some = absurd (omega arith)
bounds_line_text (b ∷ bs) x some =
    append_assoc (bound_pieces b) (flat_map (λ m. character space ∷ bound_pieces m) bs)
    (flat_map fire_pieces (x.0) ++ (character space ∷ end_pieces (x.1)))
    ∙ ap (λ (ps : List TextPiece). bound_pieces b ++ (flat_map (λ m. character space ∷ bound_pieces m) bs ++ ps))
    (shifted (λ (n : ℕ). character 64 ∷ number 0 MAX_LINE n ∷ []) (character space) (x.0) (end_pieces (x.1)))
    ∙ ap (λ (ps : List TextPiece). bound_pieces b ++ ps) (shifted bound_pieces (character space) bs (fires_pieces x))

exact_bounds_line : (areas : Areas) → Exact (bounds_line_at areas) (IsBoundsLine areas) line_pieces
exact_bounds_line areas =
    exact_made line_of parts_of (IsBoundsLine areas) line_pieces (exact_bounds areas)
    (λ line is.
    let p = bounds_again line.nogood is.bounds in
    let P : Nogood → LogLine = λ nogood. record { nogood = nogood; fires = line.fires; end = line.end } in
    (record { bounds = p.0; fires = is.fires }, ap P p.1))
    (λ x is. (record { bounds = is.bounds; fires = is.fires }, bounds_line_text (x.0) (x.1) is.bounds.some))

-- ---- either

line_separated : (areas : Areas) (nogood : Nogood) (line : LogLine) → line.nogood ≡ nogood → IsLine areas line →
    IsZoneLine areas line ⊎ IsBoundsLine areas line
line_separated areas (nogoods.Zone zone) line same is =
    inl (record { zone = subst IsZone (sym same) tt; fires = record { most = is.shaped.fires; end = is.end } })
line_separated areas (nogoods.Bounds bounds) line same is =
    let P : Nogood → Type 0 = IsNogoodShaped in
    inr (record {
      bounds = subst IsBounds (sym same) (subst P same is.shaped.nogood);
      fires =
          record { most = is.shaped.fires; end = is.end };
    })

zone_shaped : (nogood : Nogood) → IsZone nogood → IsNogoodShaped nogood
zone_shaped (nogoods.Zone zone) is = tt
zone_shaped (nogoods.Bounds bounds) is = absurd is

bounds_shaped : (nogood : Nogood) → IsBounds nogood → IsNogoodShaped nogood
bounds_shaped (nogoods.Zone zone) is = absurd is
bounds_shaped (nogoods.Bounds bounds) is = is

zone_begins : (nogood : Nogood) (line : LogLine) (t : List ℕ) → line.nogood ≡ nogood → IsZone nogood
    → begins (λ c. eqb c 122) (spell (line_pieces line) ++ t) ≡ true
zone_begins (nogoods.Zone zone) line t same is =
    let P : Nogood → Bool = λ nogood. begins (λ c. eqb c 122)
    (spell (line_pieces (record { nogood = nogood; fires = line.fires; end = line.end })) ++ t) in
    ap P same
zone_begins (nogoods.Bounds bounds) line t same is = absurd is

digit_no_z : (n : ℕ) (t : List ℕ) → begins (λ c. eqb c 122) (numeral n ++ t) ≡ false
digit_no_z n t =
    let p = numeral_first n in
    ap (λ (ds : List ℕ). begins (λ c. eqb c 122) (ds ++ t)) p.2 ∙ no_z p.0 p.3
  where
    no_z : (c : ℕ) → is_ascii_digit c ≡ true → eqb c 122 ≡ false
    no_z c digit = let range = digit_range c digit in ne_eqb c 122 (λ same. omega arith)

bounds_begin : (bounds : List Bound) (rest : List TextPiece) (t : List ℕ) → 1 ≤ length bounds
    → begins (λ c. eqb c 122) (spell (bounds_pieces bounds ++ rest) ++ t) ≡ false
bounds_begin [] rest t some = absurd (omega arith)
bounds_begin (b ∷ bs) rest t some =
    let others : List TextPiece = character (side_sign b.side) ∷ number 0 MAX_PAGE_WIDTH b.width ∷
    (flat_map (λ m. character space ∷ bound_pieces m) bs ++ rest) in
    ap (begins (λ c. eqb c 122)) (append_assoc (numeral b.span) (spell others) t) ∙ digit_no_z b.span (spell others ++ t)

bounds_line_begins : (nogood : Nogood) (line : LogLine) (t : List ℕ) → line.nogood ≡ nogood → IsBounds nogood
    → begins (λ c. eqb c 122) (spell (line_pieces line) ++ t) ≡ false
bounds_line_begins (nogoods.Zone zone) line t same is = absurd is
bounds_line_begins (nogoods.Bounds bounds) line t same is =
    let P : Nogood → Bool = λ nogood. begins (λ c. eqb c 122)
    (spell (line_pieces (record { nogood = nogood; fires = line.fires; end = line.end })) ++ t) in
    ap P same ∙ bounds_begin bounds (flat_map fire_pieces line.fires ++ (character space ∷ end_pieces line.end)) t is.some

pub exact_line : (areas : Areas) → Exact (line_at areas) (IsLine areas) line_pieces
unfolding line_at
exact_line areas =
    let chosen : Chosen (λ c. eqb c 122) line_pieces (IsZoneLine areas) (IsBoundsLine areas) (IsLine areas) = record {
      separated = λ line is. line_separated areas line.nogood line refl is;
      first = λ line is. record {
        shaped = record { nogood = zone_shaped line.nogood is.zone; fires = is.fires.most };
        end =
            is.fires.end;
      };
      other = λ line is. record {
        shaped = record { nogood = bounds_shaped line.nogood is.bounds; fires = is.fires.most };
        end =
            is.fires.end;
      };
      yes = λ line t is. zone_begins line.nogood line t refl is.zone;
      no = λ line t is. bounds_line_begins line.nogood line t refl is.bounds;
    } in
    exact_either (exact_zone_line areas) (exact_bounds_line areas) chosen
