-- The bytes and the columns of a line, unit by unit.
use Rattle.std.proofs.Common.{◌≡◌, ℕ, suc, ◌+◌, ◌<◌, List, [], ◌∷◌, ◌++◌, length, take, get_or, refl, sym, ◌∙◌, ap, ap₂, arith}
use Rattle.std.proofs.Common.{append_assoc}
use Rattle.std.proofs.Common.{append-nil, if◌then◌else◌, ne_eqb}
use Rattle.std.specs.List.{flat_map}
use Rattle.std.proofs.lemmas.List.{length-take-le}
use Rattle.std.proofs.lemmas.List.Concat.{flat_map-append}
use Rattle.std.proofs.lemmas.List.Sums.{sum_by-cons}
use Rattle.tl_base.proofs.Taken.{taken_more}
use Rattle.tl_text.specs.declared.paragraph.Atom.{Atom}
use Rattle.tl_text.specs.declared.paragraph.Atom.TheVariants.{Break}
use Rattle.tl_text.specs.Paragraph.{unit_width, gap_before}
use Rattle.tl_text.specs.Cuttings.{line_width}
use Rattle.tl_text.proofs.Widths.{line_width-push}
use Rattle.tl_page.specs.declared.line.TextLine.{TextLine}
use Rattle.tl_page.specs.Pages.{text_of, line_text, line_from}
use Rattle.tl_page.specs.Pictures.{spaces}
use Rattle.tl_page.specs.inner.Lines.{gap_in_line}

-- a gap is before each unit but the first
gap_later : (n : ℕ) (unit : Atom) → gap_in_line (suc n) unit ≡ gap_before unit
gap_later n unit = ap (λ first. if first then 0 else gap_before unit) (ne_eqb (suc n) 0 (λ none. absurd (omega (arith, none))))

-- the bytes of a line with one more unit
pub line_text-push : (line : List Atom) (unit : Atom) →
    line_text (line ++ unit ∷ []) ≡ line_text line ++ (spaces (gap_in_line (length line) unit) ++ text_of unit)
line_text-push [] unit = append-nil (text_of unit)
line_text-push (first ∷ line) unit =
    ap (λ more. text_of first ++ more) (flat_map-append lead line (unit ∷ []) ∙ ap (λ last. flat_map lead line ++ last)
    (append-nil (lead unit)))
    ∙ sym (append_assoc (text_of first) (flat_map lead line) (lead unit))
    ∙ ap (λ gap. line_text (first ∷ line) ++ (spaces gap ++ text_of unit)) (sym (gap_later (length line) unit)) where
      lead : Atom → List ℕ
      lead more = spaces (gap_before more) ++ text_of more

-- the columns of a line with one more unit
pub line_width-more : (line : List Atom) (unit : Atom) →
    line_width (line ++ unit ∷ []) ≡ line_width line + (gap_in_line (length line) unit + unit_width unit)
line_width-more [] unit = omega (arith, sum_by-cons unit_width unit [])
line_width-more (first ∷ line) unit = omega (arith, line_width-push first line unit, gap_later (length line) unit)

-- a break at the end of a line has no bytes
break_text : (line : List Atom) → line_text (line ++ Break ∷ []) ≡ line_text line
break_text [] = refl
break_text (first ∷ line) =
    line_text-push (first ∷ line) Break
    ∙ ap (λ gap. line_text (first ∷ line) ++ (spaces gap ++ [])) (gap_later (length line) Break)
    ∙ append-nil (line_text (first ∷ line))

-- a break at the end of a line takes no columns
break_width : (line : List Atom) → line_width (line ++ Break ∷ []) ≡ line_width line
break_width [] = omega arith
break_width (first ∷ line) = omega (arith, line_width-push first line Break)

-- a line is the same with a break at its end as without it
pub line_from-break : (line : List Atom) → line_from (line ++ Break ∷ []) ≡ line_from line
line_from-break line =
    ap₂ (λ (text : List ℕ) (width : ℕ). let made : TextLine = record { text = text; width = width } in
    made) (break_text line) (break_width line)

-- a line's units up to one more
pub units_more : (units : List Atom) (n : ℕ) (unit : Atom) → n < length units → unit ≡ get_or units n unit →
    (line_text (take (n + 1) units) ≡ line_text (take n units) ++ (spaces (gap_in_line n unit) ++ text_of unit))
    × (line_width (take (n + 1) units) ≡ line_width (take n units) + (gap_in_line n unit + unit_width unit))
units_more units n unit within is =
    let more = taken_more units n unit unit within is in
    let place : length (take n units) ≡ n = length-take-le n units (omega arith) in (
      ap line_text more ∙ line_text-push (take n units) unit
          ∙ ap (λ at. line_text (take n units) ++ (spaces (gap_in_line at unit) ++ text_of unit)) place,
      ap line_width more ∙ line_width-more (take n units) unit
          ∙ ap (λ at. line_width (take n units) + (gap_in_line at unit + unit_width unit)) place,
    )
