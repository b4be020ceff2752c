-- Texts side by side take the columns of all of them.
use Rattle.std.proofs.Common.{◌≡◌, inl, inr, ℕ, zero, suc, ◌+◌, List, [], ◌∷◌, ◌++◌, sum_by, refl, ◌∙◌, ap, ap₂}
use Rattle.std.proofs.Common.{append-nil, arith}
use Rattle.std.specs.Char.{encode_utf8}
use Rattle.std.specs.List.{AllByRecursion, flat_map}
use Rattle.std.proofs.lemmas.List.Concat.{flat_map-append}
use Rattle.std.proofs.lemmas.List.Sums.{sum_by-cons, sum_by-append}
use Rattle.tl_page.specs.declared.line.TextLine.{TextLine}
use Rattle.tl_text.specs.declared.paragraph.Atom.{Atom}
use Rattle.tl_text.specs.Paragraph.{unit_width, gap_before}
use Rattle.tl_text.specs.Cuttings.{line_width}
use Rattle.tl_page.specs.Pages.{text_of, line_text}
use Rattle.tl_page.specs.Pictures.{spaces}
use Rattle.tl_page.specs.Signs.{IsSign, run}
use Rattle.tl_page.specs.Widths.{IsPiece, TakesColumns}
use Rattle.tl_page.proofs.SignLemmas.{run-spaces}

both : (P : TextLine → Type 0) (xs ys : List TextLine) → AllByRecursion P xs → AllByRecursion P ys → AllByRecursion P (xs ++ ys)
both P [] ys one other = other
both P (x ∷ xs) ys one other = (one.0, both P xs ys one.1 other)

pub HasWidth-none : TakesColumns [] 0
HasWidth-none = record { pieces = []; each = tt; bytes = refl; columns = refl }

pub HasWidth-append : (text more : List ℕ) (width columns all : ℕ) → TakesColumns text width → TakesColumns more columns →
    width + columns ≡ all →
    TakesColumns (text ++ more) all
HasWidth-append text more width columns all one other sum = record {
  pieces = one.pieces ++ other.pieces;
  each = both IsPiece one.pieces other.pieces one.each other.each;
  bytes = flat_map-append (λ (piece : TextLine). piece.text) one.pieces other.pieces ∙ ap₂ (λ (left right : List ℕ). left ++ right)
      one.bytes other.bytes;
  columns = omega (arith, sum_by-append (λ (piece : TextLine). piece.width) one.pieces other.pieces, one.columns, other.columns, sum);
}

-- a run of one sign
pub HasWidth-run : (sign count : ℕ) → IsSign sign → TakesColumns (run count sign) count
HasWidth-run sign zero is = HasWidth-none
HasWidth-run sign (suc count) is =
    let rest = HasWidth-run sign count is in
    let piece : TextLine = record { text = encode_utf8 sign; width = 1 } in
    record {
      pieces = piece ∷ rest.pieces;
      each = (inr (sign, is, refl), rest.each);
      bytes = ap (λ more. encode_utf8 sign ++ more) rest.bytes;
      columns = omega (arith, sum_by-cons (λ (piece : TextLine). piece.width) piece rest.pieces, rest.columns);
    }

pub HasWidth-is : (text : List ℕ) (width columns : ℕ) → TakesColumns text width → width ≡ columns → TakesColumns text columns
HasWidth-is text width columns one same = record {
  pieces = one.pieces;
  each = one.each;
  bytes = one.bytes;
  columns =
      one.columns ∙ same;
}

pub HasWidth-same : (text other : List ℕ) (width : ℕ) → TakesColumns text width → text ≡ other → TakesColumns other width
HasWidth-same text other width one same = record {
  pieces = one.pieces;
  each = one.each;
  bytes = one.bytes ∙ same;
  columns =
      one.columns;
}

-- a run of spaces
pub HasWidth-spaces : (count : ℕ) → TakesColumns (spaces count) count
HasWidth-spaces count =
    HasWidth-same (run count 0x20) (spaces count) count (HasWidth-run 0x20 count (0, omega arith, refl)) (run-spaces count)

-- ---- lines of units

-- a unit takes the columns of its text
pub HasWidth-unit : (unit : Atom) → TakesColumns (text_of unit) (unit_width unit)
HasWidth-unit unit =
    let piece : TextLine = record { text = text_of unit; width = unit_width unit } in
    record {
      pieces = piece ∷ [];
      each = (inl (unit, refl), tt);
      bytes = append-nil (text_of unit);
      columns = omega (arith, sum_by-cons (λ (piece : TextLine). piece.width) piece []);
    }

-- units each with the gap before it
HasWidth-units : (units : List Atom) → TakesColumns (flat_map (λ next. spaces (gap_before next) ++ text_of next) units)
    (sum_by unit_width units + sum_by gap_before units)
HasWidth-units [] = HasWidth-none
HasWidth-units (unit ∷ units) =
    HasWidth-append (spaces (gap_before unit) ++ text_of unit) (flat_map (λ next. spaces (gap_before next) ++ text_of next) units)
    (gap_before unit + unit_width unit) (sum_by unit_width units + sum_by gap_before units)
    (sum_by unit_width (unit ∷ units) + sum_by gap_before (unit ∷ units))
    (HasWidth-append (spaces (gap_before unit)) (text_of unit) (gap_before unit) (unit_width unit)
    (gap_before unit + unit_width unit)
    (HasWidth-spaces (gap_before unit)) (HasWidth-unit unit) refl)
    (HasWidth-units units) (omega (arith, sum_by-cons unit_width unit units, sum_by-cons gap_before unit units))

-- a line takes the columns of its units and of the gaps between them
pub HasWidth-line : (line : List Atom) → TakesColumns (line_text line) (line_width line)
HasWidth-line [] = HasWidth-none
HasWidth-line (unit ∷ units) =
    HasWidth-append (text_of unit) (flat_map (λ next. spaces (gap_before next) ++ text_of next) units) (unit_width unit)
    (sum_by unit_width units + sum_by gap_before units) (line_width (unit ∷ units)) (HasWidth-unit unit) (HasWidth-units units)
    (omega (arith, sum_by-cons unit_width unit units))
