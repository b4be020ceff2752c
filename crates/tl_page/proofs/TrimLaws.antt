-- What trimming takes from a line, and what it keeps.
use Rattle.std.proofs.Common.{◌≡◌, ◌≢◌, ℕ, suc, ◌≤◌, List, [], ◌∷◌, ◌++◌, length, map, inl, inr, Some, refl, sym, ap, subst}
use Rattle.std.proofs.Common.{◌∙◌, arith, append_assoc, if◌then◌else◌, ne_eqb, option_map}
use Rattle.std.specs.List.{flat_map}
use Rattle.std.proofs.lemmas.Bool.{cases_eq, eq-eqb}
use Rattle.std.proofs.lemmas.List.{length-append}
use Rattle.std.proofs.lemmas.List.Concat.{flat_map-cons}
use Rattle.std.proofs.lemmas.Option.{slice_get-map}
use Rattle.tl_page.specs.Pages.{page_bytes}
use Rattle.tl_page.specs.Pictures.{spaces}
use Rattle.tl_page.specs.Trimmed.{unless_last_space, trimmed, EndsInText}
use Rattle.tl_page.specs.Trimmed.{TrimmingTakesSpaces, TrimmedLinesEndInText, TrimmingKeepsText, TrimmedLinesFillUp}
use Rattle.tl_page.specs.Widths.{TakesColumns}

-- ---- the end of a line

-- a space alone is left out, another byte is not
space_out : (byte : ℕ) → byte ≡ 0x20 → unless_last_space byte [] ≡ []
space_out byte same = ap (λ t. if t then [] else byte ∷ []) (eq-eqb byte 0x20 same)

byte_kept : (byte : ℕ) (rest : List ℕ) → byte ≢ 0x20 → unless_last_space byte rest ≡ byte ∷ rest
byte_kept byte [] other = ap (λ t. if t then [] else byte ∷ []) (ne_eqb byte 0x20 other)
byte_kept byte (next ∷ rest) other = refl

-- a byte before others is kept
first_kept : (first : ℕ) (line : List ℕ) (byte : ℕ) (rest : List ℕ) →
    unless_last_space first (line ++ byte ∷ rest) ≡ first ∷ (line ++ byte ∷ rest)
first_kept first [] byte rest = refl
first_kept first (next ∷ line) byte rest = refl

-- a space at the end of a line is left out
pub trimmed-space : (line : List ℕ) → trimmed (line ++ 0x20 ∷ []) ≡ trimmed line
trimmed-space [] = refl
trimmed-space (byte ∷ line) = ap (unless_last_space byte) (trimmed-space line)

-- a line is kept up to a byte that is no space
pub trimmed-kept : (line : List ℕ) (byte : ℕ) (rest : List ℕ) → byte ≢ 0x20 →
    trimmed (line ++ byte ∷ rest) ≡ line ++ byte ∷ trimmed rest
trimmed-kept [] byte rest other = byte_kept byte (trimmed rest) other
trimmed-kept (first ∷ line) byte rest other =
    ap (unless_last_space first) (trimmed-kept line byte rest other) ∙ first_kept first line byte (trimmed rest)

-- ---- what is taken

-- a byte and a line that is another and then spaces
taken : (byte : ℕ) (line short : List ℕ) (count : ℕ) → line ≡ short ++ spaces count →
    (all : ℕ) × (byte ∷ line ≡ unless_last_space byte short ++ spaces all)
taken byte line [] count is = elim (cases_eq byte 0x20) [
  | inl same ↦ (
    suc count,
    ap (λ b. b ∷ line) same ∙ ap (λ l. 0x20 ∷ l) is ∙ ap (λ l. l ++ spaces (suc count)) (sym (space_out byte same)),
  )
  | inr other ↦ (count, ap (λ l. byte ∷ l) is ∙ ap (λ l. l ++ spaces count) (sym (byte_kept byte [] other)))
]
taken byte line (next ∷ rest) count is = (count, ap (λ l. byte ∷ l) is)

pub takes_spaces : TrimmingTakesSpaces
takes_spaces [] = (0, refl)
takes_spaces (byte ∷ line) =
    let more = takes_spaces line in taken byte line (trimmed line) more.0 more.1

-- ---- what is left

-- a trimmed line is no longer than the line
trimmed-le : (line : List ℕ) → length (trimmed line) ≤ length line
trimmed-le line =
    let more = takes_spaces line in
    omega (arith, ap length more.1, length-append (trimmed line) (spaces more.0))

-- trimming twice is trimming once
again : (byte : ℕ) (short : List ℕ) → trimmed short ≡ short → trimmed (unless_last_space byte short) ≡ unless_last_space byte short
again byte [] is = elim (cases_eq byte 0x20) [
  | inl same ↦ ap trimmed (space_out byte same) ∙ sym (space_out byte same)
  | inr other ↦ ap trimmed (byte_kept byte [] other) ∙ refl
]
again byte (next ∷ rest) is = ap (unless_last_space byte) is

trimmed-trimmed : (line : List ℕ) → trimmed (trimmed line) ≡ trimmed line
trimmed-trimmed [] = refl
trimmed-trimmed (byte ∷ line) = again byte (trimmed line) (trimmed-trimmed line)

pub end_in_text : TrimmedLinesEndInText
end_in_text line before is =
    let short : trimmed line ≡ trimmed before = sym (trimmed-trimmed line) ∙ ap trimmed is ∙ trimmed-space before in
    omega (
      arith,
      ap length is,
      ap length short,
      trimmed-le before,
      length-append before (0x20 ∷ []),
    )

-- ---- the text of a page

-- a text that ends in no space, inside a line
inside_line : (before text after : List ℕ) → EndsInText text →
    trimmed (before ++ (text ++ after)) ≡ before ++ (text ++ trimmed after)
inside_line before text after (front, last, other, is) =
    ap trimmed (parted after) ∙ trimmed-kept (before ++ front) last after other ∙ sym (parted (trimmed after)) where
      parted : (rest : List ℕ) → before ++ (text ++ rest) ≡ (before ++ front) ++ last ∷ rest
      parted rest = ap (λ t. before ++ (t ++ rest)) is ∙ ap (λ t. before ++ t) (append_assoc front (last ∷ []) rest)
          ∙ sym (append_assoc before front (last ∷ rest))

pub keeps_text : TrimmingKeepsText
keeps_text page x y text ends stands = record {
  before = stands.before;
  after = trimmed stands.after;
  columns = stands.columns;
  line = slice_get-map trimmed page y ∙ ap (option_map trimmed) stands.line
      ∙ ap (λ (line : List ℕ). Some line) (inside_line stands.before text stands.after ends);
}

pub fill_up : TrimmedLinesFillUp
fill_up line columns takes =
    let more = takes_spaces line in (more.0, subst (λ (text : List ℕ). TakesColumns text columns) more.1 takes)

-- ---- from the end of a line

-- a line that ends in no space is trimmed
pub trimmed-ended : (line before : List ℕ) (last : ℕ) → line ≡ before ++ last ∷ [] → last ≢ 0x20 → trimmed line ≡ line
trimmed-ended line before last is other = ap trimmed is ∙ trimmed-kept before last [] other ∙ sym is

-- and one that ends in a space is trimmed as what is before it
pub trimmed-before : (line before : List ℕ) (last : ℕ) → line ≡ before ++ last ∷ [] → last ≡ 0x20 → trimmed before ≡ trimmed line
trimmed-before line before last is same =
    sym (ap trimmed (is ∙ ap (λ (byte : ℕ). before ++ byte ∷ []) same) ∙ trimmed-space before)

-- no line is trimmed
pub trimmed-none : (line : List ℕ) → length line ≡ 0 → trimmed line ≡ line
trimmed-none [] none = refl
trimmed-none (byte ∷ line) none = absurd (omega (arith, none))

-- ---- the bytes of a trimmed page

-- a trimmed line and its line feed
abbrev pub trimmed_line : List ℕ → List ℕ
trimmed_line line = trimmed line ++ 0x0A ∷ []

-- the bytes of a trimmed page are those of its trimmed lines
pub trimmed_bytes : (page : List (List ℕ)) → page_bytes (map trimmed page) ≡ flat_map trimmed_line page
trimmed_bytes [] = refl
trimmed_bytes (line ∷ page) =
    flat_map-cons (λ (text : List ℕ). text ++ 0x0A ∷ []) (trimmed line) (map trimmed page)
    ∙ ap (λ rest. trimmed_line line ++ rest) (trimmed_bytes page) ∙ sym (flat_map-cons trimmed_line line page)
