-- Of a table in whose cells none is nested, a layout has one page: each paragraph has one greedy cutting, and else the page is
-- drawn by a function.
use Rattle.std.proofs.Common.{◌≡◌, ◌≢◌, ◌∙◌, ℕ, zero, suc, ◌<◌, ◌≤◌, List, [], ◌∷◌, ◌++◌, get_or, length, map, refl, sym, ap, ap₂, subst}
use Rattle.std.proofs.Common.{arith}
use Rattle.std.specs.Prelude.{drop}
use Rattle.std.specs.List.{AllByRecursion, AllZip, flat_map}
use Rattle.std.proofs.lemmas.List.{length-append}
use Rattle.std.proofs.lemmas.List.Concat.{flat_map-cons}
use Rattle.std.proofs.lemmas.List.Sums.{sum_by-append, sum_by-cons}
use Rattle.tl_base.proofs.Members.{AllByRecursion-suffix, AllByRecursion-prefix}
use Rattle.tl_text.specs.declared.paragraph.Atom.{Atom}
use Rattle.tl_text.specs.Paragraph.{gap_before, lined_pieces, unit_width}
use Rattle.tl_text.specs.Cuttings.{FillsLines, HoldsIn, IsGreedyCutting, IsPieceCut, joined, line_width}
use Rattle.tl_table.specs.declared.cell.Content.{Content, out-Content}
use Rattle.tl_table.specs.declared.cell.Content.TheOpen as open_content
use Rattle.tl_table.specs.declared.cell.Table.{Table, out-Table}
use Rattle.tl_table.specs.declared.cell.TableCell.{TableCell, out-TableCell}
use Rattle.tl_table.specs.declared.layout.Layout.{Layout, out-Layout}
use Rattle.tl_table.specs.Tables.{OpenTable, OpenContent, tables_of}
use Rattle.tl_table.specs.Layouts.{OpenLayout, width_for}
use Rattle.tl_sides.specs.declared.side.Side.{Side}
use Rattle.tl_align.specs.Sides.{side_of}
use Rattle.tl_page.specs.declared.line.TextLine.{TextLine}
use Rattle.tl_page.specs.declared.look.Look.{Look}
use Rattle.tl_page.specs.Pages.{AreParagraphLines, IsPage, ShowsBlock, ShowsBy, ShowsCell, ShowsWithin, aligned, grid_of, line_from}
use Rattle.tl_page.specs.Pages as pages
use Rattle.tl_page.specs.Pictures.{lines_of, picture}
use Rattle.tl_lay.specs.Flat.{HasNoNested}
use Rattle.tl_lay.proofs.FlatTables.{AreFlatBlocks, AreFlatCells, flat_block, flat_blocks, flat_cell, flat_cells}

-- ---- a greedy cutting

-- of two ways to part one list, the first parts are the same, or one of them goes on
data Parts (xs ys : List Atom) : Type 0 where
  same_first : xs ≡ ys → Parts xs ys
  first_shorter : (x : Atom) (more : List Atom) → xs ++ x ∷ more ≡ ys → Parts xs ys
  first_longer : (x : Atom) (more : List Atom) → ys ++ x ∷ more ≡ xs → Parts xs ys

two_parts : (xs left ys right : List Atom) → xs ++ left ≡ ys ++ right → Parts xs ys
two_parts [] left [] right same = same_first refl
two_parts [] left (y ∷ ys) right same = first_shorter y ys refl
two_parts (x ∷ xs) left [] right same = first_longer x xs refl
two_parts (x ∷ xs) left (y ∷ ys) right same = by_rest (two_parts xs left ys right (tail_same same)) where
  tail_same : x ∷ (xs ++ left) ≡ y ∷ (ys ++ right) → xs ++ left ≡ ys ++ right
  tail_same e = ap (drop 1) e

  head_same : x ≡ y
  head_same = cc

  by_rest : Parts xs ys → Parts (x ∷ xs) (y ∷ ys)
  by_rest (same_first rest) = same_first (ap₂ (λ (a : Atom) (all : List Atom). a ∷ all) head_same rest)
  by_rest (first_shorter next more rest) =
      first_shorter next more (ap₂ (λ (a : Atom) (all : List Atom). a ∷ all) head_same rest)
  by_rest (first_longer next more rest) =
      first_longer next more (ap₂ (λ (a : Atom) (all : List Atom). a ∷ all) (sym head_same) rest)

-- a line that goes on is no narrower than its beginning
begins_narrower : (first : Atom) (line : List Atom) (next : Atom) (more : List Atom) →
    line_width ((first ∷ line) ++ next ∷ []) ≤ line_width ((first ∷ line) ++ next ∷ more)
begins_narrower first line next more = omega (
  arith,
  sum_by-cons unit_width first (line ++ next ∷ []),
  sum_by-cons unit_width first (line ++ next ∷ more),
  sum_by-append unit_width line (next ∷ []),
  sum_by-append unit_width line (next ∷ more),
  sum_by-cons unit_width next [],
  sum_by-cons unit_width next more,
  sum_by-append gap_before line (next ∷ []),
  sum_by-append gap_before line (next ∷ more),
  sum_by-cons gap_before next [],
  sum_by-cons gap_before next more,
)

abbrev Holds : ℕ → List Atom → Type 0
Holds w line = line_width line ≤ w

-- the same beginning taken away
drop_first : (xs ys zs : List Atom) → xs ++ ys ≡ xs ++ zs → ys ≡ zs
drop_first [] ys zs e = e
drop_first (x ∷ xs) ys zs e = drop_first xs ys zs (ap (drop 1) e)

-- where a line of one cutting goes on in the other, its next unit would have fitted
never_shorter : (w : ℕ) (line : List Atom) (lines : List (List Atom)) (rest : List Atom) (next : Atom) (more : List Atom) →
    line ≢ [] → AllByRecursion (λ one. one ≢ []) lines → FillsLines w (line ∷ lines) → Holds w (line ++ next ∷ more) →
    line ++ joined lines ≡ (line ++ next ∷ more) ++ rest → ⊥
never_shorter w [] lines rest next more some each fills holds same = some refl
never_shorter w (first ∷ line) [] rest next more some each fills holds same = omega (
  arith,
  ap length same,
  length-append (first ∷ line) [],
  length-append ((first ∷ line) ++ next ∷ more) rest,
  length-append (first ∷ line) (next ∷ more),
)
never_shorter w (first ∷ line) ([] ∷ lines) rest next more some each fills holds same = each.0 refl
never_shorter w (first ∷ line) ((unit ∷ units) ∷ lines) rest next more some each fills holds same =
    let narrow = begins_narrower first line next more in
    let over : w < line_width ((first ∷ line) ++ next ∷ []) =
    subst (λ (a : Atom). w < line_width ((first ∷ line) ++ a ∷ [])) unit_same fills.0 in
    omega (arith, narrow, over, holds)
  where
    associated : (xs ys zs : List Atom) → (xs ++ ys) ++ zs ≡ xs ++ (ys ++ zs)
    associated [] ys zs = refl
    associated (x ∷ xs) ys zs = ap (λ (all : List Atom). x ∷ all) (associated xs ys zs)

    rests : unit ∷ (units ++ joined lines) ≡ next ∷ (more ++ rest)
    rests = sym (flat_map-cons (λ (one : List Atom). one) (unit ∷ units) lines) ∙ drop_first (first ∷ line)
        (joined ((unit ∷ units) ∷ lines)) ((next ∷ more) ++ rest) (same ∙ associated (first ∷ line) (next ∷ more) rest)

    unit_same : unit ≡ next
    unit_same = ap (λ (all : List Atom). get_or all zero unit) rests

-- the lines of a piece are determined
one_piece : (w : ℕ) (ones others : List (List Atom)) → AllByRecursion (λ one. one ≢ []) ones →
    AllByRecursion (λ one. one ≢ []) others → joined ones ≡ joined others → AllByRecursion (Holds w) ones →
    AllByRecursion (Holds w) others → FillsLines w ones → FillsLines w others → ones ≡ others
one_piece w [] [] some each same holds fits fills filled = refl
one_piece w [] ([] ∷ others) some each same holds fits fills filled = absurd (each.0 refl)
one_piece w [] ((unit ∷ line) ∷ others) some each same holds fits fills filled = absurd (omega (arith, ap length same))
one_piece w ([] ∷ ones) [] some each same holds fits fills filled = absurd (some.0 refl)
one_piece w ((unit ∷ line) ∷ ones) [] some each same holds fits fills filled = absurd (omega (arith, ap length same))
one_piece w (one ∷ ones) (other ∷ others) some each same holds fits fills filled =
    by_parts (two_parts one (joined ones) other (joined others) split) (λ first. one_piece w ones others some.1 each.1
    (drop_first other (joined ones) (joined others) (ap (λ (line : List Atom). line ++ joined ones) (sym first) ∙ split)) holds.1
    fits.1 (later one ones fills) (later other others filled)) where
      split : one ++ joined ones ≡ other ++ joined others
      split = sym (flat_map-cons (λ (line : List Atom). line) one ones) ∙ same ∙ flat_map-cons (λ (line : List Atom). line) other others

      later : (first : List Atom) (lines : List (List Atom)) → FillsLines w (first ∷ lines) → FillsLines w lines
      later first [] all = tt
      later first (next ∷ lines) all = all.1

      by_parts : Parts one other → (one ≡ other → ones ≡ others) → one ∷ ones ≡ other ∷ others
      by_parts (same_first first) rest = ap₂ (λ (line : List Atom) (lines : List (List Atom)). line ∷ lines) first (rest first)
      by_parts (first_shorter next more goes_on) rest = absurd (never_shorter w one ones (joined others) next more some.0 some.1 fills
          (subst (Holds w) (sym goes_on) fits.0)
          (split ∙ ap (λ (line : List Atom). line ++ joined others) (sym goes_on)))
      by_parts (first_longer next more goes_on) rest = absurd (never_shorter w other others (joined ones) next more each.0 each.1 filled
          (subst (Holds w) (sym goes_on) holds.0)
          (sym split ∙ ap (λ (line : List Atom). line ++ joined ones) (sym goes_on)))

pieces_same : (w : ℕ) (pieces : List (List Atom)) (ones others : List (List (List Atom))) → AllZip IsPieceCut pieces ones →
    AllZip IsPieceCut pieces others → HoldsIn w ones → HoldsIn w others → AllByRecursion (FillsLines w) ones →
    AllByRecursion (FillsLines w) others → ones ≡ others
pieces_same w [] [] [] is are holds fits fills filled = refl
pieces_same w [] [] (other ∷ others) is are holds fits fills filled = absurd are
pieces_same w [] (one ∷ ones) others is are holds fits fills filled = absurd is
pieces_same w (piece ∷ pieces) [] others is are holds fits fills filled = absurd is
pieces_same w (piece ∷ pieces) (one ∷ ones) [] is are holds fits fills filled = absurd are
pieces_same w (piece ∷ pieces) (one ∷ ones) (other ∷ others) is are holds fits fills filled =
    ap₂ (λ (first : List (List Atom)) (rest : List (List (List Atom))). first ∷ rest)
    (by_piece piece is.0 are.0)
    (pieces_same w pieces ones others is.1 are.1 (AllByRecursion-suffix (Holds w) one (joined ones) both)
    (AllByRecursion-suffix (Holds w) other (joined others) all) fills.1 filled.1)
  where
    both : AllByRecursion (Holds w) (one ++ joined ones)
    both = subst (AllByRecursion (Holds w)) (flat_map-cons (λ (lines : List (List Atom)). lines) one ones) holds

    all : AllByRecursion (Holds w) (other ++ joined others)
    all = subst (AllByRecursion (Holds w)) (flat_map-cons (λ (lines : List (List Atom)). lines) other others) fits

    by_piece : (piece : List Atom) → IsPieceCut piece one → IsPieceCut piece other → one ≡ other
    by_piece [] cut also = cut ∙ sym also
    by_piece (unit ∷ units) cut also = one_piece w one other cut.0 also.0 (cut.1 ∙ sym also.1)
        (AllByRecursion-prefix (Holds w) one (joined ones) both) (AllByRecursion-prefix (Holds w) other (joined others) all)
        fills.0 filled.0

-- a paragraph has one greedy cutting in a width
one_cutting : (w : ℕ) (atoms : List Atom) (one other : List (List (List Atom))) → IsGreedyCutting w atoms one →
    IsGreedyCutting w atoms other → one ≡ other
one_cutting w atoms one other is are =
    pieces_same w (lined_pieces atoms) one other is.cutting are.cutting is.holds are.holds is.filled are.filled

-- ---- a page

-- what a block shows of a paragraph
one_block : (shows also : Table → Layout → List (List ℕ) → Type 0) (look : Look) (side : Side) (w : ℕ) (block : OpenContent)
    (one other : pages.Content) → tables_of block ≡ [] → ShowsBlock shows look side w block one →
    ShowsBlock also look side w block other → one.lines ≡ other.lines
one_block shows also look side w (open_content.Para paragraph) one other flat is are =
    let cut = one_cutting w paragraph is.cut.0 are.cut.0 is.cut.1 are.cut.1 in
    is.at_side ∙ ap (map (aligned side w))
    (is.cut.2 ∙ ap (λ (cut : List (List (List Atom))). map line_from (joined cut)) cut ∙ sym are.cut.2) ∙ sym are.at_side
one_block shows also look side w (open_content.Table box) one other flat is are = absurd (omega (arith, ap length flat))

one_lines : (shows also : Table → Layout → List (List ℕ) → Type 0) (look : Look) (side : Side) (w : ℕ) (blocks : List Content)
    (ones others : List pages.Content) → AreFlatBlocks blocks →
    AllZip (λ block part. ShowsBlock shows look side w (out-Content block) part) blocks ones →
    AllZip (λ block part. ShowsBlock also look side w (out-Content block) part) blocks others →
    flat_map (λ (part : pages.Content). part.lines) ones ≡ flat_map (λ (part : pages.Content). part.lines) others
one_lines shows also look side w [] [] [] flat is are = refl
one_lines shows also look side w [] [] (other ∷ others) flat is are = absurd are
one_lines shows also look side w [] (one ∷ ones) others flat is are = absurd is
one_lines shows also look side w (block ∷ blocks) [] others flat is are = absurd is
one_lines shows also look side w (block ∷ blocks) (one ∷ ones) [] flat is are = absurd are
one_lines shows also look side w (block ∷ blocks) (one ∷ ones) (other ∷ others) flat is are =
    flat_map-cons (λ (part : pages.Content). part.lines) one ones
    ∙ ap₂ (λ (first rest : List TextLine). first ++ rest)
    (one_block shows also look side w (out-Content block) one other (flat_block block blocks flat) is.0 are.0)
    (one_lines shows also look side w blocks ones others (flat_blocks block blocks flat) is.1 are.1)
    ∙ sym (flat_map-cons (λ (part : pages.Content). part.lines) other others)

one_contents : (shows also : Table → Layout → List (List ℕ) → Type 0) (look : Look) (table : OpenTable) (layout : OpenLayout)
    (cells : List TableCell) (ones others : List pages.Content) → AreFlatCells cells →
    AllZip (λ cell content. ShowsCell shows look (side_of look.align table (out-TableCell cell))
    (width_for look.style layout (out-TableCell cell).place) (out-TableCell cell) content)
    cells ones →
    AllZip (λ cell content. ShowsCell also look (side_of look.align table (out-TableCell cell))
    (width_for look.style layout (out-TableCell cell).place) (out-TableCell cell) content)
    cells others →
    map (λ (content : pages.Content). content.lines) ones ≡ map (λ (content : pages.Content). content.lines) others
one_contents shows also look table layout [] [] [] flat is are = refl
one_contents shows also look table layout [] [] (other ∷ others) flat is are = absurd are
one_contents shows also look table layout [] (one ∷ ones) others flat is are = absurd is
one_contents shows also look table layout (cell ∷ cells) [] others flat is are = absurd is
one_contents shows also look table layout (cell ∷ cells) (one ∷ ones) [] flat is are = absurd are
one_contents shows also look table layout (cell ∷ cells) (one ∷ ones) (other ∷ others) flat is are =
    ap₂ (λ (first : List TextLine) (rest : List (List TextLine)). first ∷ rest)
    (sym is.0.lines ∙ one_lines shows also look (side_of look.align table (out-TableCell cell))
    (width_for look.style layout (out-TableCell cell).place) (out-TableCell cell).blocks
    is.0.parts are.0.parts (flat_cell cell cells flat) is.0.blocks are.0.blocks ∙ are.0.lines)
    (one_contents shows also look table layout cells ones others (flat_cells cell cells flat) is.1 are.1)

-- a layout has one page
pub one_page : (look : Look) (table : Table) (layout : Layout) (one other : List (List ℕ)) → HasNoNested table →
    IsPage look table layout one → IsPage look table layout other → one ≡ other
one_page look table layout one other flat is are = by_depth is.0 are.0 is.1 are.1 where
  by_depth : (deep depth : ℕ) → ShowsWithin deep look table layout one → ShowsWithin depth look table layout other → one ≡ other
  by_depth zero depth shown drawn = absurd shown
  by_depth (suc deep) zero shown drawn = absurd drawn
  by_depth (suc deep) (suc depth) shown drawn =
      shown.drawn ∙ ap (λ (lines : List (List TextLine)). lines_of (picture look.style (grid_of (out-Table table)) (out-Layout layout).widths
      (out-Layout layout).heights lines))
      (one_contents (ShowsWithin deep look) (ShowsWithin depth look) look (out-Table table) (out-Layout layout) (out-Table table).cells
      shown.contents drawn.contents flat shown.cells drawn.cells)
      ∙ sym drawn.drawn
