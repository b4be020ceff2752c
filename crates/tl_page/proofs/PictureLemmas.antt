-- Pictures that are the same, piece by piece.
use Rattle.std.proofs.Common.{◌≡◌, ℕ, ◌+◌, List, Option, ◌∙◌, ap}
use Rattle.std.proofs.Math.Path.{fun_ext}
use Rattle.tl_base.specs.declared.style.Style.{Style}
use Rattle.tl_base.specs.Style.{gap_of, edge_of}
use Rattle.tl_base.specs.Sizes.{room}
use Rattle.tl_grid.specs.declared.shape.Place.{Place}
use Rattle.tl_page.specs.declared.line.Drawn.{Drawn}
use Rattle.tl_page.specs.declared.line.TextLine.{TextLine}
use Rattle.tl_page.specs.declared.owner.Owner.{Owner}
use Rattle.tl_page.specs.declared.strip.Gaps.{Gaps}
use Rattle.tl_page.specs.declared.strip.Strip.{Strip}
use Rattle.tl_page.specs.Pictures.{Picture, drawn_cell}
use Rattle.tl_page.specs.Strips.{begin_in, strips}

abbrev made : Style → List Strip → List Strip → (ℕ → ℕ → Owner) → Option ℕ → List Drawn → Picture
made style across down owner head cells = record {
  style = style;
  across = across;
  down = down;
  owner = owner;
  head = head;
  cells = cells;
}

pub same_picture : (style : Style) (across across' down down' : List Strip) (owner owner' : ℕ → ℕ → Owner)
    (head head' : Option ℕ) (cells : List Drawn) →
    across ≡ across' → down ≡ down' → ((column row : ℕ) → owner column row ≡ owner' column row) → head ≡ head' →
    made style across down owner head cells ≡ made style across' down' owner' head' cells
same_picture style across across' down down' owner owner' head head' cells one two three four =
    ap (λ (some : List Strip). made style some down owner head cells) one
    ∙ ap (λ (some : List Strip). made style across' some owner head cells) two
    ∙ ap (λ (some : ℕ → ℕ → Owner). made style across' down' some head cells)
    (fun_ext (λ column. fun_ext (λ row. three column row)))
    ∙ ap (λ (some : Option ℕ). made style across' down' owner' some cells) four

pub same_strips : (gaps gaps' : Gaps) (edge edge' : ℕ) (sizes sizes' : List ℕ) → gaps ≡ gaps' → edge ≡ edge' → sizes ≡ sizes' →
    strips gaps edge sizes ≡ strips gaps' edge' sizes'
same_strips gaps gaps' edge edge' sizes sizes' one two three =
    ap (λ (some : Gaps). strips some edge sizes) one ∙ ap (λ (some : ℕ). strips gaps' some sizes) two ∙ ap
    (λ (some : List ℕ). strips gaps' edge' some) three

-- a cell with its lines, by the numbers that the code finds
abbrev pub cell_with : ℕ → ℕ → ℕ → List TextLine → Drawn
cell_with left columns first lines = record { left = left; columns = columns; first = first; lines = lines }

pub same_drawn : (style : Style) (rows : Gaps) (widths heights : List ℕ) (place : Place) (columns first : ℕ) (lines : List TextLine) →
    columns ≡ room (gap_of style) widths place.left place.right →
    first ≡ edge_of style + begin_in rows heights place.top →
    cell_with place.left columns first lines ≡ drawn_cell style rows widths heights place lines
same_drawn style rows widths heights place columns first lines one two =
    ap (λ (some : ℕ). cell_with place.left some first lines) one
    ∙ ap (λ (some : ℕ). cell_with place.left (room (gap_of style) widths place.left place.right) some lines) two

-- a line of this width
abbrev pub line_with : ℕ → List ℕ → TextLine
line_with width text = record { text = text; width = width }
