-- Blocks and cells one after the other: what those so far take, and what each layout that fits leaves to the others.
use Rattle.std.proofs.Common.{◌≡◌, ℕ, zero, suc, ◌+◌, ◌<◌, ◌≤◌, List, [], ◌∷◌, ◌++◌, Some, None, length, take, drop, get_or}
use Rattle.std.proofs.Common.{sum_by, refl, sym, ◌∙◌}
use Rattle.std.proofs.Common.{ap, subst, append_assoc, append-nil, arith}
use Rattle.std.specs.List.{AllZip, Any, flat_map}
use Rattle.std.proofs.lemmas.List.Elements.{All-from_recursion}
use Rattle.std.proofs.lemmas.List.{drop_all, take_all, drop_more, length-drop}
use Rattle.std.proofs.lemmas.List.Sums.{sum_by-cons, sum_by-append}
use Rattle.std.specs.declared.alloc.Global.{Global}
use Rattle.std.specs.declared.boxed.Box.{Box}
use Rattle.tl_base.proofs.Zips.{AllZip-weaker}
use Rattle.tl_base.specs.declared.style.Style.{Style}
use Rattle.tl_base.proofs.Taken.{AllZip-taken}
use Rattle.tl_text.specs.declared.paragraph.Atom.{Atom}
use Rattle.tl_text.specs.Paragraph.{unit_width}
use Rattle.tl_text.specs.Cuttings.{LeastLines}
use Rattle.tl_text.proofs.Paragraphs.{atoms-of-cut-fit}
use Rattle.tl_table.specs.declared.cell.Content.{Content as Block, out-Content}
use Rattle.tl_table.specs.declared.cell.Content.TheOpen as open_content
use Rattle.tl_table.specs.declared.cell.Table.{Table, out-Table}
use Rattle.tl_table.specs.declared.cell.TableCell.{TableCell, out-TableCell}
use Rattle.tl_table.specs.declared.layout.Layout.{Layout, out-Layout}
use Rattle.tl_table.specs.Tables.{OpenTable, OpenCell, OpenContent}
use Rattle.tl_table.specs.Layouts.{OpenLayout, Share, FitsShare, FitsRoom, FitsCell, FitsBy, FitsWithin, total_width}
use Rattle.tl_table.specs.Layouts.{total_height, width_for, height_for}
use Rattle.tl_table.proofs.Deeper.{FitsShare-weaker, FitsRoom-weaker, FitsWithin-deeper, FitsWithin-deeper'}
use Rattle.tl_page.specs.declared.measure.Taken.{Taken}
use Rattle.tl_page.specs.inner.Taking.{TakesBlock, TakesCell, TakesTable}
use Rattle.tl_page.proofs.Progress.{left_first, flat_map-push, one_further}

-- ---- levels

share-deeper : (more level : ℕ) (style : Style) (w : ℕ) (block : OpenContent) (share : Share) →
    FitsShare (FitsWithin level style) w block share →
    FitsShare (FitsWithin (more + level) style) w block share
share-deeper more level style w block share fits =
    FitsShare-weaker (FitsWithin level style) (FitsWithin (more + level) style)
    (λ table width height layout one. FitsWithin-deeper more level style table width height layout one) w block share fits

share-deeper' : (more level : ℕ) (style : Style) (w : ℕ) (block : OpenContent) (share : Share) →
    FitsShare (FitsWithin level style) w block share →
    FitsShare (FitsWithin (level + more) style) w block share
share-deeper' more level style w block share fits =
    FitsShare-weaker (FitsWithin level style) (FitsWithin (level + more) style)
    (λ table width height layout one. FitsWithin-deeper' more level style table width height layout one) w block share fits

room-deeper : (more level : ℕ) (style : Style) (w h : ℕ) (cell : OpenCell) (given : List Layout) →
    FitsRoom (FitsWithin level style) w h cell given →
    FitsRoom (FitsWithin (more + level) style) w h cell given
room-deeper more level style w h cell given fits =
    FitsRoom-weaker (FitsWithin level style) (FitsWithin (more + level) style)
    (λ table width height layout one. FitsWithin-deeper more level style table width height layout one) w h cell given fits

room-deeper' : (more level : ℕ) (style : Style) (w h : ℕ) (cell : OpenCell) (given : List Layout) →
    FitsRoom (FitsWithin level style) w h cell given →
    FitsRoom (FitsWithin (level + more) style) w h cell given
room-deeper' more level style w h cell given fits =
    FitsRoom-weaker (FitsWithin level style) (FitsWithin (level + more) style)
    (λ table width height layout one. FitsWithin-deeper' more level style table width height layout one) w h cell given fits

-- ---- a paragraph

pub paragraph-takes : (style : Style) (w : ℕ) (paragraph : List Atom) (inner : List Layout) (next n : ℕ) →
    LeastLines w paragraph n →
    TakesBlock style w (open_content.Para paragraph) inner next (Some (record { lines = n; next = next }))
paragraph-takes style w paragraph inner next n least = record {
  fits = (
    0,
    record { height = n; inner = [] },
    (
      (
        least.attained.0,
        least.attained.1,
        least.attained.2,
        omega (arith, least.attained.3),
      ),
      refl,
    ),
    refl,
    refl,
  );
  least = λ level share more fits split. (
    omega (arith, least.least fits.0.0 fits.0.1 fits.0.2, fits.0.3),
    ap (λ given. given ++ more) (sym fits.1) ∙ split,
  );
}

pub paragraph-too-wide : (style : Style) (w : ℕ) (paragraph : List Atom) (inner : List Layout) (next : ℕ) →
    Any (λ atom. w < unit_width atom) paragraph →
    TakesBlock style w (open_content.Para paragraph) inner next None
paragraph-too-wide style w paragraph inner next (k, atom, within, here, wide) = record {
  fits = tt;
  least = λ level share more fits split.
      let each = All-from_recursion (λ atom. unit_width atom ≤ w) paragraph
      (atoms-of-cut-fit w paragraph fits.0.0 fits.0.1 fits.0.2) in
      let small = subst (λ (atom : Atom). unit_width atom ≤ w) here (each k atom within) in
      absurd (omega (arith, wide, small));
}

-- ---- a nested table

-- no layout is left for it
pub nested-none : (style : Style) (w : ℕ) (box : Box Table Global) (inner : List Layout) (next : ℕ) → length inner ≤ next →
    TakesBlock style w (open_content.Table box) inner next None
nested-none style w box inner next past = record {
  fits = tt;
  least = λ level share more fits split.
      absurd (omega (arith, ap length (ap (λ given. given ++ more) (sym fits.given) ∙ split ∙ drop_all next inner past)));
}

-- the layout that it is given is the next one
given-next : (inner : List Layout) (next : ℕ) (layout given : Layout) (more : List Layout) → next < length inner →
    layout ≡ get_or inner next layout →
    given ∷ more ≡ drop next inner → (given ≡ layout) × (more ≡ drop (next + 1) inner)
given-next inner next layout given more within is split =
    let whole : given ∷ more ≡ layout ∷ drop (next + 1) inner =
    split ∙ drop_more inner next layout within ∙ ap (λ first. first ∷ drop (next + 1) inner) (sym is) in
    (ap (λ list. get_or list 0 given) whole, ap (drop 1) whole)

pub nested-takes : (style : Style) (w : ℕ) (box : Box Table Global) (inner : List Layout) (next height : ℕ) (layout : Layout) →
    next < length inner →
    layout ≡ get_or inner next layout → TakesTable style w box.value layout (Some height) →
    TakesBlock style w (open_content.Table box) inner next (Some (record { lines = height; next = next + 1 }))
nested-takes style w box inner next height layout within is takes = record {
  fits = (
    takes.fits.0,
    record { height = height; inner = layout ∷ [] },
    record { layout = layout; height = height; laid = takes.fits.1; within = omega arith; given = refl },
    refl,
    ap (λ first. first ∷ drop (next + 1) inner) is ∙ sym (drop_more inner next layout within),
  );
  least = λ level share more fits split.
      let one = given-next inner next layout fits.layout more within is (ap (λ given. given ++ more) (sym fits.given) ∙ split) in
      let same = takes.all fits.height (level, subst (FitsWithin level style box.value w fits.height) one.0 fits.laid) in
      (omega (arith, same, fits.within), one.1);
}

pub nested-fits-none : (style : Style) (w : ℕ) (box : Box Table Global) (inner : List Layout) (next : ℕ) (layout : Layout) →
    next < length inner →
    layout ≡ get_or inner next layout → TakesTable style w box.value layout None →
    TakesBlock style w (open_content.Table box) inner next None
nested-fits-none style w box inner next layout within is takes = record {
  fits = tt;
  least = λ level share more fits split.
      let one = given-next inner next layout fits.layout more within is (ap (λ given. given ++ more) (sym fits.given) ∙ split) in
      takes.all fits.height (level, subst (FitsWithin level style box.value w fits.height) one.0 fits.laid);
}

-- ---- the blocks of a cell

-- the first `i` blocks take so many lines, and whatever fits leaves the layouts from `next` on to the others
pub record BlocksTaken (style : Style) (w : ℕ) (blocks : List Block) (inner : List Layout) (start i lines next : ℕ) : Type 0 where
  pub level : ℕ
  pub shares : List Share
  pub fits : AllZip (λ block share. FitsShare (FitsWithin level style) w (out-Content block) share) (take i blocks) shares
  pub used : sum_by (λ share. share.height) shares ≡ lines
  pub rest : flat_map (λ share. share.inner) shares ++ drop next inner ≡ drop start inner
  pub least : (level : ℕ) (all : List Share) (more : List Layout) →
      AllZip (λ block share. FitsShare (FitsWithin level style) w (out-Content block) share) blocks all →
      flat_map (λ share. share.inner) all ++ more ≡ drop start inner →
      (left : List Share) × AllZip (λ block share. FitsShare (FitsWithin level style) w (out-Content block) share)
      (drop i blocks) left
      × (lines + sum_by (λ share. share.height) left ≤ sum_by (λ share. share.height) all)
      × (flat_map (λ share. share.inner) left ++ more ≡ drop next inner)

pub blocks_taken-none : (style : Style) (w : ℕ) (blocks : List Block) (inner : List Layout) (start : ℕ) →
    BlocksTaken style w blocks inner start 0 0 start
blocks_taken-none style w blocks inner start = record {
  level = 0;
  shares = [];
  fits = tt;
  used = refl;
  rest = refl;
  least = λ level all more fits split. (all, fits, omega arith, split);
}

pub blocks_taken-more : (style : Style) (w : ℕ) (blocks : List Block) (inner : List Layout) (start i lines next : ℕ)
    (block : Block) (taken : Taken) →
    i < length blocks → block ≡ get_or blocks i block → BlocksTaken style w blocks inner start i lines next →
    TakesBlock style w (out-Content block) inner next (Some taken) →
    BlocksTaken style w blocks inner start (i + 1) (lines + taken.lines) taken.next
blocks_taken-more style w blocks inner start i lines next block taken within is sofar takes =
    let level = takes.fits.0 in
    let share = takes.fits.1 in
    let deep = level + sofar.level in
    let fit = λ (block : Block) (share : Share). FitsShare (FitsWithin deep style) w (out-Content block) share in
    let others : AllZip fit (take i blocks) sofar.shares =
    AllZip-weaker (λ block share. FitsShare (FitsWithin sofar.level style) w (out-Content block) share) fit (take i blocks)
    sofar.shares
    (λ block share one. share-deeper level sofar.level style w (out-Content block) share one) sofar.fits in
    let this : fit block share = share-deeper' sofar.level level style w (out-Content block) share takes.fits.2 in
    record {
      level = deep;
      shares = sofar.shares ++ share ∷ [];
      fits = AllZip-taken fit blocks sofar.shares i block block share within is others this;
      used = omega (
        arith,
        sum_by-append (λ (share : Share). share.height) sofar.shares (share ∷ []),
        sum_by-cons (λ (share : Share). share.height) share [],
        sofar.used,
        takes.fits.3,
      );
      rest = ap (λ used. used ++ drop taken.next inner) (flat_map-push (λ (share : Share). share.inner) sofar.shares share)
          ∙ one_further (flat_map (λ share. share.inner) sofar.shares) share.inner (drop taken.next inner) (drop next inner)
          (drop start inner)
          takes.fits.4 sofar.rest;
      least = λ level all more fits split.
          let before = sofar.least level all more fits split in
          let first = left_first (λ block share. FitsShare (FitsWithin level style) w (out-Content block) share)
          blocks i block before.0 within is before.1 in
          let one = takes.least level first.0 (flat_map (λ share. share.inner) first.1 ++ more) first.3
          (sym (append_assoc first.0.inner (flat_map (λ share. share.inner) first.1) more)
          ∙ ap (λ shares. flat_map (λ share. share.inner) shares ++ more) (sym first.2) ∙ before.3) in
          let sum = sum_by-cons (λ (share : Share). share.height) first.0 first.1 in
          let whole = ap (sum_by (λ (share : Share). share.height)) first.2 in
          (first.1, first.4, omega (arith, before.2, one.0, sum, whole), one.1);
    }

-- a block that does not fit
pub blocks_taken-stuck : (style : Style) (w h : ℕ) (cell : OpenCell) (inner : List Layout) (start i lines next : ℕ)
    (block : Block) →
    i < length cell.blocks → block ≡ get_or cell.blocks i block → BlocksTaken style w cell.blocks inner start i lines next →
    TakesBlock style w (out-Content block) inner next None → TakesCell style w h cell inner start None
blocks_taken-stuck style w h cell inner start i lines next block within is sofar takes = record {
  fits = tt;
  all = λ level given more fits split.
      let before = sofar.least level fits.shares more fits.blocks (ap (λ given. given ++ more) fits.given ∙ split) in
      let first = left_first (λ block share. FitsShare (FitsWithin level style) w (out-Content block) share)
      cell.blocks i block before.0 within is
      before.1 in
      takes.least level first.0 (flat_map (λ share. share.inner) first.1 ++ more) first.3
      (sym (append_assoc first.0.inner (flat_map (λ share. share.inner) first.1) more)
      ∙ ap (λ shares. flat_map (λ share. share.inner) shares ++ more) (sym first.2) ∙ before.3);
}

-- blocks that are too high
pub blocks_taken-high : (style : Style) (w h : ℕ) (cell : OpenCell) (inner : List Layout) (start i lines next : ℕ) → h < lines →
    BlocksTaken style w cell.blocks inner start i lines next → TakesCell style w h cell inner start None
blocks_taken-high style w h cell inner start i lines next high sofar = record {
  fits = tt;
  all = λ level given more fits split.
      let before = sofar.least level fits.shares more fits.blocks (ap (λ given. given ++ more) fits.given ∙ split) in
      absurd (omega (arith, before.2, fits.within, high));
}

-- a floor that is wider than the room
pub cell-floor : (style : Style) (w h : ℕ) (cell : OpenCell) (inner : List Layout) (start : ℕ) → w < cell.least →
    TakesCell style w h cell inner start None
cell-floor style w h cell inner start wide = record {
  fits = tt;
  all =
      λ level given more fits split. absurd (omega (arith, fits.floor, wide));
}

none_left : {A B : Type 0} (R : A → B → Type 0) (xs : List A) (ys : List B) → xs ≡ [] → AllZip R xs ys → ys ≡ []
none_left R xs [] none all = refl
none_left R [] (y ∷ ys) none all = absurd all
none_left R (x ∷ xs) (y ∷ ys) none all = absurd (omega (arith, ap length none))

pub blocks_taken-all : (style : Style) (w h : ℕ) (cell : OpenCell) (inner : List Layout) (start i lines next : ℕ) →
    cell.least ≤ w → lines ≤ h →
    length cell.blocks ≤ i → BlocksTaken style w cell.blocks inner start i lines next →
    TakesCell style w h cell inner start (Some next)
blocks_taken-all style w h cell inner start i lines next floor low every sofar = record {
  fits = (
    sofar.level,
    flat_map (λ share. share.inner) sofar.shares,
    record {
      floor = floor;
      shares = sofar.shares;
      blocks = subst (λ some. AllZip (λ block share. FitsShare (FitsWithin sofar.level style) w (out-Content block) share)
          some sofar.shares)
          (take_all i cell.blocks every) sofar.fits;
      within = omega (arith, sofar.used, low);
      given = refl;
    },
    sofar.rest,
  );
  all = λ level given more fits split.
      let before = sofar.least level fits.shares more fits.blocks (ap (λ given. given ++ more) fits.given ∙ split) in
      let none = none_left (λ block share. FitsShare (FitsWithin level style) w (out-Content block) share) (drop i cell.blocks)
      before.0
      (drop_all i cell.blocks every) before.1 in
      ap (λ shares. flat_map (λ (share : Share). share.inner) shares ++ more) (sym none) ∙ before.3;
}

-- ---- the cells of a table

-- the first `i` cells fit, and whatever fits leaves the layouts from `next` on to the others
pub record CellsTaken (style : Style) (table : OpenTable) (layout : OpenLayout) (i next : ℕ) : Type 0 where
  pub level : ℕ
  pub parts : List (List Layout)
  pub fits : AllZip (λ cell given. FitsCell (FitsWithin level style) style table layout (out-TableCell cell) given)
      (take i table.cells) parts
  pub rest : flat_map (λ given. given) parts ++ drop next layout.inner ≡ layout.inner
  pub all : (level : ℕ) (parts : List (List Layout)) →
      AllZip (λ cell given. FitsCell (FitsWithin level style) style table layout (out-TableCell cell) given) table.cells parts →
      flat_map (λ given. given) parts ≡ layout.inner →
      (left : List (List Layout)) × AllZip (λ cell given. FitsCell (FitsWithin level style) style table layout (out-TableCell cell)
      given) (drop i table.cells) left
      × (flat_map (λ given. given) left ≡ drop next layout.inner)

pub cells_taken-none : (style : Style) (table : OpenTable) (layout : OpenLayout) → CellsTaken style table layout 0 0
cells_taken-none style table layout = record {
  level = 0;
  parts = [];
  fits = tt;
  rest = refl;
  all = λ level parts fits split. (parts, fits, split);
}

module _ (style : Style) (table : OpenTable) (layout : OpenLayout) where
  pub cells_taken-more : (i next past : ℕ) (cell : TableCell) → i < length table.cells →
      cell ≡ get_or table.cells i cell →
      CellsTaken style table layout i next →
      TakesCell style (width_for style layout (out-TableCell cell).place) (height_for style table layout (out-TableCell cell).place)
      (out-TableCell cell)
      layout.inner next (Some past) → CellsTaken style table layout (i + 1) past
  cells_taken-more i next past cell within is sofar takes =
      let level = takes.fits.0 in
      let given = takes.fits.1 in
      let deep = level + sofar.level in
      let w = λ (cell : TableCell). width_for style layout (out-TableCell cell).place in
      let h = λ (cell : TableCell). height_for style table layout (out-TableCell cell).place in
      let fit = λ (cell : TableCell) (given : List Layout). FitsCell (FitsWithin deep style) style table layout (out-TableCell cell)
      given in
      let others : AllZip fit (take i table.cells) sofar.parts =
      AllZip-weaker (λ cell given. FitsCell (FitsWithin sofar.level style) style table layout (out-TableCell cell) given) fit
      (take i table.cells) sofar.parts
      (λ cell given one. room-deeper level sofar.level style (w cell) (h cell) (out-TableCell cell) given one) sofar.fits in
      let this : fit cell given = room-deeper' sofar.level level style (w cell) (h cell) (out-TableCell cell)
      given takes.fits.2 in
      record {
        level = deep;
        parts = sofar.parts ++ given ∷ [];
        fits = AllZip-taken fit table.cells sofar.parts i cell cell given within is others this;
        rest = ap (λ used. used ++ drop past layout.inner) (flat_map-push (λ (given : List Layout). given) sofar.parts given)
            ∙ one_further (flat_map (λ given. given) sofar.parts) given (drop past layout.inner) (drop next layout.inner)
            layout.inner
            takes.fits.3 sofar.rest;
        all = λ level parts fits split.
            let before = sofar.all level parts fits split in
            let first = left_first (λ cell given. FitsCell (FitsWithin level style) style table layout (out-TableCell cell) given)
            table.cells i cell before.0 within is
            before.1 in (
              first.1,
              first.4,
              takes.all level first.0 (flat_map (λ given. given) first.1) first.3
                  (ap (flat_map (λ given. given)) (sym first.2) ∙ before.2),
            );
      }

-- ---- a table

-- no layout with these sizes fits
pub table-none : (style : Style) (w : ℕ) (table : Table) (layout : Layout) →
    ((level height : ℕ) → FitsBy (FitsWithin level style) style (out-Table table) w height (out-Layout layout) → ⊥) →
    TakesTable style w table layout None
table-none style w table layout never = record { fits = tt; all = λ height fits. none fits.0 height fits.1 } where
  none : (depth height : ℕ) → FitsWithin depth style table w height layout → ⊥
  none zero height fits = fits
  none (suc level) height fits = never level height fits

pub cells_taken-stuck : (style : Style) (w : ℕ) (table : Table) (layout : Layout) (i next : ℕ) (cell : TableCell) →
    i < length (out-Table table).cells →
    cell ≡ get_or (out-Table table).cells i cell → CellsTaken style (out-Table table) (out-Layout layout) i next →
    TakesCell style (width_for style (out-Layout layout) (out-TableCell cell).place)
    (height_for style (out-Table table) (out-Layout layout) (out-TableCell cell).place)
    (out-TableCell cell) (out-Layout layout).inner next None → TakesTable style w table layout None
cells_taken-stuck style w table layout i next cell within is sofar takes = table-none style w table layout (λ level height fits.
    let before = sofar.all level fits.parts fits.cells fits.given in
    let first = left_first (λ cell given. FitsCell (FitsWithin level style) style (out-Table table) (out-Layout layout) (out-TableCell cell)
    given) (out-Table table).cells i
    cell before.0 within is before.1 in
    takes.all level first.0 (flat_map (λ given. given) first.1) first.3 (ap (flat_map (λ given. given)) (sym first.2) ∙ before.2))

-- layouts are left over
pub cells_taken-over : (style : Style) (w : ℕ) (table : Table) (layout : Layout) (i next : ℕ) →
    length (out-Table table).cells ≤ i →
    next < length (out-Layout layout).inner → CellsTaken style (out-Table table) (out-Layout layout) i next →
    TakesTable style w table layout None
cells_taken-over style w table layout i next every over sofar = table-none style w table layout (λ level height fits.
    let before = sofar.all level fits.parts fits.cells fits.given in
    let none = none_left (λ cell given. FitsCell (FitsWithin level style) style (out-Table table) (out-Layout layout) (out-TableCell cell) given)
    (drop i (out-Table table).cells) before.0 (drop_all i (out-Table table).cells every) before.1 in
    let empty : [] ≡ drop next (out-Layout layout).inner = ap (flat_map (λ given. given)) (sym none) ∙ before.2 in
    omega (arith, ap length empty, length-drop next (out-Layout layout).inner, over))

pub cells_taken-all : (style : Style) (w : ℕ) (table : Table) (layout : Layout) (i next : ℕ) →
    length (out-Layout layout).widths ≡ (out-Table table).cols →
    length (out-Layout layout).heights ≡ (out-Table table).rows → total_width style (out-Layout layout) ≤ w →
    length (out-Table table).cells ≤ i →
    length (out-Layout layout).inner ≤ next → CellsTaken style (out-Table table) (out-Layout layout) i next →
    TakesTable style w table layout (Some (total_height style (out-Table table) (out-Layout layout)))
cells_taken-all style w table layout i next columns rows within every none sofar = record {
  fits = (
    suc sofar.level,
    record {
      columns = columns;
      rows = rows;
      within = within;
      high = refl;
      parts = sofar.parts;
      cells = subst (λ some. AllZip (λ cell given. FitsCell (FitsWithin sofar.level style) style (out-Table table) (out-Layout layout)
          (out-TableCell cell) given) some
          sofar.parts) (take_all i (out-Table table).cells every) sofar.fits;
      given = sym (append-nil (flat_map (λ given. given) sofar.parts))
          ∙ ap (λ rest. flat_map (λ given. given) sofar.parts ++ rest)
          (sym (drop_all next (out-Layout layout).inner none)) ∙ sofar.rest;
    },
  );
  all = λ height fits. high fits.0 height fits.1;
} where
  high : (depth height : ℕ) → FitsWithin depth style table w height layout → height ≡ total_height style (out-Table table) (out-Layout layout)
  high zero height fits = absurd fits
  high (suc level) height fits = sym fits.high
