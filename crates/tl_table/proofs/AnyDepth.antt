-- A table whose nested tables fit by layouts of any depths fits by a layout of one.
use Rattle.std.proofs.Common.{◌≡◌, ℕ, suc, ◌+◌, List, [], ◌∷◌, sym, subst, arith}
use Rattle.std.specs.List.{AllZip}
use Rattle.tl_base.specs.declared.style.Style.{Style}
use Rattle.tl_base.specs.Style.{gap_of, row_gap_of}
use Rattle.tl_base.proofs.Zips.{AllZip-weaker}
use Rattle.tl_base.specs.Sizes.{room}
use Rattle.tl_table.specs.declared.cell.Content.{out-Content}
use Rattle.tl_table.specs.declared.cell.Content.TheOpen as open_content
use Rattle.tl_table.specs.declared.cell.Table.{Table, out-Table}
use Rattle.tl_table.specs.declared.cell.TableCell.{out-TableCell}
use Rattle.tl_table.specs.declared.layout.Layout.{Layout, roll-Layout, out-roll-Layout}
use Rattle.tl_table.specs.Tables.{OpenTable, OpenCell, OpenContent}
use Rattle.tl_table.specs.Layouts.{OpenLayout, Share, Fits, FitsBy, FitsCell, FitsRoom, FitsShare, FitsWithin, height_for, width_for}
use Rattle.tl_table.proofs.Deeper.{FitsShare-weaker, FitsRoom-weaker, FitsWithin-deeper}

-- ---- one depth for all

deepen : {A B : Type 0} (P : ℕ → A → B → Type 0) → ((more depth : ℕ) (a : A) (b : B) → P depth a b → P (more + depth) a b) →
    (more depth : ℕ)
    (xs : List A) (ys : List B) → AllZip (P depth) xs ys → AllZip (P (more + depth)) xs ys
deepen P deeper more depth [] [] all = tt
deepen P deeper more depth [] (y ∷ ys) all = absurd all
deepen P deeper more depth (x ∷ xs) [] all = absurd all
deepen P deeper more depth (x ∷ xs) (y ∷ ys) all = (deeper more depth x y all.0, deepen P deeper more depth xs ys all.1)

-- what holds at some depth of each holds at one depth of all
gather : {A B : Type 0} (P : ℕ → A → B → Type 0) → ((more depth : ℕ) (a : A) (b : B) → P depth a b → P (more + depth) a b) →
    (xs : List A)
    (ys : List B) → AllZip (λ a b. (depth : ℕ) × P depth a b) xs ys → (depth : ℕ) × AllZip (P depth) xs ys
gather P deeper [] [] all = (0, tt)
gather P deeper [] (y ∷ ys) all = absurd all
gather P deeper (x ∷ xs) [] all = absurd all
gather P deeper (x ∷ xs) (y ∷ ys) all =
    let rest = gather P deeper xs ys all.1 in
    let same : all.0.0 + rest.0 ≡ rest.0 + all.0.0 = omega arith in (
      rest.0 + all.0.0,
      (
        deeper rest.0 all.0.0 x y all.0.1,
        subst (λ depth. AllZip (P depth) xs ys) same (deepen P deeper all.0.0 rest.0 xs ys rest.1),
      ),
    )

module _ (style : Style) where
  -- a table's layouts, of any depth
  abbrev FitsAny : Table → ℕ → ℕ → Layout → Type 0
  FitsAny nested w h layout = Fits nested style w h layout

  share-at : (w : ℕ) (block : OpenContent) (share : Share) → FitsShare FitsAny w block share →
      (depth : ℕ) × FitsShare (FitsWithin depth style) w block share
  share-at w (open_content.Para paragraph) share held = (0, held)
  share-at w (open_content.Table box) share held = (
    held.laid.0,
    record { layout = held.layout; height = held.height; laid = held.laid.1; within = held.within; given = held.given },
  )

  room-at : (w h : ℕ) (cell : OpenCell) (inner : List Layout) → FitsRoom FitsAny w h cell inner →
      (depth : ℕ) × FitsRoom (FitsWithin depth style) w h cell inner
  room-at w h cell inner held =
      let all = gather (λ depth block share. FitsShare (FitsWithin depth style) w (out-Content block) share)
      (λ more depth block share one. FitsShare-weaker (FitsWithin depth style) (FitsWithin (more + depth) style)
      (FitsWithin-deeper more depth style) w (out-Content block) share one) cell.blocks held.shares
      (AllZip-weaker (λ block share. FitsShare FitsAny w (out-Content block) share)
      (λ block share. (depth : ℕ) × FitsShare (FitsWithin depth style) w (out-Content block) share) cell.blocks held.shares
      (λ block share one. share-at w (out-Content block) share one) held.blocks) in (
        all.0,
        record { floor = held.floor; shares = held.shares; blocks = all.1; within = held.within; given = held.given },
      )

  -- a layout of any depths fits
  pub fits-from_any : (table : OpenTable) (width height : ℕ) (layout : OpenLayout) →
      FitsBy FitsAny style table width height layout →
      (depth : ℕ) × FitsBy (FitsWithin depth style) style table width height layout
  fits-from_any table width height layout held =
      let all = gather (λ depth cell inner. FitsCell (FitsWithin depth style) style table layout (out-TableCell cell) inner)
      (λ more depth cell inner one. FitsRoom-weaker (FitsWithin depth style) (FitsWithin (more + depth) style)
      (FitsWithin-deeper more depth style) (width_for style layout (out-TableCell cell).place)
      (height_for style table layout (out-TableCell cell).place)
      (out-TableCell cell) inner one)
      table.cells held.parts
      (AllZip-weaker (λ cell inner. FitsCell FitsAny style table layout (out-TableCell cell) inner)
      (λ cell inner. (depth : ℕ) × FitsCell (FitsWithin depth style) style table layout (out-TableCell cell) inner)
      table.cells held.parts
      (λ cell inner one. room-at (width_for style layout (out-TableCell cell).place)
      (height_for style table layout (out-TableCell cell).place)
      (out-TableCell cell) inner one)
      held.cells) in (
        all.0,
        record {
          columns = held.columns;
          rows = held.rows;
          within = held.within;
          high = held.high;
          parts = held.parts;
          cells = all.1;
          given = held.given;
        },
      )

-- ---- layouts by their fields, and rolled up

pub fits-rolled : (style : Style) (table : Table) (width height : ℕ) (layout : OpenLayout) →
    FitsBy (λ nested w h inner. Fits nested style w h inner) style (out-Table table) width height layout →
    Fits table style width height (roll-Layout layout)
fits-rolled style table width height layout held =
    let at = fits-from_any style (out-Table table) width height layout held in (
      suc at.0,
      subst (λ (open_layout : OpenLayout). FitsBy (FitsWithin at.0 style) style (out-Table table) width height open_layout)
          (sym (out-roll-Layout layout)) at.1,
    )
