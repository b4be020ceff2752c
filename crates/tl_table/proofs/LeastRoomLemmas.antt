-- The least room of a paragraph, of a nested table, of blocks one after the other, and of a cell.
use Rattle.std.proofs.Common.{◌≡◌, ℕ, ◌+◌, ◌≤◌, max, List, [], ◌∷◌, ◌++◌, length, sum_by, refl, arith}
use Rattle.std.specs.List.{AllZip, flat_map}
use Rattle.std.specs.declared.alloc.Global.{Global}
use Rattle.std.specs.declared.boxed.Box.{Box}
use Rattle.tl_base.specs.declared.style.Style.{Style}
use Rattle.tl_base.proofs.Zips.{AllZip-weaker, AllZip-push}
use Rattle.tl_text.specs.declared.paragraph.Atom.{Atom}
use Rattle.tl_text.specs.Cuttings.{joined, HasCutting}
use Rattle.tl_table.specs.declared.cell.Content.{Content, out-Content}
use Rattle.tl_table.specs.declared.cell.Content.TheOpen as open_content
use Rattle.tl_table.specs.declared.cell.Table.{Table}
use Rattle.tl_table.specs.declared.layout.Layout.{Layout}
use Rattle.tl_table.specs.Tables.{OpenCell, OpenContent}
use Rattle.tl_table.specs.Layouts.{Share, FitsShare, FitsWithin}
use Rattle.tl_table.specs.Least.{IsLeastWidth}
use Rattle.tl_table.specs.inner.LeastRooms.{IsLeastForBlock, IsLeastForBlocks, IsLeastCellRoom}
use Rattle.tl_table.proofs.Deeper.{FitsShare-weaker, FitsWithin-deeper, FitsWithin-deeper', FitsWithin-wider}

-- the least width of a paragraph
pub least_for_paragraph : (style : Style) (paragraph : List Atom) (w : ℕ) → ((v : ℕ) → w ≤ v → HasCutting v paragraph) →
    ((v : ℕ) → HasCutting v paragraph → w ≤ v) →
    IsLeastForBlock style (open_content.Para paragraph) w
least_for_paragraph style paragraph w holds least = record {
  fits = λ v wider. let cut = holds v wider in (
    0,
    record { height = length (joined cut.0); inner = [] },
    ((cut.0, cut.1, cut.2, omega arith), refl),
  );
  least = λ depth v share fits. least v (fits.0.0, fits.0.1, fits.0.2);
}

-- the least width of a nested table
pub least_for_table : (style : Style) (block : OpenContent) (table : Table) (w : ℕ) → IsLeastWidth table style w →
    ((fits : Table → ℕ → ℕ → Layout → Type 0) (v : ℕ) (share : Share) (layout : Layout) (height : ℕ) →
    fits table v height layout → height ≤
    share.height → share.inner ≡ layout ∷ [] → FitsShare fits v block share) →
    ((fits : Table → ℕ → ℕ → Layout → Type 0) (v : ℕ) (share : Share) → FitsShare fits v block share →
    (height : ℕ) × (layout : Layout) × fits table
    v height layout) →
    IsLeastForBlock style block w
least_for_table style block table w least make take = record {
  fits = λ v wider. let one = least.attained in (
    one.2.0,
    record { height = one.0; inner = one.1 ∷ [] },
    make (FitsWithin one.2.0 style) v (record { height = one.0; inner = one.1 ∷ [] })
        one.1 one.0 (FitsWithin-wider one.2.0 style table w v one.0 one.1 wider one.2.1) (omega arith) refl,
  );
  least = λ depth v share fits. let one = take (FitsWithin depth style) v share fits in least.least v one.0 one.1 (depth, one.2);
}

-- no blocks
pub least_for_none : (style : Style) (floor : ℕ) → IsLeastForBlocks style floor [] floor
least_for_none style floor = record {
  floored = omega arith;
  fits = λ v wider. (0, [], tt);
  least = λ depth v shares wide fits. wide;
}

deeper_shares : (style : Style) (more depth v : ℕ) (blocks : List Content) (shares : List Share) →
    AllZip (λ block share. FitsShare (FitsWithin depth style) v (out-Content block) share) blocks shares →
    AllZip (λ block share. FitsShare (FitsWithin (more + depth) style) v (out-Content block) share) blocks shares
deeper_shares style more depth v blocks shares fits =
    AllZip-weaker (λ block share. FitsShare (FitsWithin depth style) v (out-Content block) share)
    (λ block share. FitsShare (FitsWithin (more + depth) style) v (out-Content block) share) blocks shares
    (λ block share one. FitsShare-weaker (FitsWithin depth style) (FitsWithin (more + depth) style)
    (FitsWithin-deeper more depth style) v
    (out-Content block) share one) fits

-- the shares of the blocks up to the last, and of the last
pub AllZip-pushed : {A B : Type 0} (R : A → B → Type 0) (xs : List A) (zs : List B) (x : A) → AllZip R (xs ++ x ∷ []) zs →
    (ys : List B) × (y : B) × AllZip R xs ys × R x y
AllZip-pushed R [] [] x all = absurd all
AllZip-pushed R [] (z ∷ []) x all = ([], z, tt, all.0)
AllZip-pushed R [] (z ∷ u ∷ zs) x all = absurd all.1
AllZip-pushed R (w ∷ xs) [] x all = absurd all
AllZip-pushed R (w ∷ xs) (z ∷ zs) x all = let rest = AllZip-pushed R xs zs x all.1 in
    (z ∷ rest.0, rest.1, (all.0, rest.2), rest.3)

-- one more block
pub least_for_more : (style : Style) (floor : ℕ) (blocks : List Content) (block : Content) (w more : ℕ) →
    IsLeastForBlocks style floor blocks w →
    IsLeastForBlock style (out-Content block) more →
    IsLeastForBlocks style floor (blocks ++ block ∷ []) (max w more)
least_for_more style floor blocks block w more before here = record {
  floored = omega (arith, before.floored);
  fits = λ v wider.
      let prefix = before.fits v (omega arith) in
      let last = here.fits v (omega arith) in
      let same : prefix.0 + last.0 ≡ last.0 + prefix.0 = omega arith in (
        last.0 + prefix.0,
        prefix.1 ++ last.1 ∷ [],
        AllZip-push (λ block share. FitsShare (FitsWithin (last.0 + prefix.0) style) v (out-Content block) share)
            blocks prefix.1 block last.1
            (deeper_shares style last.0 prefix.0 v blocks prefix.1 prefix.2)
            (FitsShare-weaker (FitsWithin last.0 style) (FitsWithin (last.0 + prefix.0) style)
            (FitsWithin-deeper' prefix.0 last.0 style) v
            (out-Content block) last.1 last.2),
      );
  least = λ depth v shares wide fits.
      let both = AllZip-pushed (λ block share. FitsShare (FitsWithin depth style) v (out-Content block) share)
      blocks shares block fits in
      omega (arith, before.least depth v both.0 wide both.2, here.least depth v both.1 both.3);
}

-- a cell needs what its floor and its blocks do
pub least_for_cell : (style : Style) (cell : OpenCell) (w : ℕ) → IsLeastForBlocks style cell.least cell.blocks w →
    IsLeastCellRoom style cell w
least_for_cell style cell w least = record {
  fits = λ v wider. let one = least.fits v wider in (
    one.0,
    sum_by (λ share. share.height) one.1,
    flat_map (λ share. share.inner) one.1,
    record
        { floor = omega (arith, least.floored); shares = one.1; blocks = one.2; within = omega arith; given = refl },
  );
  least = λ depth v height inner fits. least.least depth v fits.shares fits.floor fits.blocks;
}

-- a nested table needs its least width
pub least_for_box : (style : Style) (box : Box Table Global) (w : ℕ) → IsLeastWidth box.value style w →
    IsLeastForBlock style (open_content.Table box) w
least_for_box style box w least = least_for_table style (open_content.Table box) box.value w least
    (λ fits v share layout height laid within given. record {
      layout = layout;
      height = height;
      laid = laid;
      within =
          within;
      given = given;
    })
    (λ fits v share inside. (inside.height, inside.layout, inside.laid))
