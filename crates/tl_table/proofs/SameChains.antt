-- A chain of one table is a chain of each table that is the same, and weighs as much there.
use Rattle.std.proofs.Common.{◌≡◌, ◌∙◌, ℕ, zero, suc, max, List, [], ◌∷◌, Option, None, Some, refl, sym, ap}
use Rattle.std.specs.List.{AllZip}
use Rattle.tl_base.specs.declared.style.Style.{Style}
use Rattle.tl_base.specs.declared.chain.Chain.{Chain}
use Rattle.tl_base.specs.declared.chain.Entry.{Entry}
use Rattle.tl_table.specs.declared.cell.Content.{Content, out-Content}
use Rattle.tl_table.specs.declared.cell.Content.TheOpen as open_content
use Rattle.tl_table.specs.declared.cell.Table.{Table, out-Table}
use Rattle.tl_table.specs.declared.cell.TableCell.{out-TableCell}
use Rattle.tl_table.specs.Chains.{Link, IsLink, HasWidth, IsChainBy, IsChainWithin, IsChain, links_weight, own_width}
use Rattle.tl_table.specs.Chains.{widest_among, widest_in, widest_unit}
use Rattle.tl_table.specs.Same.{AreSameContent, AreSameCell, AreSameBy, AreSame}
use Rattle.tl_table.specs.Tables.{OpenTable, OpenCell, OpenContent, tables_in}
use Rattle.tl_table.proofs.SameTables.{same_number, same_opened, tables_in_same, zip_place, zip_twin, zip_weaker}

-- ---- a cell's own width

widest_in_same : (a b : OpenContent) → AreSameContent AreSame a b → widest_in a ≡ widest_in b
widest_in_same (open_content.Para p) (open_content.Para q) is = ap widest_unit is
widest_in_same (open_content.Para p) (open_content.Table box) is = absurd is
widest_in_same (open_content.Table box) (open_content.Para q) is = absurd is
widest_in_same (open_content.Table box) (open_content.Table crate) is = refl

widest_same : (xs ys : List Content) → AllZip (λ c d. AreSameContent AreSame (out-Content c) (out-Content d)) xs ys →
    widest_among xs ≡ widest_among ys
widest_same [] [] is = refl
widest_same [] (y ∷ ys) is = absurd is
widest_same (x ∷ xs) [] is = absurd is
widest_same (x ∷ xs) (y ∷ ys) is =
    ap (λ n. max n (widest_among xs)) (widest_in_same (out-Content x) (out-Content y) is.0)
    ∙ ap (max (widest_in (out-Content y))) (widest_same xs ys is.1)

own_same : (a b : OpenCell) → AreSameCell AreSame a b → own_width a ≡ own_width b
own_same a b is = ap (λ n. max n (widest_among a.blocks)) is.least ∙ ap (max b.least) (widest_same a.blocks b.blocks is.blocks)

-- ---- chains

module _ (weighs : Table → List Chain → ℕ → Type 0)
    (each : (a b : Table) (chains : List Chain) (weight : ℕ) → AreSame a b → weighs a chains weight →
    weighs b chains weight) where
  -- an entry stands for the same
  width_same : (a b : OpenCell) (inner : Option ℕ) (link : Link) → AreSameCell AreSame a b → HasWidth weighs a inner link →
      HasWidth weighs b inner link
  width_same a b None link is has = (has.0 ∙ own_same a b is, has.1)
  width_same a b (Some number) link is has =
      let found = zip_twin AreSame (tables_in a) (tables_in b) has.0 (tables_in_same AreSame a b is) has.1 in
      (found.0, found.1, sym (same_number has.0 found.0 found.2) ∙ has.2, each has.0 found.0 link.inner link.width found.2 has.3)

  link_same : (a b : OpenTable) (entry : Entry) (link : Link) → AreSameBy AreSame a b → IsLink weighs a entry link →
      IsLink weighs b entry link
  link_same a b entry link is one =
      let found = zip_place (λ c d. AreSameCell AreSame (out-TableCell c) (out-TableCell d))
      a.cells b.cells entry.cell one.cell is.cells one.named in
      record {
        cell = found.0;
        named = found.1;
        placed = one.placed ∙ found.2.place;
        wide = width_same (out-TableCell one.cell) (out-TableCell found.0) entry.inner link found.2 one.wide;
      }

  chain_same : (style : Style) (a b : OpenTable) (chains : List Chain) (weight : ℕ) → AreSameBy AreSame a b →
      IsChainBy weighs style a chains weight → IsChainBy weighs style b chains weight
  chain_same style a b chains weight is one = record {
    chain = one.chain;
    links = one.links;
    of_table = one.of_table ∙ is.number;
    has_entry = one.has_entry;
    stand = zip_weaker (λ entry link. IsLink weighs a entry link) (λ entry link. IsLink weighs b entry link)
        (λ entry link. link_same a b entry link is) one.chain.entries one.links one.stand;
    in_order = one.in_order;
    followed = one.followed;
    weighed = one.weighed ∙ ap (λ n. links_weight style n one.links) is.cols;
  }

chain_within : (depth : ℕ) (style : Style) (one other : Table) (chains : List Chain) (weight : ℕ) → AreSame one other →
    IsChainWithin depth style one chains weight → IsChainWithin depth style other chains weight
chain_within zero style one other chains weight same chain = absurd chain
chain_within (suc depth) style one other chains weight same chain =
    chain_same (IsChainWithin depth style) (chain_within depth style) style (out-Table one) (out-Table other) chains weight
    (same_opened one other same) chain

-- a chain of one is a chain of the other, and weighs as much
pub same_chain : (one other : Table) (style : Style) (chains : List Chain) (weight : ℕ) → AreSame one other →
    IsChain one style chains weight → IsChain other style chains weight
same_chain one other style chains weight same chain = (chain.0, chain_within chain.0 style one other chains weight same chain.1)
