-- Chains of some depth are chains of any greater one.
use Rattle.std.proofs.Common.{◌≡◌, ℕ, zero, suc, ◌+◌, List, [], ◌∷◌, Option, Some, None, sym, subst, arith}
use Rattle.std.specs.List.{AllZip}
use Rattle.tl_base.specs.declared.style.Style.{Style}
use Rattle.tl_base.proofs.Zips.{AllZip-weaker}
use Rattle.tl_base.specs.declared.chain.Chain.{Chain}
use Rattle.tl_base.specs.declared.chain.Entry.{Entry}
use Rattle.tl_table.specs.declared.cell.Table.{Table, out-Table}
use Rattle.tl_table.specs.declared.cell.TableCell.{out-TableCell}
use Rattle.tl_table.specs.Tables.{OpenTable, OpenCell}
use Rattle.tl_table.specs.Chains.{Link, HasWidth, IsLink, IsChainBy, IsChainWithin, Weighs}

module _ (some more : Table → List Chain → ℕ → Type 0)
    (weaker : (table : Table) (chains : List Chain) (weight : ℕ) → some table chains weight → more table chains weight) where
  HasWidth-weaker : (cell : OpenCell) (inner : Option ℕ) (link : Link) → HasWidth some cell inner link →
      HasWidth more cell inner link
  HasWidth-weaker cell None link has = has
  HasWidth-weaker cell (Some number) link has = (has.0, has.1, has.2, weaker has.0 link.inner link.width has.3)

  pub IsLink-weaker : (table : OpenTable) (entry : Entry) (link : Link) → IsLink some table entry link →
      IsLink more table entry link
  IsLink-weaker table entry link one = record {
    cell = one.cell;
    named = one.named;
    placed = one.placed;
    wide =
        HasWidth-weaker (out-TableCell one.cell) entry.inner link one.wide;
  }

  pub links-weaker : (table : OpenTable) (entries : List Entry) (links : List Link) →
      AllZip (λ entry link. IsLink some table entry link) entries links →
      AllZip (λ entry link. IsLink more table entry link) entries links
  links-weaker table entries links all = AllZip-weaker (λ entry link. IsLink some table entry link)
      (λ entry link. IsLink more table entry link)
      entries links (IsLink-weaker table) all

  IsChainBy-weaker : (style : Style) (table : OpenTable) (chains : List Chain) (weight : ℕ) →
      IsChainBy some style table chains weight →
      IsChainBy more style table chains weight
  IsChainBy-weaker style table chains weight chain = record {
    chain = chain.chain;
    links = chain.links;
    of_table = chain.of_table;
    has_entry = chain.has_entry;
    stand = links-weaker table chain.chain.entries chain.links chain.stand;
    in_order = chain.in_order;
    followed = chain.followed;
    weighed = chain.weighed;
  }

IsChainWithin-next : (depth : ℕ) (style : Style) (table : Table) (chains : List Chain) (weight : ℕ) →
    IsChainWithin depth style table chains weight →
    IsChainWithin (suc depth) style table chains weight
IsChainWithin-next zero style table chains weight chain = absurd chain
IsChainWithin-next (suc depth) style table chains weight chain =
    IsChainBy-weaker (IsChainWithin depth style) (IsChainWithin (suc depth) style) (IsChainWithin-next depth style) style
    (out-Table table) chains
    weight chain

pub IsChainWithin-deeper : (more depth : ℕ) (style : Style) (table : Table) (chains : List Chain) (weight : ℕ) →
    IsChainWithin depth style table chains weight → IsChainWithin (more + depth) style table chains weight
IsChainWithin-deeper zero depth style table chains weight chain = let same : 0 + depth ≡ depth =
    omega arith in subst (λ d. IsChainWithin d style table chains weight) (sym same) chain
IsChainWithin-deeper (suc more) depth style table chains weight chain =
    let same : suc more + depth ≡ suc (more + depth) = omega arith in
    subst (λ d. IsChainWithin d style table chains weight) (sym same)
    (IsChainWithin-next (more + depth) style table chains weight
    (IsChainWithin-deeper more depth style table chains weight chain))

pub IsChainWithin-deeper' : (more depth : ℕ) (style : Style) (table : Table) (chains : List Chain) (weight : ℕ) →
    IsChainWithin depth style table chains weight → IsChainWithin (depth + more) style table chains weight
IsChainWithin-deeper' more depth style table chains weight chain = let same : depth + more ≡ more + depth =
    omega arith in subst (λ d. IsChainWithin d style table chains weight) (sym same)
    (IsChainWithin-deeper more depth style table chains weight chain)

-- a link whose chains have some depth
link_depth : (style : Style) (table : OpenTable) (entry : Entry) (link : Link) → IsLink (Weighs style) table entry link →
    (depth : ℕ) × IsLink (IsChainWithin depth style) table entry link
link_depth style table entry link one = choose entry.inner one.wide
  where
    choose : (inner : Option ℕ) → HasWidth (Weighs style) (out-TableCell one.cell) inner link →
        (depth : ℕ) × IsLink (IsChainWithin depth style) table (record { cell = entry.cell; inner = inner }) link
    choose None wide = (0, record { cell = one.cell; named = one.named; placed = one.placed; wide = wide })
    choose (Some number) wide =
        (wide.3.0, record { cell = one.cell; named = one.named; placed = one.placed; wide = (wide.0, wide.1, wide.2, wide.3.1) })

-- all links have chains of one depth
pub links_depth : (style : Style) (table : OpenTable) (entries : List Entry) (links : List Link) →
    AllZip (λ entry link. IsLink (Weighs style) table entry link) entries links →
    (depth : ℕ) × AllZip (λ entry link. IsLink (IsChainWithin depth style) table entry link) entries links
links_depth style table [] [] all = (0, tt)
links_depth style table [] (link ∷ links) all = absurd all
links_depth style table (entry ∷ entries) [] all = absurd all
links_depth style table (entry ∷ entries) (link ∷ links) all =
    let one = link_depth style table entry link all.0 in
    let rest = links_depth style table entries links all.1 in (
      one.0 + rest.0,
      (
        IsLink-weaker (IsChainWithin one.0 style) (IsChainWithin (one.0 + rest.0) style)
            (IsChainWithin-deeper' rest.0 one.0 style) table entry link
            one.1,
        links-weaker (IsChainWithin rest.0 style) (IsChainWithin (one.0 + rest.0) style)
            (IsChainWithin-deeper one.0 rest.0 style) table entries
            links rest.1,
      ),
    )
