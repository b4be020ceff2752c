-- Walks of chains: what stands at a place, entry by entry.
use Rattle.std.proofs.Common.{◌≡◌, ◌∙◌, ℕ, zero, suc, ◌+◌, ◌-◌, ◌*◌, ◌<◌, ◌≤◌, List, [], ◌∷◌, ◌++◌, length, drop, take, get_or}
use Rattle.std.proofs.Common.{Option, Some, None}
use Rattle.std.proofs.Common.{slice_get, append_assoc, append-nil, length-drop, ◌↔◌, refl, sym, ap, subst, Bool, true, false}
use Rattle.std.proofs.Common.{◌==◌}
use Rattle.std.proofs.Common.{MatchOption, inl, inr, arith}
use Rattle.std.specs.List.{AllZip, flat_map}
use Rattle.std.proofs.lemmas.Bool.{cases_eq, eq-eqb, ne_eqb}
use Rattle.std.proofs.Math.Seq.{drop-cons, drop-nil}
use Rattle.std.proofs.lemmas.List.Elements.{All-contains, Contains-append_cases}
use Rattle.std.proofs.lemmas.List.Concat.{flat_map-cons}
use Rattle.std.proofs.lemmas.List.Sums.{sum_by-cons, sum_by-append}
use Rattle.tl_base.specs.declared.style.Style.{Style}
use Rattle.tl_base.specs.Style.{gap_of, edges_of}
use Rattle.tl_base.proofs.Members.{Contains-cases, Contains-flat_map, Contains-map, Contains-none, first-same, rest-same}
use Rattle.std.specs.declared.alloc.Global.{Global}
use Rattle.std.specs.declared.boxed.Box.{Box}
use Rattle.tl_base.proofs.Zips.{AllZip-length}
use Rattle.tl_table.specs.declared.cell.Content.{Content, out-Content}
use Rattle.tl_table.specs.declared.cell.Content.TheOpen as open_content
use Rattle.tl_grid.specs.Dropping.{IsPlaced}
use Rattle.tl_base.specs.declared.chain.Chain.{Chain}
use Rattle.tl_base.specs.declared.chain.Entry.{Entry}
use Rattle.tl_base.proofs.Taken.{joined_more}
use Rattle.tl_table.specs.declared.cell.Table.{Table, out-Table}
use Rattle.tl_table.specs.declared.cell.TableCell.{TableCell, out-TableCell}
use Rattle.tl_table.specs.Chains.{Link, AreSideBySide, HasWidth, IsLink, IsChainBy, IsChainWithin, IsChain, covered, links_weight}
use Rattle.tl_form.specs.Expected.{Document}
use Rattle.tl_form.specs.Valid.{AreTooWide}
use Rattle.tl_table.specs.Sound.{IsSound, place_of, places_of}
use Rattle.tl_table.proofs.Widths.{grid_of}
use Rattle.tl_table.specs.Tables.{OpenCell, OpenContent, tables_in, tables_of}
use Rattle.tl_table.proofs.ChainDepths.{links_depth, links-weaker}
use Rattle.tl_table.specs.Chains.{Weighs}
use Rattle.tl_verify.specs.declared.chains.Row.{Row}
use Rattle.tl_verify.specs.declared.chains.Walked.{Walked}
use Rattle.tl_verify.specs.inner.Walks.{IsWalk, HasNoWalk, IsWalkIn, HasNoWalkIn, link_of, IsStep, HasNoStep, AreLinked}
use Rattle.tl_verify.specs.inner.Walks.{link_widths, IsRow, HasNoRow}
use Rattle.tl_verify.proofs.OneChain.{AreOne, any_chain_one, any_links_one, contains_at, any_step_one}
use Rattle.tl_verify.proofs.OneChain.{link_same, rest_same, some_same}

-- ---- lists from a place on

drop_short : {X : Type 0} (xs : List X) (n : ℕ) → length xs ≤ n → drop n xs ≡ []
drop_short [] n short = drop-nil n
drop_short (x ∷ xs) zero short = absurd (omega (arith, short))
drop_short (x ∷ xs) (suc n) short = drop_short xs n (omega (arith, short))

drop_suc : {X : Type 0} (xs : List X) (n : ℕ) (x : X) → slice_get xs n ≡ Some x → drop n xs ≡ x ∷ drop (suc n) xs
drop_suc [] n x is = absurd cc
drop_suc (y ∷ xs) zero x is = let same : y ≡ x = some_same refl is in λ i. same i ∷ xs
drop_suc (y ∷ xs) (suc n) x is = drop_suc xs n x is

pub drop_at : {X : Type 0} (xs : List X) (n : ℕ) (x : X) → slice_get xs n ≡ Some x → drop n xs ≡ x ∷ drop (n + 1) xs
drop_at xs n x is = let next : suc n ≡ n + 1 = omega arith in drop_suc xs n x is ∙ ap (λ k. x ∷ drop k xs) next

pub drop_item : {X : Type 0} (xs : List X) (n : ℕ) (x : X) → n < length xs → x ≡ get_or xs n x → drop n xs ≡ x ∷ drop (n + 1) xs
drop_item xs n x within is =
    let next : suc n ≡ n + 1 = omega arith in
    drop-cons xs n x within ∙ (λ i. sym is i ∷ drop (suc n) xs) ∙ ap (λ k. x ∷ drop k xs) next

pub none_at : {X : Type 0} (xs : List X) (k : ℕ) → length xs ≤ k → slice_get xs k ≡ None
none_at [] k past = refl
none_at (x ∷ xs) zero past = absurd (omega (arith, past))
none_at (x ∷ xs) (suc k) past = none_at xs k (omega (arith, past))

-- what a test for none says
pub is_none : (n : ℕ) (test : Bool) → test ≡ (n == 0) → test ≡ true → n ≡ 0
is_none n test is holds = elim (cases_eq n 0) [
  | inl same ↦ same
  | inr other ↦ let no : (n == 0) ≡ false = ne_eqb n 0 other in
      absurd cc
]

pub is_some : (n : ℕ) (test : Bool) → test ≡ (n == 0) → test ≡ false → 0 < n
is_some n test is fails = elim (cases_eq n 0) [
  | inl same ↦ let yes : (n == 0) ≡ true = eq-eqb n 0 same in absurd cc
  | inr other ↦ not_none n other
]
  where
    not_none : (n : ℕ) → (n ≡ 0 → ⊥) → 0 < n
    not_none zero other = absurd (other refl)
    not_none (suc n) other = omega arith

-- a cell of a sound table covers columns of it
pub cell_placed : (table : Table) (k : ℕ) (cell : TableCell) → IsSound table → slice_get (out-Table table).cells k ≡ Some cell →
    ((out-TableCell cell).place.left < (out-TableCell cell).place.right) ×
    ((out-TableCell cell).place.right ≤ (out-Table table).cols)
cell_placed table k cell sound named =
    let placed = All-contains (IsPlaced (out-Table table).cols (out-Table table).rows) (places_of (out-Table table))
    (place_of cell)
    (grid_of table sound.depth sound.sound).placed (Contains-map place_of (out-Table table).cells cell
    (contains_at (out-Table table).cells k cell named)) in
    (placed.0, placed.1)

-- ---- a chain, opened by one level

module _ (style : Style) where
  opened : (table : Table) (own : List Chain) (weight : ℕ) → IsChain table style own weight →
      IsChainBy (Weighs style) style (out-Table table) own weight
  opened table own weight (zero, chain) = absurd chain
  opened table own weight (suc depth, chain) = record {
    chain = chain.chain;
    links = chain.links;
    of_table = chain.of_table;
    has_entry = chain.has_entry;
    stand = links-weaker (IsChainWithin depth style) (Weighs style) (λ t c w is. (depth, is)) (out-Table table)
        chain.chain.entries chain.links
        chain.stand;
    in_order = chain.in_order;
    followed = chain.followed;
    weighed = chain.weighed;
  }

  closed : (table : Table) (own : List Chain) (weight : ℕ) → IsChainBy (Weighs style) style (out-Table table) own weight →
      IsChain table style own weight
  closed table own weight chain =
      let deep = links_depth style (out-Table table) chain.chain.entries chain.links chain.stand in (
        suc deep.0,
        record {
          chain = chain.chain;
          links = chain.links;
          of_table = chain.of_table;
          has_entry = chain.has_entry;
          stand = deep.1;
          in_order = chain.in_order;
          followed = chain.followed;
          weighed = chain.weighed;
        },
      )

  -- ---- a chain of a table at a place

  pub none_past : (table : Table) (chains : List Chain) (at most : ℕ) → length chains ≤ at → HasNoWalk style table chains at most
  none_past table chains at most past = λ own rest weight split chain light.
      let open_chain = opened table own weight chain in
      let no : [] ≡ open_chain.chain ∷ (flat_map (λ link. link.inner) open_chain.links ++ rest) =
      sym (drop_short chains at past) ∙ split ∙ ap (λ xs. xs ++ rest) open_chain.followed in
      cc

  module _ (table : Table) (chains : List Chain) (at most : ℕ) (first : Chain) (is : slice_get chains at ≡ Some first) where
    more : List Chain
    more = drop (at + 1) chains

    pub no_walk_by : ((links : List Link) (rest : List Chain) →
        AreLinked style (out-Table table) first.entries 0 (drop (at + 1) chains) links rest →
        first.table ≡ (out-Table table).number → 0 < length first.entries →
        links_weight style (out-Table table).cols links ≤ most → ⊥) →
        HasNoWalk style table chains at most
    no_walk_by none = λ own rest weight split chain light.
        let o = opened table own weight chain in
        let whole : first ∷ drop (at + 1) chains ≡ o.chain ∷ (flat_map (λ link. link.inner) o.links ++ rest) =
        sym (drop_at chains at first is) ∙ split ∙ ap (λ xs. xs ++ rest) o.followed in
        let same : first ≡ o.chain = first-same _ _ _ _ whole in
        none o.links rest (record {
          stand = subst (λ one. AllZip (λ entry link. IsLink (Weighs style) (out-Table table) entry link) one.entries o.links)
              (sym same) o.stand;
          in_order = o.in_order;
          split = rest-same _ _ _ _ whole;
        }) (ap (λ one. one.table) same ∙ o.of_table) (subst (λ one. 0 < length one.entries) (sym same) o.has_entry)
        (omega (arith, o.weighed, light))

    pub no_walk_row : HasNoRow style (out-Table table) first.entries (drop (at + 1) chains) most →
        HasNoWalk style table chains at most
    no_walk_row none = no_walk_by (λ links rest linked of some light. none links rest linked (omega (arith, light)))

    pub row_weighs : (row : Row) (is_row : IsRow style (out-Table table) first.entries chains (at + 1) most row) →
        row.width + gap_of style * (length first.entries + ((out-Table table).cols - row.covered) - 1) + edges_of style
        ≡ links_weight style (out-Table table).cols is_row.links
    row_weighs row is_row =
        let many = AllZip-length (λ entry link. IsLink (Weighs style) (out-Table table) entry link)
        first.entries is_row.links is_row.linked.stand in
        ap (λ w. w + gap_of style * (length first.entries + ((out-Table table).cols - row.covered) - 1) + edges_of style)
        is_row.wide
        ∙ ap (λ n. link_widths is_row.links + gap_of style * (n + ((out-Table table).cols - row.covered) - 1) + edges_of style)
        many
        ∙ ap (λ n. link_widths is_row.links + gap_of style * (length is_row.links +
        ((out-Table table).cols - n) - 1) + edges_of style) is_row.covers

    pub no_walk_heavy : IsSound table → (row : Row) → IsRow style (out-Table table) first.entries chains (at + 1) most row →
        (weight : ℕ) →
        weight ≡ row.width + gap_of style * (length first.entries + ((out-Table table).cols - row.covered) - 1) + edges_of
        style →
        most < weight → HasNoWalk style table chains at most
    no_walk_heavy sound row is_row weight weighs heavy = no_walk_by (λ links rest linked of some light.
        let same = any_links_one style table sound first.entries links is_row.links rest (drop row.past chains)
        linked.stand is_row.linked.stand
        (sym linked.split ∙ is_row.linked.split) in
        omega (arith, heavy, light, ap (links_weight style (out-Table table).cols) same, weighs ∙ row_weighs row is_row))

    pub walked : (row : Row) (weight : ℕ) (walked : Walked) → first.table ≡ (out-Table table).number → 0 < length first.entries →
        (is_row : IsRow style (out-Table table) first.entries chains (at + 1) most row) →
        weight ≡ row.width + gap_of style * (length first.entries + ((out-Table table).cols - row.covered) - 1) + edges_of
        style →
        weight ≤ most → walked.weight ≡ weight → walked.past ≡ row.past → IsWalk style table chains at most walked
    walked row weight found of some is_row weighs light same past = record {
      own = first ∷ flat_map (λ link. link.inner) is_row.links;
      begins = record {
        split = drop_at chains at first is ∙ ap (λ xs. first ∷ xs) is_row.linked.split
            ∙ ap (λ k. first ∷ (flat_map (λ link. link.inner) is_row.links ++ drop k chains)) (sym past);
        within = omega (arith, past, is_row.within);
      };
      chain = closed table (first ∷ flat_map (λ link. link.inner) is_row.links) found.weight (record {
        chain = first;
        links = is_row.links;
        of_table = of;
        has_entry = some;
        stand = is_row.linked.stand;
        in_order = is_row.linked.in_order;
        followed = refl;
        weighed = same ∙ weighs ∙ row_weighs row is_row;
      });
      light = omega (arith, same, light);
    }

  -- ---- a step, where the entry names a table

  pub step_inner : (cell : OpenCell) (inner : Option ℕ) (number : ℕ) (chains : List Chain) (at most : ℕ)
      (result : Option Walked) →
      inner ≡ Some number → MatchOption result (HasNoWalkIn style (tables_in cell) number chains at most)
      (IsWalkIn style (tables_in cell) number chains at most) →
      MatchOption result (HasNoStep style cell inner chains at most) (IsStep style cell inner chains at)
  step_inner cell inner number chains at most result is found =
      subst (λ one. MatchOption result (HasNoStep style cell one chains at most) (IsStep style cell one chains at)) (sym is)
      (by_result result found)
    where
      by_result : (result : Option Walked) → MatchOption result (HasNoWalkIn style (tables_in cell) number chains at most)
          (IsWalkIn style (tables_in cell) number chains at most) →
          MatchOption result (HasNoStep style cell (Some number) chains at most) (IsStep style cell (Some number) chains at)
      by_result None none = λ own rest width split wide light. none wide.0 wide.1 wide.2 own rest width split wide.3 light
      by_result (Some walked) found =
          record { own = found.3.own; begins = found.3.begins; wide = (found.0, found.1, found.2, found.3.chain) }

  -- ---- a chain of one of some tables

  pub walk_none : (number : ℕ) (chains : List Chain) (at most : ℕ) → HasNoWalkIn style [] number chains at most
  walk_none number chains at most = λ nested has. absurd (Contains-none nested has)

  pub walk_more : (some more : List Table) (number : ℕ) (chains : List Chain) (at most : ℕ) →
      HasNoWalkIn style some number chains at most →
      HasNoWalkIn style more number chains at most → HasNoWalkIn style (some ++ more) number chains at most
  walk_more some more number chains at most none also = λ nested has.
      elim (Contains-append_cases some more nested has) [ inl first ↦ none nested first | inr later ↦ also nested later ]

  pub walk_box : (table : Table) (number : ℕ) (chains : List Chain) (at most : ℕ) (result : Option Walked) →
      (out-Table table).number ≡ number →
      MatchOption result (HasNoWalk style table chains at most) (IsWalk style table chains at most) →
      MatchOption result (HasNoWalkIn style (table ∷ []) number chains at most)
      (IsWalkIn style (table ∷ []) number chains at most)
  walk_box table number chains at most None numbered none = λ nested has same.
      elim (Contains-cases table [] nested has) [
        | inl is ↦ subst (λ t. HasNoWalk style t chains at most) is none
        | inr later ↦ absurd (Contains-none nested later)
      ]
  walk_box table number chains at most (Some walked) numbered walk = (table, (0, omega arith, refl), numbered, walk)

  pub walk_boxed : (block : OpenContent) (box : Box Table Global) (table : Table) (number : ℕ) (chains : List Chain)
      (at most : ℕ) (result : Option Walked) →
      block ≡ open_content.Table box → table ≡ box.value → (out-Table table).number ≡ number →
      MatchOption result (HasNoWalk style table chains at most) (IsWalk style table chains at most) →
      MatchOption result (HasNoWalkIn style (tables_of block) number chains at most)
      (IsWalkIn style (tables_of block) number chains at most)
  walk_boxed block box table number chains at most result is inside numbered found =
      subst (λ b. MatchOption result (HasNoWalkIn style (tables_of b) number chains at most)
      (IsWalkIn style (tables_of b) number chains at most)) (sym is)
      (subst (λ t. MatchOption result (HasNoWalkIn style (t ∷ []) number chains at most)
      (IsWalkIn style (t ∷ []) number chains at most)) inside
      (walk_box table number chains at most result numbered found))

  pub walk_other : (block : OpenContent) (box : Box Table Global) (table : Table) (number : ℕ) (chains : List Chain)
      (at most : ℕ) →
      block ≡ open_content.Table box → table ≡ box.value → ((out-Table table).number ≡ number → ⊥) →
      HasNoWalkIn style (tables_of block) number chains at most
  walk_other block box table number chains at most is inside other =
      subst (λ b. HasNoWalkIn style (tables_of b) number chains at most) (sym is) (λ nested has same.
      elim (Contains-cases box.value [] nested has) [
        | inl one ↦ absurd (other (ap (λ t. (out-Table t).number) (inside ∙ one) ∙ same))
        | inr later ↦ absurd (Contains-none nested later)
      ])

  -- ---- a chain of a table nested in blocks

  -- the blocks that are past
  abbrev pub past_tables : List Content → ℕ → List Table
  past_tables blocks i = flat_map (λ block. tables_of (out-Content block)) (take i blocks)

  pub blocks_more : (blocks : List Content) (i number : ℕ) (block : Content) (chains : List Chain) (at most : ℕ) →
      i < length blocks →
      block ≡ get_or blocks i block → HasNoWalkIn style (past_tables blocks i) number chains at most →
      HasNoWalkIn style (tables_of (out-Content block)) number chains at most →
      HasNoWalkIn style (past_tables blocks (i + 1)) number chains at most
  blocks_more blocks i number block chains at most within is none here =
      subst (λ tables. HasNoWalkIn style tables number chains at most)
      (sym (joined_more (λ one. tables_of (out-Content one)) blocks i block block within is))
      (walk_more (past_tables blocks i) (tables_of (out-Content block)) number chains at most none here)

  pub in_block : (blocks : List Content) (i number : ℕ) (block : Content) (chains : List Chain) (at most : ℕ)
      (walked : Walked) → i < length blocks →
      block ≡ get_or blocks i block → IsWalkIn style (tables_of (out-Content block)) number chains at most walked →
      IsWalkIn style (flat_map (λ one. tables_of (out-Content one)) blocks) number chains at most walked
  in_block blocks i number block chains at most walked within is found = (
    found.0,
    Contains-flat_map (λ one. tables_of (out-Content one)) blocks block found.0 (i, within, sym is) found.1,
    found.2,
    found.3,
  )

  -- ---- entry by entry

  -- the first `n` entries stand from place `at` on, as `row` has it: what stands for all goes on with what stands for the rest
  pub record RowSoFar (table : Table) (entries : List Entry) (chains : List Chain) (at most n : ℕ) (row : Row) : Type 0 where
    pub done : List Link
    pub into : (tail : List Link) (rest : List Chain) → AreLinked style (out-Table table) (drop n entries) row.right
        (drop row.past chains) tail rest →
        AreLinked style (out-Table table) entries 0 (drop at chains) (done ++ tail) rest
    pub back : (links : List Link) (rest : List Chain) → AreLinked style (out-Table table) entries 0 (drop at chains) links rest →
        (tail : List Link) × AreLinked style (out-Table table) (drop n entries) row.right (drop row.past chains) tail rest ×
        (links ≡ done ++ tail)
    pub covers : row.covered ≡ covered done
    pub wide : row.width ≡ link_widths done
    pub light : row.width ≤ most
    pub within : row.past ≤ length chains
    pub inside : row.covered ≤ row.right
    pub right : row.right ≤ (out-Table table).cols
    pub many : n ≤ row.covered

  pub row_none : (table : Table) (entries : List Entry) (chains : List Chain) (at most : ℕ) → at ≤ length chains →
      RowSoFar table entries chains at most 0 (record { right = 0; covered = 0; width = 0; past = at })
  row_none table entries chains at most within = record {
    done = [];
    into = λ tail rest linked. linked;
    back = λ links rest linked. (links, linked, refl);
    covers = refl;
    wide = refl;
    light = omega arith;
    within = within;
    inside = omega arith;
    right = omega arith;
    many = omega arith;
  }

  pub row_done : (table : Table) (entries : List Entry) (chains : List Chain) (at most n : ℕ) (row : Row) → length entries ≤ n →
      n ≤ length entries →
      RowSoFar table entries chains at most n row → IsRow style (out-Table table) entries chains at most row
  row_done table entries chains at most n row end upto far = record {
    links = far.done;
    linked = subst (λ links. AreLinked style (out-Table table) entries 0 (drop at chains) links (drop row.past chains))
        (append-nil far.done)
        (far.into [] (drop row.past chains) (record {
          stand = subst (λ es. AllZip (λ entry link. IsLink (Weighs style) (out-Table table) entry link) es [])
              (sym (drop_short entries n end)) tt;
          in_order = tt;
          split = refl;
        }));
    covers = far.covers;
    wide = far.wide;
    light = far.light;
    within = far.within;
    inside = omega (arith, far.inside, far.right);
    many = omega (arith, end, far.many, far.inside, far.right);
  }

  module _ (table : Table) (sound : IsSound table) (entries : List Entry) (chains : List Chain) (at most n : ℕ) (row : Row)
      (entry : Entry)
      (there : n < length entries) (is : entry ≡ get_or entries n entry) (far : RowSoFar table entries chains at most n row) where
    -- what stands for the rest begins with what stands for this entry
    record Next (tail : List Link) (rest : List Chain) : Type 0 where
      link : Link
      later : List Link
      begins : tail ≡ link ∷ later
      stands : IsLink (Weighs style) (out-Table table) entry link
      after : row.right ≤ link.place.left
      stand : AllZip (λ each one. IsLink (Weighs style) (out-Table table) each one) (drop (n + 1) entries) later
      in_order : AreSideBySide link.place.right later
      goes : drop row.past chains ≡ link.inner ++ (flat_map (λ each. each.inner) later ++ rest)

    next : (tail : List Link) (rest : List Chain) → AreLinked style (out-Table table) (drop n entries) row.right
        (drop row.past chains) tail rest →
        Next tail rest
    next tail rest linked = by_tail tail
        (subst (λ es. AreLinked style (out-Table table) es row.right (drop row.past chains) tail rest)
        (drop_item entries n entry there is) linked)
      where
        by_tail : (tail : List Link) → AreLinked style (out-Table table) (entry ∷ drop (n + 1) entries) row.right
            (drop row.past chains) tail rest →
            Next tail rest
        by_tail [] linked = absurd linked.stand
        by_tail (link ∷ later) linked = record {
          link = link;
          later = later;
          begins = refl;
          stands = linked.stand.0;
          after = linked.in_order.0;
          stand = linked.stand.1;
          in_order = linked.in_order.1;
          goes = linked.split ∙ ap (λ xs. xs ++ rest) (flat_map-cons (λ (each : Link). each.inner) link later)
              ∙ append_assoc link.inner (flat_map (λ each. each.inner) later) rest;
        }

    no_row_by : ((tail : List Link) (rest : List Chain) (one : Next tail rest) → row.width + one.link.width ≤ most → ⊥) →
        HasNoRow style (out-Table table) entries (drop at chains) most
    no_row_by none = λ links rest linked light.
        let found = far.back links rest linked in
        let one = next found.0 rest found.1 in
        none found.0 rest one (omega (
          arith,
          light,
          far.wide,
          ap link_widths found.2,
          sum_by-append (λ (each : Link). each.width) far.done found.0,
          ap link_widths one.begins,
          sum_by-cons (λ (each : Link). each.width) one.link one.later,
        ))

    pub no_cell : slice_get (out-Table table).cells entry.cell ≡ None →
        HasNoRow style (out-Table table) entries (drop at chains) most
    no_cell none = no_row_by (λ tail rest one light. let some : slice_get
        (out-Table table).cells entry.cell ≡ Some one.stands.cell = one.stands.named in
        absurd cc)

    module _ (cell : TableCell) (named : slice_get (out-Table table).cells entry.cell ≡ Some cell) where
      -- the link is on this cell
      on_cell : (tail : List Link) (rest : List Chain) (one : Next tail rest) → one.link.place ≡ (out-TableCell cell).place
      on_cell tail rest one = one.stands.placed ∙ ap (λ c. (out-TableCell c).place) (some_same one.stands.named named)

      linked_as : (tail : List Link) (rest : List Chain) (one : Next tail rest) →
          HasWidth (Weighs style) (out-TableCell cell) entry.inner (link_of (out-TableCell cell) one.link.width one.link.inner)
      linked_as tail rest one =
          subst (HasWidth (Weighs style) (out-TableCell cell) entry.inner) (link_same style (on_cell tail rest one) refl refl)
          (subst (λ c. HasWidth (Weighs style) (out-TableCell c) entry.inner one.link) (some_same one.stands.named named)
          one.stands.wide)

      pub no_order : (out-TableCell cell).place.left < row.right → HasNoRow style (out-Table table) entries (drop at chains) most
      no_order less = no_row_by (λ tail rest one light.
          omega (arith, less, one.after, ap (λ place. place.left) (on_cell tail rest one)))

      pub no_step : HasNoStep style (out-TableCell cell) entry.inner chains row.past most →
          HasNoRow style (out-Table table) entries (drop at chains) most
      no_step none = no_row_by (λ tail rest one light.
          none one.link.inner (flat_map (λ each. each.inner) one.later ++ rest) one.link.width one.goes (linked_as tail rest one)
          (omega (arith, light)))

      module _ (step : Walked) (of_step : IsStep style (out-TableCell cell) entry.inner chains row.past step) where
        -- the link that the step found
        abbrev here : Link
        here = link_of (out-TableCell cell) step.weight of_step.own

        same_step : (tail : List Link) (rest : List Chain) (one : Next tail rest) →
            AreOne one.link.inner of_step.own one.link.width step.weight
        same_step tail rest one =
            any_step_one style table cell sound (record { number = entry.cell; named = named }) entry.inner
            (link_of (out-TableCell cell) one.link.width one.link.inner) here (flat_map (λ each. each.inner) one.later ++ rest)
            (drop step.past chains) (linked_as tail rest one) of_step.wide (sym one.goes ∙ of_step.begins.split)

        pub too_wide : most - row.width < step.weight → HasNoRow style (out-Table table) entries (drop at chains) most
        too_wide heavy = no_row_by (λ tail rest one light. omega (arith, heavy, light, (same_step tail rest one).alike))

        pub row_more : row.right ≤ (out-TableCell cell).place.left →
            (out-TableCell cell).place.left < (out-TableCell cell).place.right →
            (out-TableCell cell).place.right ≤ (out-Table table).cols → step.weight ≤ most - row.width →
            RowSoFar table entries chains at most (n + 1) (record {
              right = (out-TableCell cell).place.right;
              covered = row.covered + ((out-TableCell cell).place.right - (out-TableCell cell).place.left);
              width = row.width + step.weight;
              past = step.past;
            })
        row_more after some inside light = record {
          done = far.done ++ here ∷ [];
          into = λ tail rest linked.
              subst (λ links. AreLinked style (out-Table table) entries 0 (drop at chains) links rest)
              (sym (append_assoc far.done (here ∷ []) tail))
              (far.into (here ∷ tail) rest (subst (λ es. AreLinked style (out-Table table) es row.right (drop row.past chains)
              (here ∷ tail) rest)
              (sym (drop_item entries n entry there is)) (record {
                stand = (record { cell = cell; named = named; placed = refl; wide = of_step.wide }, linked.stand);
                in_order = (after, linked.in_order);
                split = of_step.begins.split ∙ ap (λ xs. of_step.own ++ xs) linked.split
                    ∙ sym (append_assoc of_step.own (flat_map (λ each. each.inner) tail) rest)
                    ∙ ap (λ xs. xs ++ rest) (sym (flat_map-cons (λ (each : Link). each.inner) here tail));
              })));
          back = λ links rest linked.
              let found = far.back links rest linked in
              let one = next found.0 rest found.1 in
              let alike = same_step found.0 rest one in
              let head : one.link ≡ here = link_same style (on_cell found.0 rest one) alike.alike alike.same in (
                one.later,
                record {
                  stand = one.stand;
                  in_order = subst (λ place. AreSideBySide place.right one.later) (on_cell found.0 rest one) one.in_order;
                  split = rest_same of_step.own (drop step.past chains) (flat_map (λ each. each.inner) one.later ++ rest)
                      (sym of_step.begins.split ∙ one.goes ∙ ap (λ xs. xs ++ (flat_map (λ each. each.inner) one.later ++ rest))
                      alike.same);
                },
                found.2 ∙ ap (λ tail. far.done ++ tail) (one.begins ∙ (λ i. head i ∷ one.later)) ∙ sym
                    (append_assoc far.done (here ∷ []) one.later),
              );
          covers = omega (
            arith,
            far.covers,
            sum_by-append (λ (each : Link). each.place.right - each.place.left) far.done (here ∷ []),
            sum_by-cons (λ (each : Link). each.place.right - each.place.left) here [],
          );
          wide = omega (
            arith,
            far.wide,
            sum_by-append (λ (each : Link). each.width) far.done (here ∷ []),
            sum_by-cons (λ (each : Link). each.width) here [],
          );
          light = omega (arith, light, far.light);
          within = of_step.begins.within;
          inside = omega (arith, far.inside, after, some);
          right = inside;
          many = omega (arith, far.many, some);
        }

-- ---- all chains

-- the chain walked is all there is, weighs what is claimed, and is wider than the page
pub walked_all : (document : Document) (chains : List Chain) (least : ℕ) (walked : Walked) → IsSound document.table →
    IsWalk document.style document.table chains 0 least walked →
    ((walked.past ≡ length chains) × (walked.weight ≡ least) × (document.page < least)) ↔ AreTooWide document chains least
walked_all document chains least walked sound walk = (forth, back)
  where
    forth : (walked.past ≡ length chains) × (walked.weight ≡ least) × (document.page < least) → AreTooWide document chains least
    forth all = record {
      weighed = subst (λ own. IsChain document.table document.style own least) own_all
          (subst (λ w. IsChain document.table document.style walk.own w) all.1 walk.chain);
      wider = all.2;
    } where
      own_all : walk.own ≡ chains
      own_all = sym (walk.begins.split ∙ ap (λ xs. walk.own ++ xs)
          (drop_short chains walked.past (omega (arith, all.0))) ∙ append-nil walk.own)

    back : AreTooWide document chains least → (walked.past ≡ length chains) × (walked.weight ≡ least) × (document.page < least)
    back too = (past, one.alike, too.wider)
      where
        one : AreOne walk.own chains walked.weight least
        one = any_chain_one document.style document.table walk.own chains (drop walked.past chains)
            [] walked.weight least sound walk.chain too.weighed
            (sym walk.begins.split ∙ sym (append-nil chains))

        past : walked.past ≡ length chains
        past =
            let none = rest_same chains (drop walked.past chains) []
            (ap (λ own. own ++ drop walked.past chains) (sym one.same) ∙ sym walk.begins.split ∙ sym (append-nil chains)) in
            omega (arith, walk.begins.within, ap length none, length-drop walked.past chains)

-- none is there
pub walked_none : (document : Document) (chains : List Chain) (least : ℕ) →
    HasNoWalk document.style document.table chains 0 least →
    AreTooWide document chains least → ⊥
walked_none document chains least none too = none chains [] least (sym (append-nil chains)) too.weighed (omega arith)
