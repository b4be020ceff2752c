-- The links of a heaviest chain, one after the other.
use Rattle.std.proofs.Common.{◌≡◌, ◌∙◌, ℕ, zero, suc, ◌+◌, ◌-◌, ◌*◌, ◌<◌, ◌≤◌, List, [], ◌∷◌, ◌++◌, length, take, get_or, sum_by}
use Rattle.std.proofs.Common.{Some, None}
use Rattle.std.proofs.Common.{Contains, slice_get, refl, sym, ap, subst, append-nil, length-append, arith}
use Rattle.std.specs.List.{AllZip, AllByRecursion, flat_map}
use Rattle.std.specs.declared.alloc.Global.{Global}
use Rattle.std.specs.declared.boxed.Box.{Box}
use Rattle.std.proofs.lemmas.Grind.{flat_map-append}
use Rattle.std.proofs.lemmas.List.Concat.{flat_map-cons}
use Rattle.std.proofs.lemmas.List.Sums.{sum_by-cons}
use Rattle.std.proofs.lemmas.List.Elements.{Contains-append_left, Contains-append_right}
use Rattle.std.proofs.lemmas.Option.{slice_get_within, slice_get_read, slice_get-get_or}
use Rattle.tl_base.specs.declared.style.Style.{Style}
use Rattle.tl_base.specs.Style.{gap_of, edges_of}
use Rattle.tl_base.proofs.Zips.{AllZip-push}
use Rattle.tl_base.specs.declared.chain.Chain.{Chain}
use Rattle.tl_base.specs.declared.chain.Entry.{Entry}
use Rattle.tl_base.proofs.Taken.{taken_more, AllZip-taken}
use Rattle.tl_table.specs.declared.cell.Content.{Content, out-Content}
use Rattle.tl_table.specs.declared.cell.Content.TheOpen as open_content
use Rattle.tl_table.specs.declared.cell.Table.{Table, out-Table}
use Rattle.tl_table.specs.declared.cell.TableCell.{TableCell, out-TableCell}
use Rattle.tl_table.specs.declared.narrow.Linked.{Linked}
use Rattle.tl_table.specs.declared.widest.Demand.{Demand}
use Rattle.tl_table.specs.Tables.{OpenTable, OpenCell, OpenContent, tables_of}
use Rattle.tl_table.specs.Least.{IsLeastWidth}
use Rattle.tl_table.specs.Chains.{Link, HasWidth, IsLink, IsChainWithin, IsChain, IsHeaviestChain, AreSideBySide, covered}
use Rattle.tl_table.specs.Chains.{links_weight, own_width}
use Rattle.tl_table.specs.Sound.{IsSound, place_of, IsSoundBlock}
use Rattle.tl_table.specs.inner.Demands.{AreInRow, columns_demanded, demands_weight, IsRowOf}
use Rattle.tl_table.specs.inner.LeastRooms.{IsDemandOf, AreDemandsOf}
use Rattle.tl_table.specs.inner.Links.{IsLinked, IsLinkedBy, AreOthers}
use Rattle.tl_table.specs.Chains.{Weighs}
use Rattle.tl_table.proofs.ChainDepths.{links_depth}
use Rattle.tl_table.proofs.ChainLaws.{never_narrower}

-- ---- the links found so far

-- the link has the columns and the width of the demand of a number
pub record HasDemand (demands : List Demand) (number : ℕ) (link : Link) : Type 0 where
  pub demand : Demand
  pub named : slice_get demands number ≡ Some demand
  pub left : link.place.left ≡ demand.left
  pub right : link.place.right ≡ demand.right
  pub wide : link.width ≡ demand.width

-- the first `n` numbers have these entries, and these chains follow
pub record LinksSoFar (style : Style) (table : OpenTable) (demands : List Demand) (numbers : List ℕ) (n : ℕ)
    (entries : List Entry)
    (inner : List Chain) : Type 0 where
  pub links : List Link
  pub stand : AllZip (λ entry link. IsLink (Weighs style) table entry link) entries links
  pub like : AllZip (HasDemand demands) (take n numbers) links
  pub follow : inner ≡ flat_map (λ link. link.inner) links
  pub many : length entries ≡ n

pub LinksSoFar-none : (style : Style) (table : OpenTable) (demands : List Demand) (numbers : List ℕ) →
    LinksSoFar style table demands numbers 0 [] []
LinksSoFar-none style table demands numbers = record { links = []; stand = tt; like = tt; follow = refl; many = refl }

pub LinksSoFar-more : (style : Style) (table : OpenTable) (demands : List Demand) (numbers : List ℕ) (n : ℕ)
    (entries : List Entry)
    (inner : List Chain) (d : ℕ) (cell : TableCell) (demand : Demand) (linked : Linked) →
    n < length numbers → slice_get table.cells (get_or numbers n d) ≡ Some cell →
    slice_get demands (get_or numbers n d) ≡ Some demand →
    IsDemandOf style (out-TableCell cell) demand → IsLinked style (out-TableCell cell) demand.width linked →
    LinksSoFar style table demands numbers n entries inner →
    LinksSoFar style table demands numbers (n + 1) (entries ++ record { cell = get_or numbers n d; inner = linked.inner } ∷ [])
    (inner ++ linked.chains)
LinksSoFar-more style table demands numbers n entries inner d cell demand linked within named wanted of linked_so before =
    record {
      links = before.links ++ link ∷ [];
      stand = AllZip-push (λ entry one. IsLink (Weighs style) table entry one) entries before.links
          (record { cell = get_or numbers n d; inner = linked.inner }) link before.stand
          (record { cell = cell; named = named; placed = refl; wide = linked_so });
      like = AllZip-taken (HasDemand demands) numbers before.links n d (get_or numbers n d) link within refl before.like
          (record { demand = demand; named = wanted; left = sym of.left; right = sym of.right; wide = refl });
      follow = ap (λ prefix. prefix ++ linked.chains) before.follow ∙
          ap (λ back. flat_map (λ one. one.inner) before.links ++ back)
          (sym (flat_map-cons (λ (one : Link). one.inner) link [] ∙ append-nil linked.chains)) ∙
          sym (flat_map-append (λ (one : Link). one.inner) before.links (link ∷ []));
      many = omega (arith, before.many, length-append entries (record { cell = get_or numbers n d; inner = linked.inner } ∷ []));
    } where
      link : Link
      link = record { place = place_of cell; width = demand.width; inner = linked.chains }

-- ---- links with the demands of a row weigh what the row does

record AreLike (from : ℕ) (picked : List Demand) (links : List Link) : Type 0 where
  side : AreInRow from picked → AreSideBySide from links
  many : length links ≡ length picked
  wide : sum_by (λ link. link.width) links ≡ sum_by (λ demand. demand.width) picked
  covers : covered links ≡ columns_demanded picked

same_demand : (demands : List Demand) (number : ℕ) (one other : Demand) → slice_get demands number ≡ Some one →
    slice_get demands number ≡ Some other → one ≡ other
same_demand demands number one other a b = cc

are_like : (demands : List Demand) (from : ℕ) (numbers : List ℕ) (picked : List Demand) (links : List Link) →
    AllZip (λ number demand. slice_get demands number ≡ Some demand) numbers picked →
    AllZip (HasDemand demands) numbers links → AreLike from picked links
are_like demands from [] [] [] named like = record { side = λ row. tt; many = refl; wide = refl; covers = refl }
are_like demands from [] (demand ∷ picked) links named like = absurd named
are_like demands from [] [] (link ∷ links) named like = absurd like
are_like demands from (number ∷ numbers) [] links named like = absurd named
are_like demands from (number ∷ numbers) (demand ∷ picked) [] named like = absurd like
are_like demands from (number ∷ numbers) (demand ∷ picked) (link ∷ links) named like =
    more (are_like demands demand.right numbers picked links named.1 like.1)
  where
    same : demand ≡ like.0.demand
    same = same_demand demands number demand like.0.demand named.0 like.0.named

    left : link.place.left ≡ demand.left
    left = like.0.left ∙ sym (ap (λ one. one.left) same)

    right : link.place.right ≡ demand.right
    right = like.0.right ∙ sym (ap (λ one. one.right) same)

    width : link.width ≡ demand.width
    width = like.0.wide ∙ sym (ap (λ one. one.width) same)

    more : AreLike demand.right picked links → AreLike from (demand ∷ picked) (link ∷ links)
    more rest = record {
      side = λ row. (omega (arith, row.0, left), subst (λ column. AreSideBySide column links) (sym right) (rest.side row.1));
      many = omega (arith, rest.many);
      wide = sum_by-cons (λ (one : Link). one.width) link links ∙ ap (λ w. w + sum_by (λ one. one.width) links) width ∙
          ap (λ w. demand.width + w) rest.wide ∙ sym (sum_by-cons (λ (one : Demand). one.width) demand picked);
      covers = omega (
        arith,
        sum_by-cons (λ (one : Link). one.place.right - one.place.left) link links,
        sum_by-cons
            (λ (one : Demand). one.right - one.left) demand picked,
        left,
        right,
        rest.covers,
      );
    }

weigh_alike : (style : Style) (cols : ℕ) (picked : List Demand) (links : List Link) → AreLike 0 picked links →
    demands_weight style cols picked ≡ links_weight style cols links
weigh_alike style cols picked links alike =
    ap (λ w. w + gap_of style * (length picked + (cols - columns_demanded picked) - 1) + edges_of style) (sym alike.wide)
    ∙ ap (λ n. sum_by (λ link. link.width) links + gap_of style * (n + (cols - columns_demanded picked) - 1) + edges_of style)
    (sym alike.many)
    ∙ ap (λ n. sum_by (λ link. link.width) links + gap_of style * (length links + (cols - n) - 1) + edges_of style)
    (sym alike.covers)

-- ---- the chain, in all

pub chain_made : (style : Style) (table : Table) (demands : List Demand) (numbers : List ℕ) (weight : ℕ) (entries : List Entry)
    (inner chains : List Chain) → IsSound table →
    IsRowOf style (out-Table table).cols demands numbers weight →
    LinksSoFar style (out-Table table) demands numbers (length numbers) entries inner →
    take (length numbers) numbers ≡ numbers →
    chains ≡ record { table = (out-Table table).number; entries = entries } ∷ inner → IsLeastWidth table style weight →
    IsHeaviestChain table style chains weight
chain_made style table demands numbers weight entries inner chains sound row far whole made least = record {
  chain = (
    suc deep.0,
    record {
      chain = record { table = (out-Table table).number; entries = entries };
      links = far.links;
      of_table = refl;
      has_entry = omega (arith, far.many, row.some);
      stand = deep.1;
      in_order = alike.side row.in_row;
      followed = made ∙ ap (λ more. record { table = (out-Table table).number; entries = entries } ∷ more) far.follow;
      weighed = row.weighed ∙ weigh_alike style (out-Table table).cols row.picked far.links alike;
    },
  );
  never_more = λ other more chain. let one = least.attained in
      never_narrower chain.0 style table other more weight one.0 one.1 one.2.0 sound chain.1 one.2.1;
} where
  deep : (depth : ℕ) × AllZip (λ entry link. IsLink (IsChainWithin depth style) (out-Table table) entry link) entries far.links
  deep = links_depth style (out-Table table) entries far.links far.stand

  alike : AreLike 0 row.picked far.links
  alike = are_like demands 0 numbers row.picked far.links row.named
      (subst (λ prefix. AllZip (HasDemand demands) prefix far.links) whole far.like)

-- ---- demands by their numbers

pub demand_at : (style : Style) (cells : List TableCell) (demands : List Demand) (k : ℕ) (cell : TableCell) (demand : Demand) →
    AreDemandsOf style cells demands → slice_get cells k ≡ Some cell → slice_get demands k ≡ Some demand →
    IsDemandOf style (out-TableCell cell) demand
demand_at style [] demands k cell demand those there wanted = let no : None ≡ Some cell = there in cc
demand_at style (one ∷ cells) [] k cell demand those there wanted = absurd those
demand_at style (one ∷ cells) (first ∷ demands) zero cell demand those there wanted =
    let a : Some one ≡ Some cell = there in let b : Some first ≡ Some demand = wanted in
    let same : one ≡ cell = cc in let also : first ≡ demand = cc in
    subst (λ it. IsDemandOf style (out-TableCell it) demand) same (subst (IsDemandOf style (out-TableCell one)) also those.0)
demand_at style (one ∷ cells) (first ∷ demands) (suc k) cell demand those there wanted =
    demand_at style cells demands k cell demand those.1 there wanted

pub as_many : (style : Style) (cells : List TableCell) (demands : List Demand) → AreDemandsOf style cells demands →
    length demands ≡ length cells
as_many style [] [] those = refl
as_many style [] (demand ∷ demands) those = absurd those
as_many style (cell ∷ cells) [] those = absurd those
as_many style (cell ∷ cells) (demand ∷ demands) those = omega (arith, as_many style cells demands those.1)

-- each number of a row is that of a demand
pub numbers_within : (demands : List Demand) (numbers : List ℕ) (picked : List Demand) →
    AllZip (λ number demand. slice_get demands number ≡ Some demand) numbers picked → (n d : ℕ) → n < length numbers →
    get_or numbers n d < length demands
numbers_within demands [] picked named n d within = absurd (omega arith)
numbers_within demands (number ∷ numbers) [] named n d within = absurd named
numbers_within demands (number ∷ numbers) (demand ∷ picked) named zero d within = slice_get_within demands number demand named.0
numbers_within demands (number ∷ numbers) (demand ∷ picked) named (suc n) d within =
    numbers_within demands numbers picked named.1 n d (omega arith)

-- ---- a block of the cell gives the reason

nested_among : (blocks : List Content) (k : ℕ) (block : Content) (nested : Table) → slice_get blocks k ≡ Some block →
    Contains (tables_of (out-Content block)) nested → Contains (flat_map (λ one. tables_of (out-Content one)) blocks) nested
nested_among [] k block nested named inside = let no : None ≡ Some block = named in cc
nested_among (one ∷ blocks) zero block nested named inside =
    let a : Some one ≡ Some block = named in let same : one ≡ block = cc in
    subst (λ all. Contains all nested) (sym (flat_map-cons (λ it. tables_of (out-Content it)) one blocks))
    (Contains-append_left (tables_of (out-Content one)) (flat_map (λ it. tables_of (out-Content it)) blocks) nested
    (subst (λ it. Contains (tables_of (out-Content it)) nested) (sym same) inside))
nested_among (one ∷ blocks) (suc k) block nested named inside =
    subst (λ all. Contains all nested) (sym (flat_map-cons (λ it. tables_of (out-Content it)) one blocks))
    (Contains-append_right (tables_of (out-Content one)) (flat_map (λ it. tables_of (out-Content it)) blocks) nested
    (nested_among blocks k block nested named inside))

pub linked_in : (style : Style) (cell : OpenCell) (width : ℕ) (k : ℕ) (block : Content) (linked : Linked) →
    slice_get cell.blocks k ≡ Some block →
    IsLinkedBy style (out-Content block) width linked → IsLinked style cell width linked
linked_in style cell width k block linked named by = subst
    (λ inner. HasWidth (λ table chains weight. IsChain table style chains weight) cell inner
    (record { place = cell.place; width = width; inner = linked.chains })) (sym by.named)
    (by.nested, nested_among cell.blocks k block by.nested named by.inside, refl, by.chain)

-- of one table there is one least width
pub IsLeastWidth-unique : (table : Table) (style : Style) (one other : ℕ) → IsLeastWidth table style one →
    IsLeastWidth table style other →
    one ≡ other
IsLeastWidth-unique table style one other a b =
    let x = a.attained in let y = b.attained in omega (arith, a.least other y.0 y.1 y.2, b.least one x.0 x.1 x.2)

-- ---- a nested table in its box

pub boxed_sound : (block : OpenContent) (box : Box Table Global) (table : Table) → block ≡ open_content.Table box →
    table ≡ box.value →
    IsSoundBlock block → IsSound table
boxed_sound block box table is opened sound = subst IsSound (sym opened) (subst IsSoundBlock is sound).0

pub linked_by_box : (style : Style) (block : OpenContent) (box : Box Table Global) (table again : Table) (chains : List Chain)
    (least width weight : ℕ) → block ≡ open_content.Table box → table ≡ box.value → again ≡ box.value →
    IsLeastWidth box.value style least → least ≡ width → IsLeastWidth table style weight →
    IsHeaviestChain table style chains weight →
    IsLinkedBy style block width (record { inner = Some (out-Table again).number; chains = chains })
linked_by_box style block box table again chains least width weight is opened reopened at same measured heaviest =
    subst (λ it. IsLinkedBy style it width (record { inner = Some (out-Table again).number; chains = chains })) (sym is) (record {
      nested = box.value;
      inside = (0, omega arith, refl);
      named = ap (λ it. Some (out-Table it).number) reopened;
      chain = subst (λ w. IsChain box.value style chains w)
          (IsLeastWidth-unique box.value style weight least (subst (λ it. IsLeastWidth it style weight)
          opened measured) at ∙ same)
          (subst (λ it. IsChain it style chains weight) opened heaviest.chain);
    })

-- a block that no width is of leaves the blocks so far others
pub others_more : (style : Style) (w : ℕ) (items : List Content) (n : ℕ) (item : Content) → n < length items →
    item ≡ get_or items n item →
    AllByRecursion (AreOthers style w) (take n items) → AreOthers style w item →
    AllByRecursion (AreOthers style w) (take (n + 1) items)
others_more style w items n item within is before here =
    subst (AllByRecursion (AreOthers style w)) (sym (taken_more items n item item within is))
    (append_others (take n items) before)
  where
    append_others : (prefix : List Content) → AllByRecursion (AreOthers style w) prefix →
        AllByRecursion (AreOthers style w) (prefix ++ item ∷ [])
    append_others [] all = (here, tt)
    append_others (one ∷ prefix) all = (all.0, append_others prefix all.1)

-- the reason is the cell's own width
pub unlinked_by : (style : Style) (cell : OpenCell) (width : ℕ) (linked : Linked) → linked.inner ≡ None → linked.chains ≡ [] →
    width ≡ own_width cell → IsLinked style cell width linked
unlinked_by style cell width linked none empty own =
    subst (λ inner. HasWidth (λ table chains weight. IsChain table style chains weight) cell inner
    (record { place = cell.place; width = width; inner = linked.chains })) (sym none) (own, empty)

-- ---- the loop over the numbers of a row

pub number_within : (style : Style) (cols : ℕ) (demands : List Demand) (numbers items : List ℕ) (weight n : ℕ) →
    IsRowOf style cols demands numbers weight → items ≡ numbers → n < length items → get_or items n 0 < length demands
number_within style cols demands numbers items weight n row same within =
    subst (λ those. get_or those n 0 < length demands) (sym same)
    (numbers_within demands numbers row.picked row.named n 0 (subst (λ those. n < length those) same within))

pub room_at : (style : Style) (cells : List TableCell) (demands : List Demand) (k : ℕ) (item : TableCell) (d : Demand) →
    AreDemandsOf style cells demands → k < length demands → item ≡ get_or cells k item →
    IsDemandOf style (out-TableCell item) (get_or demands k d)
room_at style cells demands k item d those within is =
    demand_at style cells demands k item (get_or demands k d) those
    (slice_get_read cells (length cells) k item refl (omega (arith, as_many style cells demands those)) is)
    (slice_get-get_or demands k d within)

pub links_next : (style : Style) (table : OpenTable) (demands : List Demand) (numbers : List ℕ) (n : ℕ)
    (entries after : List Entry)
    (inner more : List Chain) (item : TableCell) (d : Demand) (linked : Linked) → AreDemandsOf style table.cells demands →
    n < length numbers → get_or numbers n 0 < length demands → item ≡ get_or table.cells (get_or numbers n 0) item →
    IsLinked style (out-TableCell item) (get_or demands (get_or numbers n 0) d).width linked →
    LinksSoFar style table demands numbers n entries inner →
    after ≡ entries ++ record { cell = get_or numbers n 0; inner = linked.inner } ∷ [] → more ≡ inner ++ linked.chains →
    LinksSoFar style table demands numbers (n + 1) after more
links_next style table demands numbers n entries after inner more item d linked those inside within is reason before pushed
    joined =
    let k = get_or numbers n 0 in
    subst (λ prefix. LinksSoFar style table demands numbers (n + 1) prefix more) (sym pushed)
    (subst (LinksSoFar style table demands numbers (n + 1) (entries ++ record {
      cell = get_or numbers n 0;
      inner =
          linked.inner;
    } ∷ [])) (sym joined)
    (LinksSoFar-more style table demands numbers n entries inner 0 item (get_or demands k d) linked inside
    (slice_get_read table.cells (length table.cells) k item refl
    (omega (arith, as_many style table.cells demands those, within)) is)
    (slice_get-get_or demands k d within)
    (room_at style table.cells demands k item d those within is) reason before))

pub all_links : (style : Style) (table : OpenTable) (demands : List Demand) (numbers items : List ℕ) (n : ℕ)
    (entries : List Entry)
    (inner : List Chain) → items ≡ numbers → n ≤ length items → length items ≤ n →
    LinksSoFar style table demands items n entries inner → LinksSoFar style table demands numbers (length numbers) entries inner
all_links style table demands numbers items n entries inner same below past far =
    let n_is : n ≡ length items = omega arith in
    subst (λ those. LinksSoFar style table demands those (length those) entries inner) same
    (subst (λ k. LinksSoFar style table demands items k entries inner) n_is far)
