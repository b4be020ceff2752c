-- At one place at most one chain of a table stands, with those that it rests on.
use Rattle.std.proofs.Common.{◌≡◌, ◌∙◌, ℕ, zero, suc, List, [], ◌∷◌, ◌++◌, Option, Some, None, Contains, slice_get, append_assoc}
use Rattle.std.proofs.Common.{refl, sym, ap}
use Rattle.std.proofs.Common.{subst, inl, arith}
use Rattle.std.specs.List.{AllZip, flat_map}
use Rattle.std.proofs.lemmas.List.Concat.{flat_map-cons}
use Rattle.tl_base.specs.declared.style.Style.{Style}
use Rattle.tl_base.proofs.Members.{Contains-flat_map, first-same, rest-same}
use Rattle.tl_base.specs.declared.chain.Chain.{Chain}
use Rattle.tl_base.specs.declared.chain.Entry.{Entry}
use Rattle.tl_table.specs.declared.cell.Table.{Table, out-Table}
use Rattle.tl_table.specs.declared.cell.TableCell.{TableCell, out-TableCell}
use Rattle.tl_table.specs.Chains.{Link, HasWidth, IsLink, IsChainWithin, IsChain, links_weight, Weighs}
use Rattle.tl_table.specs.Sound.{IsSound}
use Rattle.tl_table.specs.Tables.{inner_tables, tables_in}
use Rattle.tl_table.proofs.ChainDepths.{links_depth}
use Rattle.tl_table.proofs.TableNumbers.{one_of_number, sound_among}
use Rattle.tl_form.proofs.Truth.{nested_among}

-- ---- lists that begin alike

pub rest_same : {X : Type 0} (xs ys zs : List X) → xs ++ ys ≡ xs ++ zs → ys ≡ zs
rest_same [] ys zs same = same
rest_same (x ∷ xs) ys zs same = rest_same xs ys zs (let both : x ∷ (xs ++ ys) ≡ x ∷ (xs ++ zs) = same in cc)

pub some_same : {X : Type 0} {o : Option X} {x y : X} → o ≡ Some x → o ≡ Some y → x ≡ y
some_same one other = cc

-- ---- a cell of a table holds tables of the table

pub contains_at : {X : Type 0} (xs : List X) (k : ℕ) (x : X) → slice_get xs k ≡ Some x → Contains xs x
contains_at [] k x is = absurd cc
contains_at (y ∷ xs) zero x is = (0, omega arith, some_same refl is)
contains_at (y ∷ xs) (suc k) x is = let rest = contains_at xs k x is in (suc rest.0, omega (arith, rest.1), rest.2)

-- the cell is one of the table's
pub record IsCellOf (table : Table) (cell : TableCell) : Type 0 where
  pub number : ℕ
  pub named : slice_get (out-Table table).cells number ≡ Some cell

pub held : (table : Table) (cell : TableCell) (nested : Table) → IsCellOf table cell →
    Contains (tables_in (out-TableCell cell)) nested →
    Contains (inner_tables (out-Table table)) nested
held table cell nested of has =
    Contains-flat_map (λ one. tables_in (out-TableCell one)) (out-Table table).cells cell nested
    (contains_at (out-Table table).cells of.number cell of.named) has

-- tables nested in a sound table that have one number are one
pub same_nested : (table : Table) (cell : TableCell) (one other : Table) → IsSound table → IsCellOf table cell →
    Contains (tables_in (out-TableCell cell)) one → Contains (tables_in (out-TableCell cell)) other →
    (out-Table one).number ≡ (out-Table other).number → one ≡ other
same_nested table cell one other sound of has also same =
    one_of_number table one other sound (nested_among table table one (inl refl) (held table cell one of has))
    (nested_among table table other (inl refl) (held table cell other of also)) same

-- ---- chains that go on to one list are one

pub record AreOne (own other : List Chain) (weight more : ℕ) : Type 0 where
  pub same : own ≡ other
  pub alike : weight ≡ more

module _ (style : Style) where
  -- what stands for an entry, by chains of some depth and of another
  step_one : (depth at : ℕ) → ((nested : Table) (own other rest left : List Chain) (weight more : ℕ) → IsSound nested →
      IsChainWithin depth style nested own weight → IsChainWithin at style nested other more → own ++ rest ≡ other ++ left →
      AreOne own other weight more) → (table : Table) (cell : TableCell) → IsSound table → IsCellOf table cell →
      (inner : Option ℕ) (one other : Link)
      (rest left : List Chain) → HasWidth (IsChainWithin depth style) (out-TableCell cell) inner one →
      HasWidth (IsChainWithin at style) (out-TableCell cell) inner other → one.inner ++ rest ≡ other.inner ++ left →
      AreOne one.inner other.inner one.width other.width
  step_one depth at so table cell sound of None one other rest left wide also split =
      record { same = wide.1 ∙ sym also.1; alike = wide.0 ∙ sym also.0 }
  step_one depth at so table cell sound of (Some number) one other rest left wide also split =
      let nested = same_nested table cell also.0 wide.0 sound of also.1 wide.1 (also.2 ∙ sym wide.2) in
      so wide.0 one.inner other.inner rest left one.width other.width
      (sound_among table wide.0 sound (nested_among table table wide.0 (inl refl) (held table cell wide.0 of wide.1))) wide.3
      (subst (λ t. IsChainWithin at style t other.inner other.width) nested also.3) split

  pub link_same : {one other : Link} → one.place ≡ other.place → one.width ≡ other.width → one.inner ≡ other.inner → one ≡ other
  link_same place width inner = λ i. record { place = place i; width = width i; inner = inner i }

  -- links of the same entries
  links_one : (depth at : ℕ) → ((nested : Table) (own other rest left : List Chain) (weight more : ℕ) → IsSound nested →
      IsChainWithin depth style nested own weight → IsChainWithin at style nested other more → own ++ rest ≡ other ++ left →
      AreOne own other weight more) → (table : Table) → IsSound table →
      (entries : List Entry) (links others : List Link) (rest left : List Chain) →
      AllZip (λ entry link. IsLink (IsChainWithin depth style) (out-Table table) entry link) entries links →
      AllZip (λ entry link. IsLink (IsChainWithin at style) (out-Table table) entry link) entries others →
      flat_map (λ link. link.inner) links ++ rest ≡ flat_map (λ link. link.inner) others ++ left → links ≡ others
  links_one depth at so table sound [] [] [] rest left stand also split = refl
  links_one depth at so table sound [] [] (x ∷ others) rest left stand also split = absurd also
  links_one depth at so table sound [] (x ∷ links) others rest left stand also split = absurd stand
  links_one depth at so table sound (entry ∷ entries) [] others rest left stand also split = absurd stand
  links_one depth at so table sound (entry ∷ entries) (link ∷ links) [] rest left stand also split = absurd also
  links_one depth at so table sound (entry ∷ entries) (link ∷ links) (other ∷ others) rest left stand also split =
      let one = stand.0 in
      let two = also.0 in
      let cell : two.cell ≡ one.cell = some_same two.named one.named in
      let apart : link.inner ++ (flat_map (λ each. each.inner) links ++ rest) ≡ other.inner ++
      (flat_map (λ each. each.inner) others ++ left) =
      sym (append_assoc link.inner (flat_map (λ each. each.inner) links) rest)
      ∙ ap (λ xs. xs ++ rest) (sym (flat_map-cons (λ (each : Link). each.inner) link links))
      ∙ split ∙ ap (λ xs. xs ++ left) (flat_map-cons (λ (each : Link). each.inner) other others)
      ∙ append_assoc other.inner (flat_map (λ each. each.inner) others) left in
      let here = step_one depth at so table one.cell sound (record { number = entry.cell; named = one.named })
      entry.inner link other
      (flat_map (λ each. each.inner) links ++ rest) (flat_map (λ each. each.inner) others ++ left) one.wide
      (subst (λ c. HasWidth (IsChainWithin at style) (out-TableCell c) entry.inner other) cell two.wide) apart in
      let head : link ≡ other = link_same (one.placed ∙ sym (ap (λ c. (out-TableCell c).place) cell) ∙ sym two.placed)
      here.alike here.same in
      let tail = links_one depth at so table sound entries links others rest left stand.1 also.1
      (rest_same other.inner (flat_map (λ each. each.inner) links ++ rest) (flat_map (λ each. each.inner) others ++ left)
      (ap (λ xs. xs ++ (flat_map (λ each. each.inner) links ++ rest)) (sym here.same) ∙ apart)) in
      λ i. head i ∷ tail i

  chain_step : (depth at : ℕ) → ((nested : Table) (own other rest left : List Chain) (weight more : ℕ) → IsSound nested →
      IsChainWithin depth style nested own weight → IsChainWithin at style nested other more → own ++ rest ≡ other ++ left →
      AreOne own other weight more) → (table : Table) (own other rest left : List Chain) (weight more : ℕ) → IsSound table →
      IsChainWithin (suc depth) style table own weight → IsChainWithin (suc at) style table other more →
      own ++ rest ≡ other ++ left →
      AreOne own other weight more
  chain_step depth at so table own other rest left weight more sound chain also split =
      let whole : chain.chain ∷ (flat_map (λ link. link.inner) chain.links ++ rest) ≡ also.chain ∷
      (flat_map (λ link. link.inner) also.links ++ left) =
      ap (λ xs. xs ++ rest) (sym chain.followed) ∙ split ∙ ap (λ xs. xs ++ left) also.followed in
      let head : chain.chain ≡ also.chain = first-same _ _ _ _ whole in
      let links : chain.links ≡ also.links =
      links_one depth at so table sound chain.chain.entries chain.links also.links rest left chain.stand
      (subst (λ one. AllZip (λ entry link. IsLink (IsChainWithin at style) (out-Table table) entry link) one.entries also.links)
      (sym head) also.stand)
      (rest-same _ _ _ _ whole) in
      record {
        same = chain.followed ∙ (λ i. head i ∷ flat_map (λ link. link.inner) (links i)) ∙ sym also.followed;
        alike = chain.weighed ∙ ap (links_weight style (out-Table table).cols) links ∙ sym also.weighed;
      }

  pub chain_one : (depth at : ℕ) (table : Table) (own other rest left : List Chain) (weight more : ℕ) → IsSound table →
      IsChainWithin depth style table own weight → IsChainWithin at style table other more → own ++ rest ≡ other ++ left →
      AreOne own other weight more
  chain_one zero at table own other rest left weight more sound chain also split = absurd chain
  chain_one (suc depth) zero table own other rest left weight more sound chain also split = absurd also
  chain_one (suc depth) (suc at) table own other rest left weight more sound chain also split =
      chain_step depth at (λ nested own other rest left weight more sound chain also split.
      chain_one depth at nested own other rest left weight more sound chain also split)
      table own other rest left weight more sound chain also split

  -- ---- of any depth

  pub any_chain_one : (table : Table) (own other rest left : List Chain) (weight more : ℕ) → IsSound table →
      IsChain table style own weight →
      IsChain table style other more → own ++ rest ≡ other ++ left → AreOne own other weight more
  any_chain_one table own other rest left weight more sound chain also split =
      chain_one chain.0 also.0 table own other rest left weight more sound chain.1 also.1 split

  pub any_links_one : (table : Table) → IsSound table → (entries : List Entry) (links others : List Link)
      (rest left : List Chain) →
      AllZip (λ entry link. IsLink (Weighs style) (out-Table table) entry link) entries links →
      AllZip (λ entry link. IsLink (Weighs style) (out-Table table) entry link) entries others →
      flat_map (λ link. link.inner) links ++ rest ≡ flat_map (λ link. link.inner) others ++ left → links ≡ others
  any_links_one table sound entries links others rest left stand also split =
      let one = links_depth style (out-Table table) entries links stand in
      let two = links_depth style (out-Table table) entries others also in
      links_one one.0 two.0 (λ nested own other rest left weight more sound chain also split.
      chain_one one.0 two.0 nested own other rest left weight more sound chain also split)
      table sound entries links others rest left one.1 two.1 split

  pub any_step_one : (table : Table) (cell : TableCell) → IsSound table → IsCellOf table cell →
      (inner : Option ℕ) (one other : Link)
      (rest left : List Chain) → HasWidth (Weighs style) (out-TableCell cell) inner one →
      HasWidth (Weighs style) (out-TableCell cell) inner other →
      one.inner ++ rest ≡ other.inner ++ left → AreOne one.inner other.inner one.width other.width
  any_step_one table cell sound of None one other rest left wide also split =
      record { same = wide.1 ∙ sym also.1; alike = wide.0 ∙ sym also.0 }
  any_step_one table cell sound of (Some number) one other rest left wide also split =
      let nested = same_nested table cell also.0 wide.0 sound of also.1 wide.1 (also.2 ∙ sym wide.2) in
      any_chain_one wide.0 one.inner other.inner rest left one.width other.width
      (sound_among table wide.0 sound (nested_among table table wide.0 (inl refl) (held table cell wide.0 of wide.1))) wide.3
      (subst (λ t. IsChain t style other.inner other.width) nested also.3) split
