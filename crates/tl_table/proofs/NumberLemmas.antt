-- Tables are put into their places by their numbers, table by table.
use Rattle.std.proofs.Common.{◌≡◌, ◌≢◌, ◌∙◌, ℕ, zero, suc, ◌+◌, ◌-◌, ◌<◌, ◌≤◌, List, [], ◌∷◌, ◌++◌, ◌⊎◌, inl, inr, length, get_or, set}
use Rattle.std.proofs.Common.{take, refl, sym, ap, subst, arith}
use Rattle.std.specs.List.{Contains, flat_map}
use Rattle.std.proofs.lemmas.Bool.{cases_eq}
use Rattle.std.proofs.lemmas.List.{take_all, length-set, get_or-set_same, get_or-set_other}
use Rattle.std.proofs.lemmas.List.Elements.{Contains-append_cases, Contains-append_left, Contains-append_right}
use Rattle.tl_base.proofs.Members.{Contains-cases, Contains-first, Contains-none, Contains-flat_map}
use Rattle.tl_base.proofs.Taken.{joined_more}
use denote.Ref.{Bor}
use Rattle.tl_table.specs.declared.cell.Table.{Table, out-Table}
use Rattle.tl_table.specs.Tables.{IsInsideWithin, IsAmong, inner_tables}
use Rattle.tl_table.specs.Numbered.{AreByNumber, HasNumber, LacksNumber}
use Rattle.tl_table.specs.Sound.{IsSound, nested_in_table}
use Rattle.tl_table.specs.inner.Numbers.{ArePut, HasNumberIn, HavePlaces, LackNumber}
use Rattle.tl_table.proofs.TableNumbers.{number_within, table_of_number}
use Rattle.tl_table.proofs.FewCells.{among-from}

-- ---- a table has those nested directly in it, and all in them

none_of : (table : Table) (number : ℕ) → ((out-Table table).number ≡ number → ⊥) →
    LackNumber (inner_tables (out-Table table)) number →
    LacksNumber table number
none_of table number other none one (inl same) numbered = other (ap (λ t. (out-Table t).number) same ∙ numbered)
none_of table number other none one (inr (zero, inside)) numbered = absurd inside
none_of table number other none one (inr (suc depth, (nested, has, further))) numbered =
    none nested has one (among further) numbered
  where
    among : (nested ≡ one) ⊎ IsInsideWithin depth nested one → IsAmong nested one
    among (inl same) = inl same
    among (inr inside) = inr (depth, inside)

single : (table nested : Table) → Contains (table ∷ []) nested → table ≡ nested
single table nested has = elim (Contains-cases table [] nested has) [ inl same ↦ same | inr none ↦ absurd (Contains-none nested none) ]

-- ---- each has its place

pub own_place : (first count : ℕ) (table : Table) → HavePlaces first count (table ∷ []) →
    (first ≤ (out-Table table).number) × ((out-Table table).number < first + count)
own_place first count table have = have table table (Contains-first table []) (inl refl)

pub inner_places : (first count : ℕ) (table : Table) → HavePlaces first count (table ∷ []) →
    HavePlaces first count (inner_tables (out-Table table))
inner_places first count table have nested one has among =
    have table one (Contains-first table []) (among-from table nested one has among)

-- those of one of some items have theirs
pub item_places : {X : Type 0} (tables : X → List Table) (items xs : List X) (first count now i : ℕ) (x : X) → items ≡ xs →
    HavePlaces first count (flat_map tables xs) → now ≡ count → i < length items → x ≡ get_or items i x →
    HavePlaces first now (tables x)
item_places tables items xs first count now i x same have long within is nested one has among =
    let placed = have nested one (subst (λ all. Contains (flat_map tables all) nested) same
    (Contains-flat_map tables items x nested (i, within, sym is) has)) among in
    (placed.0, omega (arith, placed.1, long))

pub document_places : (table : Table) (count : ℕ) → IsSound table → count ≡ nested_in_table table + 1 →
    HavePlaces (out-Table table).number count (table ∷ [])
document_places table count sound all nested one has among =
    let within = number_within table one sound (subst (λ t. IsAmong t one) (sym (single table nested has)) among) in
    (within.0, omega (arith, within.1, all))

-- ---- they are put there

pub put_none : (first : ℕ) (places : List (Bor Table)) → ArePut first [] places places
put_none first places = record {
  count = refl;
  each = λ i d within. inr (λ nested has. absurd (Contains-none nested has), refl);
}

put_both : (first : ℕ) (some others : List Table) (before between after : List (Bor Table)) → ArePut first some before between →
    ArePut first others between after → ArePut first (some ++ others) before after
put_both first some others before between after put then = record {
  count = then.count ∙ put.count;
  each = λ i d within. at i d (put.each i d within) (then.each i d (omega (arith, within, put.count)));
} where
  at : (i : ℕ) (d : Bor Table) →
      HasNumberIn some (first + i) (get_or between i d).now
      ⊎ (LackNumber some (first + i) × (get_or between i d ≡ get_or before i d)) →
      HasNumberIn others (first + i) (get_or after i d).now
      ⊎ (LackNumber others (first + i) × (get_or after i d ≡ get_or between i d)) →
      HasNumberIn (some ++ others) (first + i) (get_or after i d).now
      ⊎ (LackNumber (some ++ others) (first + i) × (get_or after i d ≡ get_or before i d))
  at i d old (inl (nested, has, found)) = inl (nested, Contains-append_right some others nested has, found)
  at i d (inl (nested, has, found)) (inr (lack, kept)) = inl (
    nested,
    Contains-append_left some others nested has,
    subst (λ (t : Bor Table). HasNumber nested (first + i) t.now) (sym kept) found,
  )
  at i d (inr (none, same)) (inr (lack, kept)) = inr (
    λ nested has. elim (Contains-append_cases some others nested has)
        [ inl early ↦ none nested early | inr late ↦ lack nested late ],
    kept ∙ same,
  )

-- one more item's
pub put_more : {X : Type 0} (tables : X → List Table) (items : List X) (first i : ℕ) (x : X)
    (before between after : List (Bor Table)) → i < length items → x ≡ get_or items i x →
    ArePut first (flat_map tables (take i items)) before between → ArePut first (tables x) between after →
    ArePut first (flat_map tables (take (i + 1) items)) before after
put_more tables items first i x before between after within is put then =
    subst (λ some. ArePut first some before after) (sym (joined_more tables items i x x within is))
    (put_both first (flat_map tables (take i items)) (tables x) before between after put then)

-- all items'
pub put_all : {X : Type 0} (tables : X → List Table) (items xs : List X) (first i : ℕ) (before after : List (Bor Table)) →
    items ≡ xs → length items ≤ i → ArePut first (flat_map tables (take i items)) before after →
    ArePut first (flat_map tables xs) before after
put_all tables items xs first i before after same all put =
    subst (λ some. ArePut first (flat_map tables some) before after) (take_all i items all ∙ same) put

-- those nested in a table and then itself
pub put_own : (first : ℕ) (table : Bor Table) (before between : List (Bor Table)) → first ≤ (out-Table table.now).number →
    (out-Table table.now).number < first + length before →
    ArePut first (inner_tables (out-Table table.now)) before between →
    ArePut first (table.now ∷ []) before (set between ((out-Table table.now).number - first) table)
put_own first table before between from upto put = record {
  count = length-set between own table ∙ put.count;
  each = λ i d within. at i d within (put.each i d within) (cases_eq i own);
} where
  inner : List Table
  inner = inner_tables (out-Table table.now)

  own : ℕ
  own = (out-Table table.now).number - first

  after : List (Bor Table)
  after = set between own table

  Is : ℕ → Bor Table → Type 0
  Is i one = HasNumberIn (table.now ∷ []) (first + i) one.now

  at : (i : ℕ) (d : Bor Table) → i < length before →
      HasNumberIn inner (first + i) (get_or between i d).now
      ⊎ (LackNumber inner (first + i) × (get_or between i d ≡ get_or before i d)) →
      (i ≡ own) ⊎ (i ≢ own) →
      Is i (get_or after i d) ⊎ (LackNumber (table.now ∷ []) (first + i) × (get_or after i d ≡ get_or before i d))
  at i d within old (inl same) = inl (subst (Is i)
      (sym (ap (λ k. get_or after k d) same ∙ get_or-set_same between own table d (omega (arith, same, within, put.count))))
      (table.now, Contains-first table.now [], record { among = inl refl; numbered = omega (arith, same, from) }))
  at i d within (inl (nested, has, found)) (inr apart) = inl (subst (Is i) (sym (get_or-set_other between own i table d apart)) (
    table.now,
    Contains-first table.now [],
    record {
      among = among-from table.now nested (get_or between i d).now has found.among;
      numbered = found.numbered;
    },
  ))
  at i d within (inr (lack, kept)) (inr apart) = inr (
    λ nested has. subst (λ t. LacksNumber t (first + i)) (single table.now nested has)
        (none_of table.now (first + i) (λ same. apart (omega (arith, same))) lack),
    get_or-set_other between own i table d apart ∙ kept,
  )

-- where all of a sound table are put, each place has its own
pub put_document : (table : Table) (before after : List (Bor Table)) → IsSound table →
    length before ≡ nested_in_table table + 1 →
    ArePut (out-Table table).number (table ∷ []) before after → AreByNumber table after
put_document table before after sound long put = record {
  count = put.count ∙ long;
  each = λ i d within. at i d (omega (arith, within, put.count, long)) (put.each i d (omega (arith, within, put.count)));
} where
  first : ℕ
  first = (out-Table table).number

  at : (i : ℕ) (d : Bor Table) → i ≤ nested_in_table table →
      HasNumberIn (table ∷ []) (first + i) (get_or after i d).now
      ⊎ (LackNumber (table ∷ []) (first + i) × (get_or after i d ≡ get_or before i d)) →
      HasNumber table (first + i) (get_or after i d).now
  at i d within (inl (nested, has, found)) =
      subst (λ t. HasNumber t (first + i) (get_or after i d).now) (sym (single table nested has)) found
  at i d within (inr (lack, kept)) =
      let one = table_of_number table (first + i) sound (omega arith) (omega (arith, within)) in
      absurd (lack table (Contains-first table []) one.0 one.1 one.2)
