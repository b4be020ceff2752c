-- Sections of nested tables, the deepest first: what was found on those so far was found as well on those and more, where the
-- more are of tables that lie no deeper.
use Rattle.std.proofs.Common.{◌≡◌, ◌∙◌, ℕ, ◌+◌, ◌-◌, ◌<◌, ◌≤◌, List, [], ◌∷◌, ◌++◌, inl, inr, length, get_or, Contains, suc}
use Rattle.std.proofs.Common.{refl, sym, ap, subst, arith}
use Rattle.std.specs.List.{All, AllZip, flat_map}
use Rattle.std.specs.List.Sorted.{IsPermutation}
use Rattle.std.proofs.Math.Seq.{get_or-append_seam}
use Rattle.std.proofs.lemmas.Bool.{cases_lt}
use Rattle.std.proofs.lemmas.List.{get_or_append_left, length_push}
use Rattle.std.proofs.lemmas.List.Concat.{flat_map-cons}
use Rattle.std.proofs.lemmas.List.Elements.{All-append, All-contains, All-nil, Contains-append_cases, Contains-append_left}
use Rattle.std.proofs.lemmas.List.Sorted.{All-permutation, Contains-permutation, IsPermutation-sym}
use Rattle.tl_base.proofs.Members.{All-from_Contains}
use Rattle.tl_problem.specs.Problem.{ProblemModel}
use Rattle.tl_cert.specs.declared.section.Section.{Section}
use Rattle.tl_table.specs.declared.cell.Table.{Table, out-Table}
use Rattle.tl_table.specs.Sound.{IsSound, nested_in_table}
use Rattle.tl_table.specs.Tables.{IsAmong, inner_tables}
use Rattle.tl_table.proofs.TableNumbers.{inside_greater, number_within, one_of_number, sound_among}
use Rattle.tl_form.specs.Expected.{Document, IsTableOf, own_number}
use Rattle.tl_form.proofs.Truth.{nested_among}
use Rattle.tl_solve.specs.declared.outcome.Outcome.{Outcome}
use Rattle.tl_nested.specs.inner.Depths.{AreDepths, AreSizes, depth_of, IsAtDepth}
use Rattle.tl_nested.specs.inner.Found.{AreTold, IsFoundAt, IsFoundFor, IsFoundOn}
use Rattle.tl_nested.proofs.SameSteps.{ShareNested, found_on}

module _ (document : Document) (sound : IsSound document.table) (sizes depths : List ℕ) (n : ℕ)
    (all : n ≡ nested_in_table document.table + 1)
    (sized : AreSizes document sizes n) (are : AreDepths sizes depths n) where
  abbrev own : ℕ
  own = own_number document

  -- a table lies deeper than the one around it
  nested_deeper : (one nested : Table) → IsAmong document.table one → Contains (inner_tables (out-Table one)) nested →
      depth_of own depths (out-Table one).number < depth_of own depths (out-Table nested).number
  nested_deeper one nested among has =
      let own_sound = sound_among document.table one sound among in
      let past = inside_greater one nested 1 own_sound (nested, has, inl refl) in
      let within = number_within one nested own_sound (inr (1, (nested, has, inl refl))) in
      let here = number_within document.table one sound among in
      let there = number_within document.table nested sound (nested_among document.table one nested among has) in
      let size = sized.each ((out-Table one).number - own) one (omega (arith, here, all))
      (record { among = among; numbered = omega (arith, here) }) in
      are.deeper ((out-Table one).number - own) ((out-Table nested).number - own) (omega (arith, past, here))
      (omega (arith, here, there, past, all, are.count))
      (omega (arith, within, size, here))

  -- sections of tables at one depth change nothing for a table that lies as deep or deeper
  share_more : (told added : List Section) (depth number : ℕ) → depth ≤ depth_of own depths number →
      All (λ (section : Section). depth_of own depths section.table ≡ depth) added →
      ShareNested document number told (told ++ added)
  share_more told added depth number deep at one nested named has = record {
    there = λ section of stands. Contains-append_left told added section stands;
    back = λ section of stands. elim (Contains-append_cases told added section stands) [
      | inl old ↦ old
      | inr new ↦
          let here : depth_of own depths (out-Table nested).number ≡ depth =
          subst (λ m. depth_of own depths m ≡ depth) of
          (All-contains (λ (section : Section). depth_of own depths section.table ≡ depth) added section at new) in
          let deeper = subst (λ m. depth_of own depths m < depth_of own depths (out-Table nested).number) named.numbered
          (nested_deeper one nested named.among has) in
          absurd (omega (arith, here, deeper, deep))
    ];
  }

  module _ (given : ProblemModel → Outcome → Type 0) (budget : ℕ) where
    abbrev FoundAt : List Section → ℕ → Section → Type 0
    FoundAt told depth = IsFoundAt given document budget told depths depth

    -- one more depth
    pub told_more : (depth next : ℕ) (told added : List Section) → next + 1 ≡ depth →
        AreTold given document budget depths depth told → All (FoundAt told depth) added →
        AreTold given document budget depths next (told ++ added)
    told_more depth next told added step old new =
        All-append (λ section. IsFoundOn given document budget (told ++ added) section
        × (next < depth_of own depths section.table)) told added
        (All-from_Contains (λ section. IsFoundOn given document budget (told ++ added) section
        × (next < depth_of own depths section.table)) told (λ section has.
        let before = All-contains (λ section. IsFoundOn given document budget told section
        × (depth < depth_of own depths section.table)) told section old has in (
          found_on given document budget told (told ++ added) section
              (share_more told added depth section.table (omega (arith, before.1)) at_depth) before.0,
          omega (arith, before.1, step),
        )))
        (All-from_Contains (λ section. IsFoundOn given document budget (told ++ added) section
        × (next < depth_of own depths section.table)) added (λ section has.
        let here = All-contains (FoundAt told depth) added section new has in (
          found_on given document budget told (told ++ added) section
              (share_more told added depth section.table (omega (arith, here.at)) at_depth) here.found,
          omega (arith, here.at, step),
        )))
      where
        at_depth : All (λ (section : Section). depth_of own depths section.table ≡ depth) added
        at_depth = All-from_Contains (λ (section : Section). depth_of own depths section.table ≡ depth) added
            (λ section has. (All-contains (FoundAt told depth) added section new has).at)

-- ---- the lists of a group, one after the other

module _ (given : ProblemModel → Outcome → Type 0) (document : Document) (budget : ℕ) (told : List Section)
    (depths : List ℕ) (depth : ℕ) where
  group_at : (numbers : List ℕ) (lists : List (List Section)) →
      All (IsAtDepth (own_number document) depths depth) numbers →
      AllZip (λ number list. All (IsFoundFor given document budget told number) list) numbers lists →
      All (IsFoundAt given document budget told depths depth) (flat_map (λ (list : List Section). list) lists)
  group_at [] [] at all = All-nil (IsFoundAt given document budget told depths depth)
  group_at [] (list ∷ lists) at all = absurd all
  group_at (number ∷ numbers) [] at all = absurd all
  group_at (number ∷ numbers) (list ∷ lists) at all =
      subst (All (IsFoundAt given document budget told depths depth))
      (sym (flat_map-cons (λ (list : List Section). list) list lists))
      (All-append (IsFoundAt given document budget told depths depth) list (flat_map (λ (list : List Section). list) lists)
      (All-from_Contains (IsFoundAt given document budget told depths depth) list (λ section has.
      let one = All-contains (IsFoundFor given document budget told number) list section all.0 has in
      record {
        found = one.found;
        at = subst (λ m. depth_of (own_number document) depths m ≡ depth) (sym one.of) (at 0 number (omega arith)).at;
      }))
      (group_at numbers lists (λ i d less. at (suc i) d (omega (arith, less))) all.1))

  pub group_found : (numbers : List ℕ) (lists : List (List Section)) →
      All (IsAtDepth (own_number document) depths depth) numbers →
      AllZip (λ number list. All (IsFoundFor given document budget told number) list) numbers lists →
      (added : List Section) → added ≡ flat_map (λ (list : List Section). list) lists →
      All (IsFoundAt given document budget told depths depth) added
  group_found numbers lists at all added is =
      subst (All (IsFoundAt given document budget told depths depth)) (sym is) (group_at numbers lists at all)

-- ---- in another order

pub found_permuted : (given : ProblemModel → Outcome → Type 0) (document : Document) (budget : ℕ) (told sorted : List Section) →
    IsPermutation told sorted → All (IsFoundOn given document budget told) told →
    All (IsFoundOn given document budget sorted) sorted
found_permuted given document budget told sorted same found =
    All-permutation (IsFoundOn given document budget sorted) told sorted same
    (All-from_Contains (IsFoundOn given document budget sorted) told (λ section has.
    found_on given document budget told sorted section (λ one nested named inside. record {
      there = λ other of stands. Contains-permutation told sorted other same stands;
      back = λ other of stands. Contains-permutation sorted told other (IsPermutation-sym told sorted same) stands;
    }) (All-contains (IsFoundOn given document budget told) told section found has)))

-- ---- one more size

pub sizes_more : (document : Document) → IsSound document.table → (sizes more : List ℕ) (k size : ℕ) (one : Table) →
    AreSizes document sizes k → more ≡ sizes ++ size ∷ [] → IsTableOf document (own_number document + k) one →
    size ≡ nested_in_table one → AreSizes document more (k + 1)
sizes_more document sound sizes more k size one so_far push named is = subst (λ all. AreSizes document all (k + 1)) (sym push)
    (record {
      count = omega (arith, length_push sizes size, so_far.count);
      each = λ i other less at. elim (cases_lt i k) [
        | inl old ↦ get_or_append_left sizes (size ∷ []) 0 i (omega (arith, old, so_far.count)) ∙ so_far.each i other old at
        | inr new ↦
            let here : i ≡ length sizes = omega (arith, less, new, so_far.count) in
            let same = one_of_number document.table one other sound named.among at.among
            (omega (arith, named.numbered, at.numbered, here, so_far.count)) in
            ap (λ j. get_or (sizes ++ size ∷ []) j 0) here ∙ get_or-append_seam sizes size [] 0 ∙ is ∙ ap nested_in_table same
      ];
    })
