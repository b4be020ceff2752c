-- The fields of records and of one record as far as a loop has come.
use Rattle.std.proofs.Common.{◌≡◌, ◌∙◌, ℕ, ◌+◌, ◌<◌, List, [], ◌∷◌, ◌++◌, length, take, get_or, ap, arith}
use Rattle.std.proofs.Common.{◌≤◌, zero-add}
use Rattle.std.specs.List.{enumerate_from, flat_map}
use Rattle.std.proofs.lemmas.List.{append-nil, get_or-map, length-map, take_all, take_more}
use Rattle.std.proofs.lemmas.List.Concat.{flat_map-append}
use Rattle.std.proofs.lemmas.List.FromFn.{get_or-enumerate_from, length-enumerate_from}
use Rattle.tl_columns.specs.Columns.{placed_in, PlacedField}
use Rattle.tl_columns.specs.Records.{Fields}

module _ {X : Type 0} (xs : List X) where
  -- an item with its place
  numbered_at : (i : ℕ) (d : X) → i < length xs → get_or (enumerate_from 0 xs) i (i, d) ≡ (i, get_or xs i d)
  numbered_at i d within =
      get_or-enumerate_from 0 xs i (i, d) within ∙ ap (λ (n : ℕ). (n, get_or xs i d)) (zero-add i)

  -- one item more, with its place
  pub numbered_more : (i : ℕ) (d : X) → i < length xs →
      take (i + 1) (enumerate_from 0 xs) ≡ take i (enumerate_from 0 xs) ++ (i, get_or xs i d) ∷ []
  numbered_more i d within =
      take_more (enumerate_from 0 xs) i (i, d) (omega (arith, length-enumerate_from 0 xs, within))
      ∙ ap (λ (one : ℕ × X). take i (enumerate_from 0 xs) ++ one ∷ []) (numbered_at i d within)

  pub numbered_all : (n : ℕ) → length xs ≤ n → take n (enumerate_from 0 xs) ≡ enumerate_from 0 xs
  numbered_all n all = take_all n (enumerate_from 0 xs) (omega (arith, length-enumerate_from 0 xs, all))

-- one field more of a record
pub placed_in_more : (row : ℕ) (fields : Fields) (i : ℕ) → i < length fields →
    take (i + 1) (placed_in row fields) ≡
    take i (placed_in row fields) ++ record { row = row; column = i; field = get_or fields i [] } ∷ []
placed_in_more row fields i within =
    let place : ℕ × List ℕ → PlacedField = λ one. record { row = row; column = one.0; field = one.1 } in
    let long = length-enumerate_from 0 fields in
    take_more (placed_in row fields) i (place (i, []))
    (omega (arith, length-map (enumerate_from 0 fields) place, long, within))
    ∙ ap (λ (at : PlacedField). take i (placed_in row fields) ++ at ∷ [])
    (get_or-map place (enumerate_from 0 fields) i (i, []) (place (i, [])) (omega (arith, long, within))
    ∙ ap place (numbered_at fields i [] within))

pub placed_in_all : (row : ℕ) (fields : Fields) (n : ℕ) → length fields ≤ n → take n (placed_in row fields) ≡ placed_in row fields
placed_in_all row fields n all =
    let place : ℕ × List ℕ → PlacedField = λ one. record { row = row; column = one.0; field = one.1 } in
    take_all n (placed_in row fields)
    (omega (arith, length-map (enumerate_from 0 fields) place, length-enumerate_from 0 fields, all))

-- one record more
pub placed_more : (all : List Fields) (i : ℕ) (d : Fields) → i < length all →
    flat_map (λ one. placed_in one.0 one.1) (take (i + 1) (enumerate_from 0 all)) ≡
    flat_map (λ one. placed_in one.0 one.1) (take i (enumerate_from 0 all)) ++ placed_in i (get_or all i d)
placed_more all i d within =
    let fields_at : ℕ × Fields → List PlacedField = λ one. placed_in one.0 one.1 in
    let before = take i (enumerate_from 0 all) in
    ap (λ (ones : List (ℕ × Fields)). flat_map fields_at ones) (numbered_more all i d within)
    ∙ flat_map-append fields_at before ((i, get_or all i d) ∷ [])
    ∙ ap (λ (ats : List PlacedField). flat_map fields_at before ++ ats) (append-nil (placed_in i (get_or all i d)))
