-- The numbers and the side of a tag's attributes, one attribute after another.
use Rattle.std.proofs.Common.{◌≡◌, ℕ, Bool, true, false, List, [], ◌∷◌, ◌++◌, Option, Some, None, refl, cond, min, unwrap_or}
use Rattle.std.specs.Option.{option_map, option_and_then}
use Rattle.std.specs.Prelude.{codes}
use Rattle.tl_token.specs.Numbers.{number_of, columns_spanned, rows_spanned, floor_of}
use Rattle.tl_sides.specs.declared.side.Side.{Side}
use Rattle.tl_token.specs.Elements.{Attribute, is_word, value_of, attribute_number, side_named, attribute_side}
use Rattle.tl_token.specs.inner.Found.{number_in, attribute_number_after, side_in, attribute_side_after, given_of, given_after}
use Rattle.tl_token.proofs.Saturating.{columns_below, rows_below, floor_below}

-- one more attribute counts where no attribute of its name stands before it
pub number_in-push : (word : List ℕ) (all : List Attribute) (a : Attribute) →
    number_in word (all ++ a ∷ []) ≡ attribute_number_after (number_in word all) word a
number_in-push word [] a = by_test (is_word (a.name) word)
  where
    by_test : (b : Bool) → option_map (λ v. option_map (λ n. min n 4294967295) (number_of v)) (cond b (Some (a.value)) None)
        ≡ cond b (Some (option_map (λ n. min n 4294967295) (number_of (a.value)))) None
    by_test true = refl
    by_test false = refl
number_in-push word (d ∷ all) a = by_test (is_word (d.name) word) (number_in-push word all a)
  where
    as_number : Option (List ℕ) → Option (Option ℕ)
    as_number o = option_map (λ v. option_map (λ n. min n 4294967295) (number_of v)) o

    by_test : (b : Bool) → number_in word (all ++ a ∷ []) ≡ attribute_number_after (number_in word all) word a
        → option_map (λ v. option_map (λ n. min n 4294967295) (number_of v))
        (cond b (Some (d.value)) (value_of word (all ++ a ∷ [])))
        ≡ attribute_number_after (option_map (λ v. option_map (λ n. min n 4294967295) (number_of v))
        (cond b (Some (d.value)) (value_of word all))) word a
    by_test true h = refl
    by_test false h = h

-- what the number of an attribute gives
pub columns_in : (word : List ℕ) (all : List Attribute) → columns_spanned (unwrap_or (number_in word all) None) ≡ columns_spanned
    (attribute_number word all)
columns_in word all = from (value_of word all)
  where
    from : (o : Option (List ℕ)) →
        columns_spanned (unwrap_or (option_map (λ v. option_map (λ n. min n 4294967295) (number_of v)) o) None)
        ≡ columns_spanned (option_and_then number_of o)
    from None = refl
    from (Some v) = columns_below (number_of v)

pub rows_in : (word : List ℕ) (all : List Attribute) → rows_spanned (unwrap_or (number_in word all) None) ≡ rows_spanned
    (attribute_number word all)
rows_in word all = from (value_of word all)
  where
    from : (o : Option (List ℕ)) →
        rows_spanned (unwrap_or (option_map (λ v. option_map (λ n. min n 4294967295) (number_of v)) o) None)
        ≡ rows_spanned (option_and_then number_of o)
    from None = refl
    from (Some v) = rows_below (number_of v)

pub floor_in : (word : List ℕ) (all : List Attribute) → floor_of (unwrap_or (number_in word all) None) ≡ floor_of
    (attribute_number word all)
floor_in word all = from (value_of word all)
  where
    from : (o : Option (List ℕ)) →
        floor_of (unwrap_or (option_map (λ v. option_map (λ n. min n 4294967295) (number_of v)) o) None)
        ≡ floor_of (option_and_then number_of o)
    from None = refl
    from (Some v) = floor_below (number_of v)

-- one more attribute names the side where no attribute `align` stands before it
pub side_in-push : (all : List Attribute) (a : Attribute) → side_in (all ++ a ∷ []) ≡ attribute_side_after (side_in all) a
side_in-push [] a = by_test (is_word (a.name) (codes "align"))
  where
    by_test : (b : Bool) → option_map side_named (cond b (Some (a.value)) None) ≡ cond b (Some (side_named (a.value))) None
    by_test true = refl
    by_test false = refl
side_in-push (d ∷ all) a = by_test (is_word (d.name) (codes "align")) (side_in-push all a)
  where
    by_test : (b : Bool) → side_in (all ++ a ∷ []) ≡ attribute_side_after (side_in all) a
        → option_map side_named (cond b (Some (d.value)) (value_of (codes "align") (all ++ a ∷ [])))
        ≡ attribute_side_after (option_map side_named (cond b (Some (d.value)) (value_of (codes "align") all))) a
    by_test true h = refl
    by_test false h = h

-- the side that the attributes ask for
pub align_in : (all : List Attribute) → unwrap_or (side_in all) None ≡ attribute_side all
align_in all = from (value_of (codes "align") all)
  where
    from : (o : Option (List ℕ)) → unwrap_or (option_map side_named o) None ≡ option_and_then side_named o
    from None = refl
    from (Some v) = refl

pub given_of-push : (all : List Attribute) (a : Attribute) → given_of (all ++ a ∷ []) ≡ given_after (given_of all) a
given_of-push all a =
    let c = number_in-push (codes "colspan") all a in
    let r = number_in-push (codes "rowspan") all a in
    let s = number_in-push (codes "span") all a in
    let l = number_in-push (codes "data-min") all a in
    let d = side_in-push all a in
    λ i. record { colspan = c i; rowspan = r i; span = s i; least = l i; align = d i }
