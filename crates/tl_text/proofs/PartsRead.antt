-- The parts of a text, read from the left.
use Rattle.std.proofs.Common.{◌≡◌, ℕ, ◌<◌, ◌≤◌, Bool, true, false, cond, if◌then◌else◌, List, [], ◌∷◌, ◌++◌, length, filter}
use Rattle.std.proofs.Common.{drop, reverse, get_or, refl, ap, sym, ◌∙◌, arith}
use Rattle.std.proofs.Common.{append_assoc, sum_by}
use Rattle.std.specs.List.{All, AllByRecursion}
use Rattle.std.proofs.lemmas.List.{drop_all, reverse-append}
use Rattle.std.proofs.lemmas.Bool.Decides.{nat_tests}
use Rattle.std.proofs.lemmas.List.Sums.{sum_by-cons}
use Rattle.std.proofs.lemmas.List.Elements.{All-from_recursion}
use Rattle.unicode_segmentation.specs.Segments.{cut, prepend}
use Rattle.tl_base.specs.Text.{byte_count}
use Rattle.tl_text.specs.Words.{has_character}
use Rattle.tl_text.specs.Parts.{is_part_break, parts_of}
use Rattle.tl_text.proofs.ClusterLemmas.{joined-cut, size-joined}
use Rattle.tl_text.proofs.WordLemmas.{first_left}

-- the parts that come once an open part and what is left are read, where these characters, nearest
-- first, stand before what is left
abbrev pub parts_from : List ℕ → List ℕ → List ℕ → List (List ℕ)
parts_from before part [] = filter has_character (part ∷ [])
parts_from before part (c ∷ cs) =
    if is_part_break before (c ∷ cs) then part ∷ parts_from (c ∷ before) (c ∷ []) cs
    else parts_from (c ∷ before) (part ++ c ∷ []) cs

-- the pieces after an open part: it ends there, or goes on into the first of them
abbrev opened : Bool → List ℕ → List (List ℕ) → List (List ℕ)
opened ends part pieces = cond ends (part ∷ pieces) (prepend part pieces)

opened-push : (ends : Bool) (part : List ℕ) (c : ℕ) (pieces : List (List ℕ)) →
    opened ends (part ++ c ∷ []) pieces ≡ prepend part (opened ends (c ∷ []) pieces)
opened-push true part c pieces = refl
opened-push false part c [] = refl
opened-push false part c (piece ∷ pieces) = ap (λ (first : List ℕ). first ∷ pieces) (append_assoc part (c ∷ []) piece)

-- a part with a character goes on into the pieces of what is left
chosen : (ends later : Bool) (part : List ℕ) (d : ℕ) (pieces inside alone : List (List ℕ)) →
    inside ≡ opened later (part ++ d ∷ []) pieces → alone ≡ opened later (d ∷ []) pieces →
    cond ends (part ∷ alone) inside ≡ opened ends part (opened later (d ∷ []) pieces)
chosen true later part d pieces inside alone inside_is alone_is = ap (λ (rest : List (List ℕ)). part ∷ rest) alone_is
chosen false later part d pieces inside alone inside_is alone_is = inside_is ∙ opened-push later part d pieces

filter-some : (part : List ℕ) → 0 < length part → filter has_character (part ∷ []) ≡ part ∷ []
filter-some part some = ap (λ (has : Bool). cond has (part ∷ []) []) has
  where
    has : has_character part ≡ true
    has = grind (arith, nat_tests, some)

parts_from-opened : (c : ℕ) (before part cs : List ℕ) → 0 < length part →
    parts_from (c ∷ before) part cs
    ≡ opened (is_part_break (c ∷ before) cs) part (cut is_part_break (c ∷ before) cs [])
unfolding cut
parts_from-opened c before part [] some = filter-some part some
parts_from-opened c before part (d ∷ cs) some =
    let first = is_part_break (c ∷ before) (d ∷ cs) in
    let pieces = cut is_part_break (d ∷ c ∷ before) cs [] in
    chosen first (is_part_break (d ∷ c ∷ before) cs) part d pieces
    (parts_from (d ∷ c ∷ before) (part ++ d ∷ []) cs) (parts_from (d ∷ c ∷ before) (d ∷ []) cs)
    (parts_from-opened d (c ∷ before) (part ++ d ∷ []) cs (longer part d))
    (parts_from-opened d (c ∷ before) (d ∷ []) cs (omega arith))
    ∙ ap (λ (ends : Bool). opened first part (opened ends (d ∷ []) pieces)) (same (d ∷ c ∷ before) cs)
  where
    longer : (text : List ℕ) (d : ℕ) → 0 < length (text ++ d ∷ [])
    longer [] d = omega arith
    longer (c ∷ text) d = omega arith

    same : (before cs : List ℕ) → is_part_break before cs ≡ is_part_break before (cs ++ [])
    same before [] = refl
    same before (next ∷ cs) = refl

-- no part is open at the beginning
pub parts_from-start : (text : List ℕ) → parts_from [] [] text ≡ parts_of text
unfolding cut
parts_from-start [] = refl
parts_from-start (c ∷ cs) =
    parts_from-opened c [] (c ∷ []) cs (omega arith)
    ∙ ap (λ (ends : Bool). opened ends (c ∷ []) (cut is_part_break (c ∷ []) cs [])) (same cs)
  where
    same : (cs : List ℕ) → is_part_break (c ∷ []) cs ≡ is_part_break (c ∷ []) (cs ++ [])
    same [] = refl
    same (next ∷ cs) = refl

-- the characters before what is left, once one more is read
pub read_more : (y : List ℕ) (c : ℕ) → reverse (y ++ c ∷ []) ≡ c ∷ reverse y
read_more y c = reverse-append y (c ∷ [])

-- one more character, at the place after those that were read
module _ (list : List (List ℕ)) (cs y : List ℕ) (c : ℕ) (part : List ℕ)
    (turn : (length y < length cs) × (c ≡ get_or cs (length y) c))
    (so_far : list ++ parts_from (reverse y) part (drop (length y) cs) ≡ parts_of cs) where
  known : list ++ parts_from (reverse y) part (c ∷ drop (length (y ++ c ∷ [])) cs) ≡ parts_of cs
  known = ap (λ l. list ++ parts_from (reverse y) part l) (sym (first_left cs y c turn)) ∙ so_far

  abbrev later : List ℕ
  later = drop (length (y ++ c ∷ [])) cs

  -- a part ends before it
  pub after_break : is_part_break (reverse y) (c ∷ []) ≡ true →
      (list ++ part ∷ []) ++ parts_from (reverse (y ++ c ∷ [])) (c ∷ []) (drop (length (y ++ c ∷ [])) cs) ≡ parts_of cs
  after_break ends =
      append_assoc list (part ∷ []) (parts_from (reverse (y ++ c ∷ [])) (c ∷ []) later)
      ∙ ap (λ before. list ++ part ∷ parts_from before (c ∷ []) later) (read_more y c)
      ∙ ap (λ (first : Bool). list ++ cond first (part ∷ parts_from (c ∷ reverse y) (c ∷ []) later)
      (parts_from (c ∷ reverse y) (part ++ c ∷ []) later)) (sym ends)
      ∙ known

  -- the open part goes on with it
  pub after_inside : is_part_break (reverse y) (c ∷ []) ≡ false →
      list ++ parts_from (reverse (y ++ c ∷ [])) (part ++ c ∷ []) (drop (length (y ++ c ∷ [])) cs) ≡ parts_of cs
  after_inside goes_on =
      ap (λ before. list ++ parts_from before (part ++ c ∷ []) later) (read_more y c)
      ∙ ap (λ (first : Bool). list ++ cond first (part ∷ parts_from (c ∷ reverse y) (c ∷ []) later)
      (parts_from (c ∷ reverse y) (part ++ c ∷ []) later)) (sym goes_on)
      ∙ known

-- nothing is left: the open part is the last
module _ (list : List (List ℕ)) (cs y part : List ℕ) (all : length y ≡ length cs)
    (so_far : list ++ parts_from (reverse y) part (drop (length y) cs) ≡ parts_of cs) where
  pub at_end : list ++ filter has_character (part ∷ []) ≡ parts_of cs
  at_end = ap (λ l. list ++ parts_from (reverse y) part l) (sym (drop_all (length y) cs (omega arith))) ∙ so_far

-- the parts of a text have no more bytes than it has
pub small_parts : (text : List ℕ) (most : ℕ) → byte_count text ≤ most → All (λ part. byte_count part ≤ most) (parts_of text)
small_parts text most few =
    All-from_recursion (λ part. byte_count part ≤ most) (parts_of text)
    (each (parts_of text) (omega (arith, size-joined (parts_of text), ap byte_count (joined-cut is_part_break [] text []), few)))
  where
    each : (pieces : List (List ℕ)) → sum_by byte_count pieces ≤ most → AllByRecursion (λ part. byte_count part ≤ most) pieces
    each [] within = tt
    each (piece ∷ pieces) within =
        let both = sum_by-cons byte_count piece pieces in
        (omega (arith, both, within), each pieces (omega (arith, both, within)))
