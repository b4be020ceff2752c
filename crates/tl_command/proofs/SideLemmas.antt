-- Lists of sides in one argument: an argument spells at most one, and what has been read of one.
use Rattle.std.proofs.Common.{◌≡◌, ◌≢◌, ℕ, ◌+◌, ◌<◌, ◌≤◌, ◌⊎◌, inl, inr, List, [], ◌∷◌, ◌++◌, length, drop, get_or}
use Rattle.std.proofs.Common.{refl, sym, ap, subst, ◌∙◌, arith, codes}
use Rattle.std.proofs.Math.ListN.{drop_of_length-le}
use Rattle.std.proofs.lemmas.List.{append-nil, append_assoc, drop_more, length-append}
use Rattle.std.proofs.lemmas.List.Concat.{flat_map-cons, flat_map-append}
use Rattle.tl_base.specs.declared.limits.TheConstants.{MAX_COLUMNS}
use Rattle.tl_base.proofs.Members.{first-same, rest-same}
use Rattle.tl_sides.specs.declared.align.Align.{Align}
use Rattle.tl_sides.specs.declared.align.Align.TheVariants.{Columns, Auto, Cells}
use Rattle.tl_sides.specs.declared.side.Side.{Side}
use Rattle.tl_sides.specs.declared.side.Side.TheVariants.{Left, Right, Center}
use Rattle.tl_command.specs.Options.{IsAlign, align_word, comma_letters, side_letter}

-- ---- letters

letter_once : (one other : Side) → side_letter one ≡ side_letter other → one ≡ other
letter_once Left Left e = refl
letter_once Right Right e = refl
letter_once Center Center e = refl
letter_once one other e = absurd (omega (arith, e))

letter_apart : (side : Side) → side_letter side ≢ 0x61
letter_apart Left e = omega (arith, e)
letter_apart Right e = omega (arith, e)
letter_apart Center e = omega (arith, e)

-- ---- lists

letters_cons : (side : Side) (sides : List Side) → comma_letters (side ∷ sides) ≡ 44 ∷ side_letter side ∷ comma_letters sides
letters_cons side sides = flat_map-cons (λ (one : Side). 44 ∷ side_letter one ∷ []) side sides

-- sides that are spelled as these and more are these and more
follow : (read sides : List Side) (rest : List ℕ) → comma_letters sides ≡ comma_letters read ++ rest →
    (later : List Side) × (sides ≡ read ++ later) × (comma_letters later ≡ rest)
follow [] sides rest e = (sides, refl, e)
follow (one ∷ read) [] rest e = absurd (omega (arith, ap length (e ∙ ap (λ (bs : List ℕ). bs ++ rest) (letters_cons one read))))
follow (one ∷ read) (other ∷ sides) rest e =
    let both : side_letter other ∷ comma_letters sides ≡ side_letter one ∷ (comma_letters read ++ rest) =
    rest-same 44 44 _ _ (sym (letters_cons other sides) ∙ e ∙ ap (λ (bs : List ℕ). bs ++ rest) (letters_cons one read)) in
    let same = letter_once other one (first-same _ _ _ _ both) in
    let more = follow read sides rest (rest-same _ _ _ _ both) in
    (more.0, ap (λ side. side ∷ sides) same ∙ ap (λ (list : List Side). one ∷ list) more.1, more.2)

-- the word of some sides, after a comma
letters_full : (sides : List Side) → 1 ≤ length sides → 44 ∷ drop 1 (comma_letters sides) ≡ comma_letters sides
letters_full [] some = absurd (omega (arith, some))
letters_full (side ∷ sides) some =
    ap (λ (bs : List ℕ). 44 ∷ drop 1 bs) (letters_cons side sides) ∙ sym (letters_cons side sides)

-- the word of sides is none of a rule
no_auto : (sides : List Side) → 1 ≤ length sides → align_word (Columns sides) ≢ codes "auto"
no_auto [] some e = omega (arith, some)
no_auto (side ∷ sides) some e =
    letter_apart side (first-same _ _ _ _ (sym (ap (drop 1) (letters_cons side sides)) ∙ e))

no_cells : (sides : List Side) → 1 ≤ length sides → align_word (Columns sides) ≢ codes "cells"
no_cells [] some e = omega (arith, some)
no_cells (side ∷ []) some e = omega (arith, ap length (sym (ap (drop 1) (letters_cons side [])) ∙ e))
no_cells (side ∷ next ∷ sides) some e =
    let all : side_letter side ∷ 44 ∷ side_letter next ∷ comma_letters sides ≡ codes "cells" =
    sym (ap (drop 1) (letters_cons side (next ∷ sides)) ∙ ap (λ (rest : List ℕ). side_letter side ∷ rest) (letters_cons next sides)) ∙ e in
    let second : 44 ≡ 0x65 = first-same _ _ _ _ (rest-same _ _ _ _ all) in
    omega (arith, second)

columns_once : (one other : List Side) → 1 ≤ length one → 1 ≤ length other →
    align_word (Columns one) ≡ align_word (Columns other) → one ≡ other
columns_once one other some many same =
    let next = follow other one [] (sym (letters_full one some) ∙ ap (λ (bs : List ℕ). 44 ∷ bs) same ∙ letters_full other many
    ∙ sym (append-nil (comma_letters other))) in
    by_later next.0 next.1 next.2 where
      by_later : (later : List Side) → one ≡ other ++ later → comma_letters later ≡ [] → one ≡ other
      by_later [] is none = is ∙ append-nil other
      by_later (side ∷ later) is none = absurd (omega (arith, ap length (sym (letters_cons side later) ∙ none)))

-- an argument asks for sides in at most one way
pub align_once : (one other : Align) → IsAlign one → IsAlign other → align_word one ≡ align_word other → one ≡ other
align_once (Columns one) (Columns other) first second same = ap Columns (columns_once one other first.0 second.0 same)
align_once (Columns one) Auto first second same = absurd (no_auto one first.0 same)
align_once (Columns one) Cells first second same = absurd (no_cells one first.0 same)
align_once Auto (Columns other) first second same = absurd (no_auto other second.0 (sym same))
align_once Auto Auto first second same = refl
align_once Auto Cells first second same = absurd (omega (arith, ap length same))
align_once Cells (Columns other) first second same = absurd (no_cells other second.0 (sym same))
align_once Cells Auto first second same = absurd (omega (arith, ap length same))
align_once Cells Cells first second same = refl

-- ---- reading

-- these sides have been read, and what is left after a comma begins at this byte
pub record HasReadSides (bytes : List ℕ) (sides : List Side) (at : ℕ) : Type 0 where
  pub spelled : 44 ∷ bytes ≡ comma_letters sides ++ 44 ∷ drop at bytes
  pub few : length sides ≤ MAX_COLUMNS

module _ (bytes : List ℕ) (read : List Side) (at : ℕ) (so_far : HasReadSides bytes read at) where
  -- the sides of which the argument is the list go on with the one whose letter stands there
  record GoesOn (sides : List Side) : Type 0 where
    pub next : Side
    pub later : List Side
    pub same : sides ≡ read ++ next ∷ later
    pub left : drop at bytes ≡ side_letter next ∷ comma_letters later

  goes_on : (sides : List Side) → IsAlign (Columns sides) → align_word (Columns sides) ≡ bytes → GoesOn sides
  goes_on sides are is =
      let found = follow read sides (44 ∷ drop at bytes)
      (sym (letters_full sides are.0) ∙ ap (λ (bs : List ℕ). 44 ∷ bs) is ∙ so_far.spelled) in
      by_later found.0 found.1 found.2 where
        by_later : (later : List Side) → sides ≡ read ++ later → comma_letters later ≡ 44 ∷ drop at bytes → GoesOn sides
        by_later [] same rest = absurd (omega (arith, ap length rest))
        by_later (next ∷ later) same rest = record {
          next = next;
          later = later;
          same = same;
          left = sym (rest-same 44 44 _ _ (sym (letters_cons next later) ∙ rest));
        }

  -- so the argument is no list where there are as many already as there may be, or nothing is left
  pub none_more : MAX_COLUMNS ≤ length read ⊎ length bytes ≤ at → (sides : List Side) → IsAlign (Columns sides) →
      align_word (Columns sides) ≢ bytes
  none_more (inl full) sides are is =
      let on = goes_on sides are is in
      omega (arith, full, are.1, ap length on.same, length-append read (on.next ∷ on.later))
  none_more (inr ended) sides are is =
      let on = goes_on sides are is in
      omega (arith, ap length (sym (drop_of_length-le bytes ended) ∙ on.left))

  module _ (more : at < length bytes) where
    -- nor where the byte that stands there is no letter of a side
    pub none_stands : ((side : Side) → side_letter side ≢ get_or bytes at 0) → (sides : List Side) → IsAlign (Columns sides) →
        align_word (Columns sides) ≢ bytes
    none_stands none sides are is =
        let on = goes_on sides are is in
        none on.next (sym (first-same _ _ _ _ (sym (drop_more bytes at 0 more) ∙ on.left)))

    -- nor where something other than a comma follows
    pub none_follows : at + 1 < length bytes → (get_or bytes (at + 1) 0 ≢ 44) → (sides : List Side) →
        IsAlign (Columns sides) → align_word (Columns sides) ≢ bytes
    none_follows room apart sides are is =
        let on = goes_on sides are is in
        let after : comma_letters on.later ≡ drop (at + 1) bytes =
        sym (rest-same _ _ _ _ (sym (drop_more bytes at 0 more) ∙ on.left)) in
        by_later on.later (after ∙ drop_more bytes (at + 1) 0 room) where
          by_later : (later : List Side) → comma_letters later ≡ get_or bytes (at + 1) 0 ∷ drop (at + 1 + 1) bytes → ⊥
          by_later [] e = absurd (omega (arith, ap length e))
          by_later (next ∷ later) e = apart (first-same _ _ _ _ (sym e ∙ letters_cons next later))

    -- where one stands there
    module _ (side : Side) (stands : side_letter side ≡ get_or bytes at 0) where
      read_one : 44 ∷ bytes ≡ comma_letters (read ++ side ∷ []) ++ drop (at + 1) bytes
      read_one =
          so_far.spelled
          ∙ ap (λ (rest : List ℕ). comma_letters read ++ 44 ∷ rest)
          (drop_more bytes at 0 more ∙ ap (λ (b : ℕ). b ∷ drop (at + 1) bytes) (sym stands))
          ∙ sym (append_assoc (comma_letters read) (44 ∷ side_letter side ∷ []) (drop (at + 1) bytes))
          ∙ ap (λ (front : List ℕ). front ++ drop (at + 1) bytes)
          (sym (flat_map-append (λ (one : Side). 44 ∷ side_letter one ∷ []) read (side ∷ [])))

      -- the argument is the list where nothing follows
      pub all_read : at + 1 ≡ length bytes → align_word (Columns (read ++ side ∷ [])) ≡ bytes
      all_read ended =
          sym (ap (drop 1) (read_one ∙ ap (λ (rest : List ℕ). comma_letters (read ++ side ∷ []) ++ rest)
          (drop_of_length-le bytes (omega (arith, ended))) ∙ append-nil (comma_letters (read ++ side ∷ []))))

      -- and goes on where a comma does
      pub one_more : at + 1 < length bytes → get_or bytes (at + 1) 0 ≡ 44 → length read < MAX_COLUMNS →
          HasReadSides bytes (read ++ side ∷ []) (at + 2)
      one_more room comma space =
          let two : at + 1 + 1 ≡ at + 2 = omega arith in record {
            spelled = read_one ∙ ap (λ (rest : List ℕ). comma_letters (read ++ side ∷ []) ++ rest)
                (drop_more bytes (at + 1) 0 room ∙ ap (λ (b : ℕ). b ∷ drop (at + 1 + 1) bytes) comma
                ∙ ap (λ (k : ℕ). 44 ∷ drop k bytes) two);
            few = omega (arith, space, length-append read (side ∷ []));
          }
