-- A line of a page, swept from left to right: where a cell has begun, all its room is written at once.
use Rattle.std.proofs.Common.{◌≡◌, ◌⊎◌, inl, inr, ℕ, zero, suc, ◌+◌, ◌*◌, ◌<◌, ◌≤◌, List, [], ◌∷◌, ◌++◌, Option, Some, None, length}
use Rattle.std.proofs.Common.{drop}
use Rattle.std.proofs.Common.{get_or, slice_get, refl, sym, ◌∙◌, ap, subst, append_assoc, append-nil, arith}
use Rattle.std.specs.List.{flat_map}
use Rattle.std.proofs.lemmas.List.{drop_more, drop_all}
use Rattle.std.proofs.lemmas.Bool.{cases_lt}
use Rattle.std.proofs.lemmas.Option.{none-some, same_Some}
use Rattle.tl_grid.specs.declared.shape.Place.{Place}
use Rattle.tl_base.specs.Sizes.{position, room, total}
use Rattle.tl_base.proofs.SizeLaws.{total-position, room-position, position-next}
use Rattle.tl_page.specs.declared.strip.Strip.{Strip}
use Rattle.tl_page.specs.Strips.{even, following, strips_from, strips}
use Rattle.tl_page.specs.Signs.{IsSign, run}
use Rattle.tl_page.specs.Widths.{TakesColumns}
use Rattle.tl_page.proofs.StripLemmas.{following-more}
use Rattle.tl_page.proofs.WidthLemmas.{HasWidth-append, HasWidth-run, HasWidth-same, HasWidth-none}

-- a run of one sign
abbrev pub IsDrawn : ℕ → List ℕ → Type 0
IsDrawn size text = (sign : ℕ) × IsSign sign × (text ≡ run size sign)

drawn_width : (size : ℕ) (text : List ℕ) → IsDrawn size text → TakesColumns text size
drawn_width size text (sign, is, same) = HasWidth-same (run size sign) text size (HasWidth-run sign size is) (sym same)

abbrev pub strip_with : ℕ → ℕ → ℕ → ℕ → Strip
strip_with before after from size = record { before = before; after = after; from = from; size = size }

pub cases_option : (o : Option ℕ) → (o ≡ None) ⊎ ((n : ℕ) × (o ≡ Some n))
cases_option None = inl refl
cases_option (Some n) = inr (n, refl)

-- `kind` is the cell that goes through a slot, if any does; a cell's content stands in its first slot, and everything
-- else that is not inside a cell is drawn
module _ (kind : ℕ → Option ℕ) (places : List Place) (gap edge : ℕ) (widths : List ℕ) (content : ℕ → List ℕ) (piece : Strip →
    List ℕ) where
  pub record IsSwept : Type 0 where
    pub placed : (slot n : ℕ) → kind slot ≡ Some n →
        (place : Place) × (slice_get places n ≡ Some place) × (place.left < slot) × (slot ≤ place.right) ×
        (place.right ≤ length widths)
    pub whole : (slot other n : ℕ) (place : Place) → kind slot ≡ Some n → slice_get places n ≡ Some place → place.left < other →
        other ≤ place.right → kind other ≡ Some n
    pub wide : (n : ℕ) (place : Place) → slice_get places n ≡ Some place →
        TakesColumns (content n) (room gap widths place.left place.right)
    pub bare : (slot from size : ℕ) → kind slot ≡ None → IsDrawn size (piece (strip_with slot slot from size))
    pub begun : (slot from size n : ℕ) (place : Place) → kind slot ≡ Some n → slice_get places n ≡ Some place →
        slot ≡ place.left + 1 →
        piece (strip_with slot slot from size) ≡ content n
    pub later : (slot from size n : ℕ) (place : Place) → kind slot ≡ Some n → slice_get places n ≡ Some place →
        place.left + 1 < slot →
        piece (strip_with slot slot from size) ≡ []
    pub between : (slot from size : ℕ) →
        (IsDrawn size (piece (strip_with slot (slot + 1) from size)) ×
        ((n : ℕ) → kind slot ≡ Some n → kind (slot + 1) ≡ Some n → ⊥))
        ⊎ ((n : ℕ) × (kind slot ≡ Some n) × (kind (slot + 1) ≡ Some n) × (piece (strip_with slot (slot + 1) from size) ≡ []))

  -- what is written before a slot that no cell goes on into: all columns before the slot
  pub record IsFresh (slot : ℕ) (width : ℕ) : Type 0 where
    pub begins : width ≡ edge + position gap widths slot
    pub apart : (n : ℕ) → kind slot ≡ Some n → kind (slot + 1) ≡ Some n → ⊥

  -- what is written before a slot that a cell goes on into: all columns of the cell
  pub record GoesOn (slot : ℕ) (width : ℕ) : Type 0 where
    pub number : ℕ
    pub place : Place
    pub here : kind (slot + 1) ≡ Some number
    pub at : slice_get places number ≡ Some place
    pub begun : place.left < slot
    pub all : width + gap ≡ edge + position gap widths place.right

  -- what is written before the slot after this one, ahead of all that is left
  pub record Before (text : List ℕ) (slot : ℕ) : Type 0 where
    pub from : ℕ
    pub written : List ℕ
    pub left : text ≡ written ++ flat_map piece (strips_from (even gap) edge (slot + 1) from (drop slot widths))
    pub width : ℕ
    pub wide : TakesColumns written width
    pub state : IsFresh slot width ⊎ GoesOn slot width

  -- what is written up to the end of the slot, ahead of the gap or edge after it
  pub record After (text : List ℕ) (slot : ℕ) : Type 0 where
    pub from : ℕ
    pub written : List ℕ
    pub left : text ≡ written ++ (piece (strip_with (slot + 1) (slot + 1 + 1) from (following (even gap) edge (slot + 1) (drop (slot + 1) widths)))
        ++ flat_map piece (strips_from (even gap) edge (slot + 1 + 1) (from + gap) (drop (slot + 1) widths)))
    pub width : ℕ
    pub wide : TakesColumns written width
    pub past : ℕ
    pub all : width + gap ≡ edge + position gap widths past
    pub ends : ((kind (slot + 1) ≡ None) × (past ≡ slot + 1))
        ⊎ ((n : ℕ) × (place : Place) × (kind (slot + 1) ≡ Some n) × (slice_get places n ≡ Some place) × (past ≡ place.right))

  strips_at : (slot from : ℕ) → slot < length widths →
      flat_map piece (strips_from (even gap) edge (slot + 1) from (drop slot widths))
      ≡ piece (strip_with (slot + 1) (slot + 1) from (get_or widths slot 0))
      ++ (piece (strip_with (slot + 1) (slot + 1 + 1) (from + get_or widths slot 0) (following (even gap) edge (slot + 1) (drop (slot + 1) widths)))
      ++ flat_map piece (strips_from (even gap) edge (slot + 1 + 1) (from + get_or widths slot 0 + gap) (drop (slot + 1) widths)))
  strips_at slot from within = ap (λ sizes. flat_map piece (strips_from (even gap) edge (slot + 1) from sizes))
      (drop_more widths slot 0 within)

  module _ (is : IsSwept) where
    -- ---- through a slot

    -- one more piece is written
    slot_written : (text : List ℕ) (slot : ℕ) (before : Before text slot) → slot < length widths →
        text ≡ (before.written ++ piece (strip_with (slot + 1) (slot + 1) before.from (get_or widths slot 0)))
        ++ (piece (strip_with (slot + 1) (slot + 1 + 1) (before.from + get_or widths slot 0)
        (following (even gap) edge (slot + 1) (drop (slot + 1) widths)))
        ++ flat_map piece (strips_from (even gap) edge (slot + 1 + 1) (before.from + get_or widths slot 0 + gap)
        (drop (slot + 1) widths)))
    slot_written text slot before within =
        before.left ∙ ap (λ rest. before.written ++ rest) (strips_at slot before.from within)
        ∙ sym (append_assoc before.written (piece (strip_with (slot + 1) (slot + 1) before.from (get_or widths slot 0)))
        (piece (strip_with (slot + 1) (slot + 1 + 1) (before.from + get_or widths slot 0)
        (following (even gap) edge (slot + 1) (drop (slot + 1) widths)))
        ++ flat_map piece (strips_from (even gap) edge (slot + 1 + 1) (before.from + get_or widths slot 0 + gap)
        (drop (slot + 1) widths))))

    -- a cell that has not gone on into the slot begins there
    begins_here : (slot width n : ℕ) (place : Place) → IsFresh slot width → kind (slot + 1) ≡ Some n →
        slice_get places n ≡ Some place →
        place.left < slot + 1 → slot < place.right → place.left ≡ slot
    begins_here slot width n place fresh here at left right =
        elim (cases_lt place.left slot) [
          | inr past ↦ omega arith
          | inl before ↦ absurd (fresh.apart n (is.whole (slot + 1) slot n place here at before (omega arith)) here)
        ]

    through : (text : List ℕ) (slot : ℕ) (before : Before text slot) → slot < length widths → After text slot
    through text slot before within =
        elim before.state [
          | inl fresh ↦ elim (cases_option (kind (slot + 1))) [
            | inl none ↦ bare fresh none
            | inr some ↦ first fresh some.0 some.1
          ]
          | inr on ↦ later on
        ] where
          made : (width past : ℕ) →
              TakesColumns (before.written ++ piece (strip_with (slot + 1) (slot + 1) before.from (get_or widths slot 0))) width →
              width + gap ≡ edge + position gap widths past →
              (((kind (slot + 1) ≡ None) × (past ≡ slot + 1))
              ⊎ ((n : ℕ) × (place : Place) × (kind (slot + 1) ≡ Some n) × (slice_get places n ≡ Some place) ×
              (past ≡ place.right))) → After text slot
          made width past wide all ends = record {
            from = before.from + get_or widths slot 0;
            written = before.written ++ piece (strip_with (slot + 1) (slot + 1) before.from (get_or widths slot 0));
            left = slot_written text slot before within;
            width = width;
            wide = wide;
            past = past;
            all = all;
            ends = ends;
          }

          bare : IsFresh slot before.width → kind (slot + 1) ≡ None → After text slot
          bare fresh none =
              let size = get_or widths slot 0 in
              let text = piece (strip_with (slot + 1) (slot + 1) before.from size) in
              made (before.width + size) (slot + 1)
              (HasWidth-append before.written text before.width size (before.width + size) before.wide
              (drawn_width size text (is.bare (slot + 1) before.from size none)) refl)
              (omega (arith, fresh.begins, position-next gap widths slot within)) (inl (none, refl))

          first : IsFresh slot before.width → (n : ℕ) → kind (slot + 1) ≡ Some n → After text slot
          first fresh n some =
              let lies = is.placed (slot + 1) n some in
              let place = lies.0 in
              let size = get_or widths slot 0 in
              let text = piece (strip_with (slot + 1) (slot + 1) before.from size) in
              let columns = room gap widths place.left place.right in
              let same = begins_here slot before.width n place fresh some lies.1 lies.2 (omega (arith, lies.3)) in
              made (before.width + columns) place.right
              (HasWidth-append before.written text before.width columns (before.width + columns) before.wide
              (HasWidth-same (content n) text columns (is.wide n place lies.1)
              (sym (is.begun (slot + 1) before.from size n place some lies.1 (omega (arith, same))))) refl)
              (omega (
                arith,
                fresh.begins,
                ap (position gap widths) same,
                room-position gap widths place.left place.right (omega (arith, lies.2, lies.3)),
              ))
              (inr (n, place, some, lies.1, refl))

          later : GoesOn slot before.width → After text slot
          later on =
              let size = get_or widths slot 0 in
              let text = piece (strip_with (slot + 1) (slot + 1) before.from size) in
              made before.width on.place.right
              (HasWidth-same before.written (before.written ++ text) before.width before.wide
              (sym (ap (λ more. before.written ++ more) (is.later (slot + 1) before.from size on.number on.place on.here on.at
              (omega (arith, on.begun)))
              ∙ append-nil before.written)))
              on.all
              (inr (on.number, on.place, on.here, on.at, refl))

    -- ---- over a gap

    over : (text : List ℕ) (slot : ℕ) → After text slot → slot + 1 < length widths → Before text (slot + 1)
    over text slot after more = elim (is.between (slot + 1) after.from (following (even gap) edge (slot + 1) (drop (slot + 1) widths))) [
      | inl (one, apart) ↦ fresh one apart
      | inr (n, here, next, none) ↦ on n here next none
    ] where
      size : following (even gap) edge (slot + 1) (drop (slot + 1) widths) ≡ gap
      size = following-more (even gap) edge (slot + 1) widths (slot + 1) more

      made : (width : ℕ) → TakesColumns (after.written ++ piece (strip_with (slot + 1) (slot + 1 + 1) after.from
          (following (even gap) edge (slot + 1) (drop (slot + 1) widths)))) width → IsFresh (slot + 1) width ⊎ GoesOn (slot + 1) width →
          Before text (slot + 1)
      made width wide state = record {
        from = after.from + gap;
        written = after.written ++ piece (strip_with (slot + 1) (slot + 1 + 1) after.from
            (following (even gap) edge (slot + 1) (drop (slot + 1) widths)));
        left = after.left ∙ sym (append_assoc after.written (piece (strip_with (slot + 1) (slot + 1 + 1) after.from
            (following (even gap) edge (slot + 1) (drop (slot + 1) widths))))
            (flat_map piece (strips_from (even gap) edge (slot + 1 + 1) (after.from + gap) (drop (slot + 1) widths))));
        width = width;
        wide = wide;
        state = state;
      }

      -- the cell, if any, ends with the slot
      ended : ((n : ℕ) → kind (slot + 1) ≡ Some n → kind (slot + 1 + 1) ≡ Some n → ⊥) → after.past ≡ slot + 1
      ended apart = elim after.ends [
        | inl (none, past) ↦ past
        | inr (n, place, here, at, past) ↦ elim (cases_lt (slot + 1) place.right) [
          | inl before ↦ absurd (apart n here (is.whole (slot + 1) (slot + 1 + 1)
              n place here at (omega (arith, reaches n place here at)) (omega arith)))
          | inr beyond ↦ omega (arith, past, inside n place here at)
        ]
      ] where
        reaches : (n : ℕ) (place : Place) → kind (slot + 1) ≡ Some n → slice_get places n ≡ Some place → place.left < slot + 1
        reaches n place here at =
            let lies = is.placed (slot + 1) n here in
            let same = same_Some lies.0 place (sym lies.1 ∙ at) in
            subst (λ (place : Place). place.left < slot + 1) same lies.2

        inside : (n : ℕ) (place : Place) → kind (slot + 1) ≡ Some n → slice_get places n ≡ Some place → slot + 1 ≤ place.right
        inside n place here at =
            let lies = is.placed (slot + 1) n here in
            let same = same_Some lies.0 place (sym lies.1 ∙ at) in
            subst (λ (place : Place). slot + 1 ≤ place.right) same lies.3

      fresh : IsDrawn (following (even gap) edge (slot + 1) (drop (slot + 1) widths)) (piece (strip_with (slot + 1) (slot + 1 + 1) after.from
          (following (even gap) edge (slot + 1) (drop (slot + 1) widths)))) → ((n : ℕ) → kind (slot + 1) ≡ Some n → kind (slot + 1 + 1) ≡ Some n →
          ⊥) →
          Before text (slot + 1)
      fresh drawn apart =
          let wide = following (even gap) edge (slot + 1) (drop (slot + 1) widths) in
          let text = piece (strip_with (slot + 1) (slot + 1 + 1) after.from wide) in
          made (after.width + wide)
          (HasWidth-append after.written text after.width wide (after.width + wide) after.wide (drawn_width wide text drawn) refl)
          (inl (record { begins = omega (arith, after.all, ap (position gap widths) (ended apart), size); apart = apart }))

      on : (n : ℕ) → kind (slot + 1) ≡ Some n → kind (slot + 1 + 1) ≡ Some n →
          piece (strip_with (slot + 1) (slot + 1 + 1) after.from (following (even gap) edge (slot + 1) (drop (slot + 1) widths))) ≡ [] →
          Before text (slot + 1)
      on n here next none =
          let lies = is.placed (slot + 1) n here in
          made after.width
          (HasWidth-same after.written (after.written ++ piece (strip_with (slot + 1) (slot + 1 + 1) after.from
          (following (even gap) edge (slot + 1) (drop (slot + 1) widths)))) after.width after.wide
          (sym (ap (λ more. after.written ++ more) none ∙ append-nil after.written)))
          (inr (record {
            number = n;
            place = lies.0;
            here = next;
            at = lies.1;
            begun = lies.2;
            all = after.all ∙ ap (λ past. edge + position gap widths past) (same_past lies.0 lies.1);
          })) where
            same_past : (place : Place) → slice_get places n ≡ Some place → after.past ≡ place.right
            same_past place at = elim after.ends [
              | inl (bare, past) ↦ absurd (none-some n (sym bare ∙ here))
              | inr (m, other, there, stands, past) ↦
                  let same = same_Some n m (sym here ∙ there) in
                  let one = same_Some place other (sym at ∙ ap (slice_get places) same ∙ stands) in
                  past ∙ ap (λ (place : Place). place.right) (sym one)
            ]

    -- ---- the whole line

    start : (size : ℕ) (sizes : List ℕ) → widths ≡ size ∷ sizes → Before (flat_map piece (strips (even gap) edge widths)) 0
    start size sizes some = record {
      from = edge;
      written = piece (strip_with 0 1 0 edge);
      left = ap (λ list. flat_map piece (strips (even gap) edge list)) some
          ∙ ap (λ list. piece (strip_with 0 1 0 edge) ++ flat_map piece (strips_from (even gap) edge 1 edge list)) (sym some);
      width = edge;
      wide = drawn_width edge (piece (strip_with 0 1 0 edge)) drawn;
      state = inl (record { begins = omega arith; apart = λ n here next. nothing n here });
    } where
      nothing : (n : ℕ) → kind 0 ≡ Some n → ⊥
      nothing n here = let lies = is.placed 0 n here in omega (arith, lies.2)

      drawn : IsDrawn edge (piece (strip_with 0 1 0 edge))
      drawn = elim (is.between 0 0 edge) [
        | inl (one, apart) ↦ one
        | inr (n, here, next, none) ↦ absurd (nothing n here)
      ]

    pub before_slot : (slot : ℕ) → slot < length widths → Before (flat_map piece (strips (even gap) edge widths)) slot
    before_slot zero within = begun widths refl where
      begun : (sizes : List ℕ) → widths ≡ sizes → Before (flat_map piece (strips (even gap) edge widths)) 0
      begun [] none = absurd (omega (arith, ap length none, within))
      begun (size ∷ sizes) some = start size sizes some
    before_slot (suc slot) within =
        let next : slot + 1 ≡ suc slot = omega arith in
        subst (Before (flat_map piece (strips (even gap) edge widths))) next
        (over (flat_map piece (strips (even gap) edge widths)) slot
        (through (flat_map piece (strips (even gap) edge widths)) slot (before_slot slot (omega (arith, within)))
        (omega (arith, within)))
        (omega (arith, within)))

    -- the content of a cell stands after all columns before the cell
    pub stands : (n : ℕ) (place : Place) → slice_get places n ≡ Some place → kind (place.left + 1) ≡ Some n →
        (before after : List ℕ) × TakesColumns before (edge + position gap widths place.left)
        × (flat_map piece (strips (even gap) edge widths) ≡ before ++ (content n ++ after))
    stands n place at here =
        let lies = is.placed (place.left + 1) n here in
        let same = same_Some lies.0 place (sym lies.1 ∙ at) in
        let right = subst (λ (place' : Place). place.left + 1 ≤ place'.right) same lies.3 in
        let within = subst (λ (place' : Place). place'.right ≤ length widths) same lies.4 in
        found (omega (arith, right, within)) (before_slot place.left (omega (arith, right, within))) where
          found : place.left < length widths → Before (flat_map piece (strips (even gap) edge widths)) place.left →
              (before after : List ℕ) × TakesColumns before (edge + position gap widths place.left)
              × (flat_map piece (strips (even gap) edge widths) ≡ before ++ (content n ++ after))
          found within before = elim before.state [
            | inl fresh ↦
                let rest = piece (strip_with (place.left + 1) (place.left + 1 + 1) (before.from + get_or widths place.left 0)
                (following (even gap) edge (place.left + 1) (drop (place.left + 1) widths)))
                ++ flat_map piece (strips_from (even gap) edge (place.left + 1 + 1) (before.from + get_or widths place.left 0 + gap)
                (drop (place.left + 1) widths)) in (
                  before.written,
                  rest,
                  subst (TakesColumns before.written) fresh.begins before.wide,
                  before.left ∙ ap (λ text. before.written ++ text) (strips_at place.left before.from within)
                      ∙ ap (λ text. before.written ++ (text ++ rest))
                      (is.begun (place.left + 1) before.from (get_or widths place.left 0) n place here at refl),
                )
            | inr on ↦
                let same = same_Some on.number n (sym on.here ∙ here) in
                let one = same_Some on.place place (sym on.at ∙ ap (slice_get places) same ∙ at) in
                let left = ap (λ (place : Place). place.left) one in
                absurd (omega (arith, on.begun, left))
          ]

    -- the line is as wide as all columns, with the gaps and both edges
    last_line : (slot : ℕ) → slot + 1 ≡ length widths → After (flat_map piece (strips (even gap) edge widths)) slot →
        TakesColumns (flat_map piece (strips (even gap) edge widths)) (total gap (2 * edge) widths)
    last_line slot end after =
        let none : drop (slot + 1) widths ≡ [] = drop_all (slot + 1) widths (omega (arith, end)) in
        let beyond = λ (sizes : List ℕ). piece (strip_with (slot + 1) (slot + 1 + 1) after.from (following (even gap) edge (slot + 1) sizes))
        ++ flat_map piece (strips_from (even gap) edge (slot + 1 + 1) (after.from + gap) sizes) in
        let text = piece (strip_with (slot + 1) (slot + 1 + 1) after.from edge) in
        HasWidth-same (after.written ++ text) (flat_map piece (strips (even gap) edge widths)) (total gap (2 * edge) widths)
        (HasWidth-append after.written text after.width edge (total gap (2 * edge) widths) after.wide (drawn_width edge text drawn)
        (omega (arith, after.all, ap (position gap widths) (past ∙ end), total-position gap (2 * edge) widths (omega (arith, end)))))
        (sym (after.left ∙ ap (λ sizes. after.written ++ beyond sizes) none ∙ ap (λ more. after.written ++ more)
        (append-nil text))) where
          nothing : (n : ℕ) → kind (slot + 1 + 1) ≡ Some n → ⊥
          nothing n here = let lies = is.placed (slot + 1 + 1) n here in omega (arith, lies.3, lies.4, end)

          drawn : IsDrawn edge (piece (strip_with (slot + 1) (slot + 1 + 1) after.from edge))
          drawn = elim (is.between (slot + 1) after.from edge) [
            | inl (one, apart) ↦ one
            | inr (n, here, next, none) ↦ absurd (nothing n next)
          ]

          past : after.past ≡ slot + 1
          past = elim after.ends [
            | inl (bare, beyond) ↦ beyond
            | inr (n, place, here, at, beyond) ↦
                let lies = is.placed (slot + 1) n here in
                let same = ap (λ (place : Place). place.right) (same_Some lies.0 place (sym lies.1 ∙ at)) in
                omega (arith, beyond, same, lies.3, lies.4, end)
          ]

    pub whole_line : TakesColumns (flat_map piece (strips (even gap) edge widths)) (total gap (2 * edge) widths)
    whole_line = whole widths refl where
      whole : (sizes : List ℕ) → widths ≡ sizes → TakesColumns (flat_map piece (strips (even gap) edge widths)) (total gap (2 * edge) widths)
      whole [] none = subst (λ (sizes : List ℕ). TakesColumns (flat_map piece (strips (even gap) edge sizes)) (total gap (2 * edge) sizes))
          (sym none) HasWidth-none
      whole (size ∷ sizes) some =
          let text = flat_map piece (strips (even gap) edge widths) in
          let end : length sizes + 1 ≡ length widths = omega (arith, ap length some) in
          last_line (length sizes) end (through text (length sizes) (before_slot (length sizes) (omega (arith, end)))
          (omega (arith, end)))
