-- Which strip a line of a page lies in, and what holds of all lines of a page.
use Rattle.std.proofs.Common.{◌≡◌, ℕ, zero, suc, ◌+◌, ◌-◌, ◌<◌, ◌≤◌, inl, inr, List, [], ◌∷◌, ◌++◌, Some, length, map}
use Rattle.std.proofs.Common.{slice_get, refl}
use Rattle.std.proofs.Common.{◌∙◌, ap, arith}
use Rattle.std.specs.List.{AllByRecursion, flat_map, range_with_len}
use Rattle.std.proofs.lemmas.Bool.{cases_lt}
use Rattle.std.proofs.lemmas.List.FromFn.{length-map-range_with_len}
use Rattle.tl_base.proofs.Members.{AllByRecursion-append}
use Rattle.tl_base.specs.Sizes.{position}
use Rattle.tl_page.specs.declared.strip.Gaps.{Gaps}
use Rattle.tl_page.specs.declared.strip.Strip.{Strip}
use Rattle.tl_page.specs.Pictures.{Picture, picture_line, strip_lines}
use Rattle.tl_page.specs.Strips.{begin_in, following, gap_after, lines_after, strips_from, strips}
use Rattle.tl_page.proofs.StripLemmas.{lines_from, lines-first, lines-next, position-cons}

-- ---- items of joined lists

pub get-left : {X : Type 0} (xs ys : List X) (k : ℕ) → k < length xs → slice_get (xs ++ ys) k ≡ slice_get xs k
get-left [] ys k within = absurd (omega (arith, within))
get-left (x ∷ xs) ys zero within = refl
get-left (x ∷ xs) ys (suc k) within = get-left xs ys k (omega (arith, within))

pub get-right : {X : Type 0} (xs ys : List X) (k j : ℕ) → j ≡ length xs + k → slice_get (xs ++ ys) j ≡ slice_get ys k
get-right [] ys k j same = let here : j ≡ k = omega (arith, same) in ap (slice_get ys) here
get-right (x ∷ xs) ys k zero same = absurd (omega (arith, same))
get-right (x ∷ xs) ys k (suc j) same = get-right xs ys k j (omega (arith, same))

get-range : {X : Type 0} (f : ℕ → X) (from size i : ℕ) → i < size →
    slice_get (map f (range_with_len from size)) i ≡ Some (f (from + i))
get-range f from zero i within = absurd (omega (arith, within))
get-range f from (suc size) zero within = let same : from ≡ from + 0 = omega arith in ap (λ (n : ℕ). Some (f n)) same
get-range f from (suc size) (suc i) within =
    let same : from + 1 + i ≡ from + suc i = omega arith in
    get-range f (from + 1) size i (omega (arith, within)) ∙ ap (λ (n : ℕ). Some (f n)) same

-- ---- the strip of a line

module _ (picture : Picture) (gaps : Gaps) (edge : ℕ) where
  -- a line within the slots from `top` on and before `past`, where the first slot is `slot`
  pub record LiesIn (slot from top past i : ℕ) (sizes : List ℕ) : Type 0 where
    pub down : Strip
    pub begins : slot + top ≤ down.before
    pub ordered : down.before ≤ down.after
    pub ends : down.after < slot + past
    pub here : slice_get (flat_map (strip_lines picture) (strips_from gaps edge slot from sizes)) i ≡ Some
        (picture_line picture down (from + i))

  high : (strip : Strip) → length (strip_lines picture strip) ≡ strip.size
  high strip = length-map-range_with_len (picture_line picture strip) strip.from strip.size

  beyond : (slot from top past i : ℕ) (size : ℕ) (sizes : List ℕ) (top' past' : ℕ) → top ≤ suc top' → past ≡ suc past' →
      size + gap_after gaps slot ≤ i → following gaps edge slot sizes ≡ gap_after gaps slot →
      LiesIn (slot + 1) (from + size + gap_after gaps slot) top' past' (i - size - gap_after gaps slot) sizes →
      LiesIn slot from top past i (size ∷ sizes)
  beyond slot from top past i size sizes top' past' begin end far gapped rest =
      let gap = gap_after gaps slot in
      let inner : Strip = record { before = slot; after = slot; from = from; size = size } in
      let outer : Strip = record { before = slot; after = slot + 1; from = from + size; size = following gaps edge slot sizes } in
      let others = flat_map (strip_lines picture) (strips_from gaps edge (slot + 1) (from + size + gap) sizes) in
      let line : from + size + gap + (i - size - gap) ≡ from + i = omega (arith, far) in
      record {
        down = rest.down;
        begins = omega (arith, rest.begins, begin);
        ordered = rest.ordered;
        ends = omega (arith, rest.ends, end);
        here = get-right (strip_lines picture inner) (strip_lines picture outer ++ others) (i - size) i
            (omega (arith, high inner, far))
            ∙ get-right (strip_lines picture outer) others (i - size - gap) (i - size) (omega (arith, high outer, gapped, far))
            ∙ rest.here ∙ ap (λ (y : ℕ). Some (picture_line picture rest.down y)) line;
      }

  in_slot : (slot from past i size : ℕ) (sizes : List ℕ) → i < size → LiesIn slot from zero (suc past) i (size ∷ sizes)
  in_slot slot from past i size sizes within =
      let inner : Strip = record { before = slot; after = slot; from = from; size = size } in
      let outer : Strip = record { before = slot; after = slot + 1; from = from + size; size = following gaps edge slot sizes } in
      record {
        down = inner;
        begins = omega arith;
        ordered = omega arith;
        ends = omega arith;
        here = get-left (strip_lines picture inner) (flat_map (strip_lines picture)
            (outer ∷ strips_from gaps edge (slot + 1) (from + size + gap_after gaps slot) sizes)) i
            (omega (arith, high inner, within))
            ∙ get-range (picture_line picture inner) from size i within;
      }

  in_gap : (slot from past i size next : ℕ) (sizes : List ℕ) → size ≤ i → i < size + gap_after gaps slot →
      LiesIn slot from zero (suc (suc past)) i (size ∷ next ∷ sizes)
  in_gap slot from past i size next sizes beyond_it between =
      let gap = gap_after gaps slot in
      let inner : Strip = record { before = slot; after = slot; from = from; size = size } in
      let outer : Strip = record { before = slot; after = slot + 1; from = from + size; size = gap } in
      let others = flat_map (strip_lines picture) (strips_from gaps edge (slot + 1) (from + size + gap) (next ∷ sizes)) in
      let line : from + size + (i - size) ≡ from + i = omega (arith, beyond_it) in
      record {
        down = outer;
        begins = omega arith;
        ordered = omega arith;
        ends = omega arith;
        here = get-right (strip_lines picture inner) (strip_lines picture outer ++ others) (i - size) i
            (omega (arith, high inner, beyond_it))
            ∙ get-left (strip_lines picture outer) others (i - size) (omega (arith, high outer, between, beyond_it))
            ∙ get-range (picture_line picture outer) (from + size) gap (i - size) (omega (arith, between, beyond_it))
            ∙ ap (λ (y : ℕ). Some (picture_line picture outer y)) line;
      }

  lies_in : (slot from top last i : ℕ) (sizes : List ℕ) → top ≤ last → last < length sizes →
      position gaps.between sizes top + lines_from gaps.lined slot top ≤ i →
      i + gaps.between < position gaps.between sizes (suc last) + lines_from gaps.lined slot last →
      LiesIn slot from top (suc last) i sizes
  lies_in slot from top last i [] ahead within first end = absurd (omega (arith, within))
  lies_in slot from (suc top) zero i (size ∷ sizes) ahead within first end = absurd (omega (arith, ahead))
  lies_in slot from (suc top) (suc last) i (size ∷ []) ahead within first end = absurd (omega (arith, within))
  lies_in slot from (suc top) (suc last) i (size ∷ next ∷ sizes) ahead within first end =
      let gap = gap_after gaps slot in
      let start = position-cons gaps.between size (next ∷ sizes) top in
      let past = position-cons gaps.between size (next ∷ sizes) (suc last) in
      let begun = lines-next gaps slot top in
      let ended = lines-next gaps slot last in
      beyond slot from (suc top) (suc (suc last)) i size (next ∷ sizes) top (suc last) (omega arith) refl
      (omega (arith, first, start, begun)) refl
      (lies_in (slot + 1) (from + size + gap) top last (i - size - gap) (next ∷ sizes) (omega (arith, ahead))
      (omega (arith, within)) (omega (arith, first, start, begun)) (omega (arith, end, past, first, start, begun, ended)))
  lies_in slot from zero zero i (size ∷ sizes) ahead within first end =
      in_slot slot from zero i size sizes (omega (arith, end, position-cons gaps.between size sizes zero))
  lies_in slot from zero (suc last) i (size ∷ []) ahead within first end = absurd (omega (arith, within))
  lies_in slot from zero (suc last) i (size ∷ next ∷ sizes) ahead within first end = elim (cases_lt i size) [
    | inl before ↦ in_slot slot from (suc last) i size (next ∷ sizes) before
    | inr beyond_it ↦ elim (cases_lt i (size + gap_after gaps slot)) [
      | inl between ↦ in_gap slot from last i size next sizes beyond_it between
      | inr far ↦
          let gap = gap_after gaps slot in
          let past = position-cons gaps.between size (next ∷ sizes) (suc last) in
          beyond slot from zero (suc (suc last)) i size (next ∷ sizes) zero (suc last) (omega arith) refl far refl
          (lies_in (slot + 1) (from + size + gap) zero last (i - size - gap) (next ∷ sizes) (omega arith)
          (omega (arith, within)) (omega arith) (omega (arith, end, past, far, lines-next gaps slot last)))
    ]
  ]

  -- a line of the page within the rows from `top` on and before `past`, with the gaps and lines between them
  pub page_line : (heights : List ℕ) (top past i : ℕ) → top < past → past ≤ length heights →
      begin_in gaps heights top ≤ i → i + gaps.between < position gaps.between heights past + lines_after gaps.lined (past - 1) →
      (down : Strip) × (top < down.before) × (down.before ≤ past) × (top < down.after) × (down.after ≤ past)
      × (slice_get (flat_map (strip_lines picture) (strips gaps edge heights)) (edge + i)
      ≡ Some (picture_line picture down (edge + i)))
  page_line [] top past i ahead within first last = absurd (omega (arith, ahead, within))
  page_line (size ∷ sizes) top past i ahead within first last =
      let begun = lines-first gaps.lined top in
      let ended = lines-first gaps.lined (past - 1) in
      let one : suc (past - 1) ≡ past = omega (arith, ahead) in
      let end = ap (position gaps.between (size ∷ sizes)) one in
      let rest = lies_in 1 edge top (past - 1) i (size ∷ sizes) (omega (arith, ahead)) (omega (arith, ahead, within))
      (omega (arith, first, begun)) (omega (arith, last, ended, end)) in
      let border : Strip = record { before = 0; after = 1; from = 0; size = edge } in (
        rest.down,
        omega (arith, rest.begins),
        omega (arith, rest.ordered, rest.ends, ahead),
        omega (arith, rest.begins, rest.ordered),
        omega (arith, rest.ends, ahead),
        get-right (strip_lines picture border) (flat_map (strip_lines picture) (strips_from gaps edge 1 edge (size ∷ sizes))) i
            (edge + i)
            (omega (arith, high border)) ∙ rest.here,
      )

-- ---- what holds of each line

mapped_all : {X Y : Type 0} (P : Y → Type 0) (f : X → Y) (xs : List X) → ((x : X) → P (f x)) → AllByRecursion P (map f xs)
mapped_all P f [] each = tt
mapped_all P f (x ∷ xs) each = (each x, mapped_all P f xs each)

pub all_lines : (P : List ℕ → Type 0) (picture : Picture) (downs : List Strip) →
    ((down : Strip) (y : ℕ) → P (picture_line picture down y)) →
    AllByRecursion P (flat_map (strip_lines picture) downs)
all_lines P picture [] each = tt
all_lines P picture (down ∷ downs) each =
    AllByRecursion-append P (strip_lines picture down) (flat_map (strip_lines picture) downs)
    (mapped_all P (picture_line picture down) (range_with_len down.from down.size) (each down)) (all_lines P picture downs each)
