-- Where two strips meet: what stands there is the content of a cell that goes through, or is drawn.
use Rattle.std.proofs.Common.{◌≡◌, ◌⊎◌, inl, inr, ℕ, zero, suc, ◌+◌, ◌-◌, ◌<◌, ◌≤◌, Bool, true, false, not, ◌&&◌, ◌==◌, List, []}
use Rattle.std.proofs.Common.{◌∷◌, Option, Some}
use Rattle.std.proofs.Common.{None, get_or, slice_get, refl, sym, ◌∙◌, ap, subst, arith, tests, if◌then◌else◌}
use Rattle.std.specs.List.{All, AllPairs}
use Rattle.std.proofs.lemmas.Bool.{cases_Bool, eq-eqb, eqb-true, and_parts, false≢true}
use Rattle.std.proofs.lemmas.Option.{none-some, same_Some, slice_get_within, get_or_from_slice_get}
use Rattle.tl_base.specs.declared.style.Style.{Style}
use Rattle.tl_grid.specs.declared.shape.Place.{Place}
use Rattle.tl_grid.specs.Dropping.{IsPlaced}
use Rattle.tl_grid.specs.Slots.{AreApart}
use Rattle.tl_page.specs.declared.corner.Corner.{Corner}
use Rattle.tl_page.specs.declared.line.Drawn.{Drawn}
use Rattle.tl_page.specs.declared.owner.Owner.{Owner}
use Rattle.tl_page.specs.declared.owner.Owner.TheVariants.{Outside, Bare, Cell}
use Rattle.tl_page.specs.declared.strip.Strip.{Strip}
use Rattle.tl_page.specs.Corners.{Grid, covers_slot, number_over, owned, owner_of, is_inside, is_same, is_one, corner_sign}
use Rattle.tl_page.specs.Pictures.{filled, inside, inside_cell, spaces}
use Rattle.tl_page.specs.Signs.{run}
use Rattle.tl_page.proofs.SignLemmas.{run-spaces, sign_is}
use Rattle.tl_page.proofs.Sweeping.{IsDrawn, strip_with}

-- the cell that both owners are, if they are one
abbrev pub through : Owner → Owner → Option ℕ
through (Cell n) (Cell m) = if n == m then Some n else None
through _ _ = None

-- ---- one owner

same_self : (owner : Owner) → is_same owner owner ≡ true
same_self Outside = refl
same_self (Bare column row) = grind (arith, tests)
same_self (Cell n) = eq-eqb n n refl

-- both are the cell
pub through_both : (one other : Owner) (n : ℕ) → through one other ≡ Some n → (one ≡ Cell n) × (other ≡ Cell n)
through_both (Cell k) (Cell m) n is = elim (cases_Bool (k == m)) [
  | inl same ↦
      let number : k ≡ n = same_Some k n (sym (ap (λ t. if t then Some k else None) same) ∙ is) in
      (ap Cell number, ap Cell (sym (eqb-true k m same) ∙ number))
  | inr differs ↦ absurd (none-some n (sym (ap (λ t. if t then Some k else None) differs) ∙ is))
]
through_both (Cell k) Outside n is = absurd (none-some n is)
through_both (Cell k) (Bare column row) n is = absurd (none-some n is)
through_both Outside other n is = absurd (none-some n is)
through_both (Bare column row) other n is = absurd (none-some n is)

pub through_same : (n : ℕ) → through (Cell n) (Cell n) ≡ Some n
through_same n = ap (λ t. if t then Some n else None) (eq-eqb n n refl)

-- an owner that is the same as a cell is the cell
same_cell : (n : ℕ) (other : Owner) → is_same (Cell n) other ≡ true → other ≡ Cell n
same_cell n Outside same = absurd (false≢true same)
same_cell n (Bare column row) same = absurd (false≢true same)
same_cell n (Cell m) same = ap Cell (sym (eqb-true n m same))

-- ---- what is drawn

-- what stands where the four owners meet
abbrev pub met : Style → Bool → List Drawn → Corner → Strip → ℕ → List ℕ
met style under cells corner across y = if is_one corner then inside cells corner.up_left across y else run across.size
    (corner_sign style under corner)

drawn_corner : (style : Style) (under : Bool) (cells : List Drawn) (corner : Corner) (across : Strip) (y : ℕ) → is_one corner ≡ false →
    IsDrawn across.size (met style under cells corner across y)
drawn_corner style under cells corner across y not_one = (
  corner_sign style under corner,
  sign_is style under (not (is_same corner.up_left corner.up_right)) (not (is_same corner.down_left corner.down_right))
      (not (is_same corner.up_left corner.down_left)) (not (is_same corner.up_right corner.down_right)),
  ap (λ t. if t then inside cells corner.up_left across y else run across.size (corner_sign style under corner)) not_one,
)

drawn_blank : (style : Style) (under : Bool) (cells : List Drawn) (corner : Corner) (across : Strip) (y : ℕ) → is_one corner ≡ true →
    inside cells corner.up_left across y ≡ spaces across.size → IsDrawn across.size (met style under cells corner across y)
drawn_blank style under cells corner across y one blank = (
  0x20,
  (0, omega arith, refl),
  ap (λ t. if t then inside cells corner.up_left across y else run across.size (corner_sign style under corner)) one ∙ blank
      ∙ sym (run-spaces across.size),
)

-- ---- inside a column

abbrev two : Owner → Owner → Corner
two above below = record { up_left = above; up_right = above; down_left = below; down_right = below }

pub bare_slot : (style : Style) (under : Bool) (cells : List Drawn) (above below : Owner) (across : Strip) (y : ℕ) → through above below ≡ None →
    IsDrawn across.size (met style under cells (two above below) across y)
bare_slot style under cells above below across y none = elim (cases_Bool (is_one (two above below))) [
  | inr differs ↦ drawn_corner style under cells (two above below) across y differs
  | inl one ↦ blank above one none
] where
  blank : (owner : Owner) → is_one (two owner below) ≡ true → through owner below ≡ None →
      IsDrawn across.size (met style under cells (two owner below) across y)
  blank Outside one none = drawn_blank style under cells (two Outside below) across y one refl
  blank (Bare column row) one none = drawn_blank style under cells (two (Bare column row) below) across y one refl
  blank (Cell n) one none =
      let below_too = same_cell n below (and_parts (is_same (Cell n) (Cell n) && is_same (Cell n) below)
      (is_same (Cell n) below) one).1 in
      absurd (none-some n (sym none ∙ ap (through (Cell n)) below_too ∙ through_same n))

pub cell_slot : (style : Style) (under : Bool) (cells : List Drawn) (above below : Owner) (across : Strip) (y n : ℕ) →
    through above below ≡ Some n →
    met style under cells (two above below) across y ≡ inside_cell (slice_get cells n) across y
cell_slot style under cells above below across y n some =
    let both = through_both above below n some in
    ap (λ owner. met style under cells (two owner below) across y) both.0
    ∙ ap (λ owner. met style under cells (two (Cell n) owner) across y) both.1
    ∙ ap (λ t. if t then inside cells (Cell n) across y else run across.size (corner_sign style under (two (Cell n) (Cell n))))
    one where
      one : is_one (two (Cell n) (Cell n)) ≡ true
      one = ap (λ t. (t && t) && t) (eq-eqb n n refl)

-- ---- between two columns

abbrev four : Owner → Owner → Owner → Owner → Corner
four up_left up_right down_left down_right = record {
  up_left = up_left;
  up_right = up_right;
  down_left =
      down_left;
  down_right = down_right;
}

none_between : (cell : Option Drawn) (slot from size y : ℕ) → inside_cell cell (strip_with slot (slot + 1) from size) y ≡ []
none_between None slot from size y = refl
none_between (Some cell) slot from size y =
    never (filled cell.columns (slice_get cell.lines (y - cell.first))) (slot == cell.left + 1) (slot + 1 == cell.left + 1)
    (λ one other. omega (arith, eqb-true slot (cell.left + 1) one, eqb-true (slot + 1) (cell.left + 1) other)) where
      never : (text : List ℕ) (one other : Bool) → (one ≡ true → other ≡ true → ⊥) → (if one && other then text else []) ≡ []
      never text true true both = absurd (both refl refl)
      never text true false both = refl
      never text false other both = refl

-- where all four have one owner, a cell goes on, and else the gap is blank
one_between : (style : Style) (under : Bool) (cells : List Drawn) (owner : Owner) (up_right down_left down_right : Owner)
    (slot from size y : ℕ) →
    is_one (four owner up_right down_left down_right) ≡ true →
    (IsDrawn size (met style under cells (four owner up_right down_left down_right) (strip_with slot (slot + 1) from size) y)
    × ((n : ℕ) → through owner down_left ≡ Some n → through up_right down_right ≡ Some n → ⊥))
    ⊎ ((n : ℕ) × (through owner down_left ≡ Some n) × (through up_right down_right ≡ Some n)
    × (met style under cells (four owner up_right down_left down_right) (strip_with slot (slot + 1) from size) y ≡ []))
one_between style under cells Outside up_right down_left down_right slot from size y one = inl (
  drawn_blank style under cells (four Outside up_right down_left down_right) (strip_with slot (slot + 1) from size) y one refl,
  λ n left right. none-some n left,
)
one_between style under cells (Bare column row) up_right down_left down_right slot from size y one = inl (
  drawn_blank style under cells (four (Bare column row) up_right down_left down_right) (strip_with slot (slot + 1) from size)
      y one refl,
  λ n left right. none-some n left,
)
one_between style under cells (Cell n) up_right down_left down_right slot from size y one =
    let first = and_parts (is_same (Cell n) up_right && is_same (Cell n) down_left) (is_same (Cell n) down_right) one in
    let second = and_parts (is_same (Cell n) up_right) (is_same (Cell n) down_left) first.0 in
    let right = same_cell n up_right second.0 in
    let left = same_cell n down_left second.1 in
    let down = same_cell n down_right first.1 in
    inr (
      n,
      ap (through (Cell n)) left ∙ through_same n,
      ap (λ owner. through owner down_right) right ∙ ap (through (Cell n)) down ∙ through_same n,
      ap (λ t. if t then inside cells (Cell n) (strip_with slot (slot + 1) from size) y
          else run size (corner_sign style under (four (Cell n) up_right down_left down_right))) one
          ∙ none_between (slice_get cells n) slot from size y,
    )

pub gap_between : (style : Style) (under : Bool) (cells : List Drawn) (up_left up_right down_left down_right : Owner) (slot from size y : ℕ) →
    (IsDrawn size (met style under cells (four up_left up_right down_left down_right) (strip_with slot (slot + 1) from size) y)
    × ((n : ℕ) → through up_left down_left ≡ Some n → through up_right down_right ≡ Some n → ⊥))
    ⊎ ((n : ℕ) × (through up_left down_left ≡ Some n) × (through up_right down_right ≡ Some n)
    × (met style under cells (four up_left up_right down_left down_right) (strip_with slot (slot + 1) from size) y ≡ []))
gap_between style under cells up_left up_right down_left down_right slot from size y =
    elim (cases_Bool (is_one (four up_left up_right down_left down_right))) [
      | inl one ↦ one_between style under cells up_left up_right down_left down_right slot from size y one
      | inr differs ↦ inl (
        drawn_corner style under cells (four up_left up_right down_left down_right) (strip_with slot (slot + 1) from size) y differs,
        λ n left right. not_all n left right differs,
      )
    ] where
      not_all : (n : ℕ) → through up_left down_left ≡ Some n → through up_right down_right ≡ Some n →
          is_one (four up_left up_right down_left down_right) ≡ false → ⊥
      not_all n left right differs =
          let one = through_both up_left down_left n left in
          let other = through_both up_right down_right n right in
          let all : is_one (four up_left up_right down_left down_right) ≡ true =
          rw (one.0, one.1, other.0, other.1) (ap (λ t. (t && t) && t) (eq-eqb n n refl)) in
          false≢true (sym differs ∙ all)

-- ---- the cell over a slot

-- the first place that has the slot
number_found : (number : ℕ) (list : List Place) (column row n : ℕ) → number_over number list column row ≡ Some n →
    (k : ℕ) × (place : Place) × (n ≡ number + k) × (slice_get list k ≡ Some place) × (covers_slot column row place ≡ true)
number_found number [] column row n found = absurd (none-some n found)
number_found number (place ∷ list) column row n found = elim (cases_Bool (covers_slot column row place)) [
  | inl here ↦
      let same = same_Some number n (sym (ap (λ t. if t then Some number else number_over (number + 1) list column row)
      here) ∙ found) in
      (0, place, omega (arith, same), refl, here)
  | inr other ↦
      let rest = number_found (number + 1) list column row n
      (sym (ap (λ t. if t then Some number else number_over (number + 1) list column row) other) ∙ found) in
      (suc rest.0, rest.1, omega (arith, rest.2), rest.3, rest.4)
]

-- of places that share no slot, the one that has it
number_is : (number : ℕ) (list : List Place) (column row k : ℕ) (place : Place) → slice_get list k ≡ Some place →
    covers_slot column row place ≡ true →
    ((j : ℕ) (other : Place) → j < k → slice_get list j ≡ Some other → covers_slot column row other ≡ true → ⊥) →
    number_over number list column row ≡ Some (number + k)
number_is number [] column row k place at covers apart = absurd (none-some place at)
number_is number (first ∷ list) column row zero place at covers apart =
    let same = same_Some first place at in
    ap (λ t. if t then Some number else number_over (number + 1) list column row) (ap (covers_slot column row) same ∙ covers)
    ∙ ap Some (omega arith)
number_is number (first ∷ list) column row (suc k) place at covers apart = elim (cases_Bool (covers_slot column row first)) [
  | inl here ↦ absurd (apart 0 first (omega arith) refl here)
  | inr other ↦
      ap (λ t. if t then Some number else number_over (number + 1) list column row) other
      ∙ number_is (number + 1) list column row k place at covers
      (λ j some before stands covered. apart (suc j) some (omega (arith, before)) stands covered)
      ∙ ap Some (omega arith)
]

-- ---- the owners of slots

covered_parts : (place : Place) (column row : ℕ) → covers_slot column row place ≡ true →
    (place.left < column) × (column ≤ place.right) × (place.top < row) × (row ≤ place.bottom)
covered_parts place column row covers = (grind (arith, tests), grind (arith, tests), grind (arith, tests), grind (arith, tests))

covers_from : (place : Place) (column row : ℕ) → place.left < column → column ≤ place.right → place.top < row →
    row ≤ place.bottom →
    covers_slot column row place ≡ true
covers_from place column row left right top bottom = grind (arith, tests)

inside_from : (count slot : ℕ) → 0 < slot → slot ≤ count → is_inside count slot ≡ true
inside_from count slot some within = grind (arith, tests)

-- the number of an owner that is a cell
abbrev cell_number : Owner → Option ℕ
cell_number Outside = None
cell_number (Bare column row) = None
cell_number (Cell n) = Some n

owned_number : (column row : ℕ) (number : Option ℕ) → cell_number (owned column row number) ≡ number
owned_number column row None = refl
owned_number column row (Some n) = refl

module _ (grid : Grid) where
  -- the cell that has a slot lies over it
  pub lies_over : (column row n : ℕ) → owner_of grid column row ≡ Cell n →
      (place : Place) × (slice_get grid.places n ≡ Some place) × (place.left < column) × (column ≤ place.right) ×
      (place.top < row) × (row ≤ place.bottom)
  lies_over column row n is = elim (cases_Bool (is_inside grid.cols column && is_inside grid.rows row)) [
    | inr outside ↦ absurd (none-some n (ap cell_number (sym (picked outside) ∙ is)))
    | inl here ↦
        let number = sym (owned_number column row (number_over 0 grid.places column row)) ∙ ap cell_number
        (sym (picked here) ∙ is) in
        let found = number_found 0 grid.places column row n number in
        let parts = covered_parts found.1 column row found.4 in
        let same : n ≡ found.0 = omega (arith, found.2) in
        (found.1, ap (slice_get grid.places) same ∙ found.3, parts.0, parts.1, parts.2, parts.3)
  ] where
    picked : {t : Bool} → is_inside grid.cols column && is_inside grid.rows row ≡ t →
        owner_of grid column row ≡ (if t then owned column row (number_over 0 grid.places column row) else Outside)
    picked same = ap (λ t. if t then owned column row (number_over 0 grid.places column row) else Outside) same

  -- a cell has each slot of its place
  pub has_slots : (column row n : ℕ) (place : Place) → All (IsPlaced grid.cols grid.rows) grid.places →
      AllPairs AreApart grid.places →
      slice_get grid.places n ≡ Some place → place.left < column → column ≤ place.right → place.top < row → row ≤ place.bottom →
      owner_of grid column row ≡ Cell n
  has_slots column row n place placed apart at left right top bottom =
      let within = slice_get_within grid.places n place at in
      let same = get_or_from_slice_get grid.places n place place at in
      let lies : IsPlaced grid.cols grid.rows place = subst (IsPlaced grid.cols grid.rows) same (placed n place within) in
      let across = inside_from grid.cols column (omega (arith, left)) (omega (arith, right, lies.1)) in
      let down = inside_from grid.rows row (omega (arith, top)) (omega (arith, bottom, lies.3)) in
      let number = number_is 0 grid.places column row n place at (covers_from place column row left right top bottom) alone in
      rw (across, down) (ap (owned column row) (number ∙ ap Some (omega arith))) where
        alone : (j : ℕ) (other : Place) → j < n → slice_get grid.places j ≡ Some other → covers_slot column row other ≡ true → ⊥
        alone j other before stands covers =
            let parts = covered_parts other column row covers in
            let within = slice_get_within grid.places n place at in
            let first = get_or_from_slice_get grid.places j other place stands in
            let second = get_or_from_slice_get grid.places n place place at in
            let pair : AreApart other place = subst (λ (one : Place). AreApart one place) first
            (subst (λ (one : Place). AreApart (get_or grid.places j place) one) second (apart j n place before within)) in
            pair (column - 1) (row - 1)
            (omega (arith, parts.0), omega (arith, parts.0, parts.1), omega (arith, parts.2), omega (arith, parts.2, parts.3))
            (omega (arith, left), omega (arith, left, right), omega (arith, top), omega (arith, top, bottom))
