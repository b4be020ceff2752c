-- The slots of a grid, row by row in one list, and the cells over them.
use Rattle.std.proofs.Common.{◌≡◌, ℕ, ◌+◌, ◌*◌, ◌<◌, ◌≤◌, ◌⊎◌, inl, inr, true, false, ◌&&◌, Option, Some, replicate, get_or, refl}
use Rattle.std.proofs.Common.{◌∙◌, ap, arith}
use Rattle.std.proofs.Common.{tests, if◌then◌else◌}
use Rattle.std.proofs.Math.Nat.{mul-le-mul}
use Rattle.std.proofs.lemmas.Bool.{cases_Bool, cases_lt}
use Rattle.std.proofs.lemmas.List.{get_or-replicate, get_or_past, length-replicate}
use Rattle.tl_grid.specs.declared.shape.Place.{Place}
use Rattle.tl_page.specs.declared.owner.Owner.TheVariants.{Outside}
use Rattle.tl_page.specs.Corners.{covers_slot, is_inside, owned}

-- ---- rows in one list

-- a row stands before a later one
pub row_before : (cols row later column : ℕ) → column < cols → row < later → row * cols + column < later * cols
row_before cols row later column within before =
    let next : row + 1 ≤ later = omega arith in
    let all : cols ≤ cols = omega arith in
    let rows : (row + 1) * cols ≤ later * cols = mul-le-mul next all in
    let one : (row + 1) * cols ≡ row * cols + cols = grind arith in
    omega (arith, rows, one)

pub row_after : (cols row earlier : ℕ) → earlier < row → earlier * cols + cols ≤ row * cols
row_after cols row earlier before =
    let next : earlier + 1 ≤ row = omega arith in
    let all : cols ≤ cols = omega arith in
    let rows : (earlier + 1) * cols ≤ row * cols = mul-le-mul next all in
    let one : (earlier + 1) * cols ≡ earlier * cols + cols = grind arith in
    omega (arith, rows, one)

-- ---- one more cell

pub covers-true : (place : Place) (column row : ℕ) → place.left ≤ column → column < place.right → place.top ≤ row →
    row < place.bottom →
    covers_slot (column + 1) (row + 1) place ≡ true
covers-true place column row left right top bottom = grind (arith, tests)

pub covers-false : (place : Place) (column row : ℕ) →
    ((column < place.left) ⊎ (place.right ≤ column)) ⊎ ((row < place.top) ⊎ (place.bottom ≤ row)) →
    covers_slot (column + 1) (row + 1) place ≡ false
covers-false place column row (inl (inl before)) = grind (arith, tests)
covers-false place column row (inl (inr after)) = grind (arith, tests)
covers-false place column row (inr (inl before)) = grind (arith, tests)
covers-false place column row (inr (inr after)) = grind (arith, tests)

-- a slot has the number of the cell over it, and else what it had
pub one_more : (place : Place) (column row number : ℕ) (new old rest : Option ℕ) →
    (place.left ≤ column → column < place.right → place.top ≤ row → row < place.bottom → new ≡ Some number) →
    (((column < place.left) ⊎ (place.right ≤ column)) ⊎ ((row < place.top) ⊎ (place.bottom ≤ row)) → new ≡ old) → old ≡ rest →
    new ≡ (if covers_slot (column + 1) (row + 1) place then Some number else rest)
one_more place column row number new old rest covered other same =
    elim (cases_lt column place.left) [
      | inl before ↦ outside (inl (inl before))
      | inr left ↦ elim (cases_lt column place.right) [
        | inr after ↦ outside (inl (inr after))
        | inl right ↦ elim (cases_lt row place.top) [
          | inl before ↦ outside (inr (inl before))
          | inr top ↦ elim (cases_lt row place.bottom) [
            | inr after ↦ outside (inr (inr after))
            | inl bottom ↦ rw (covers-true place column row left right top bottom) (covered left right top bottom)
          ]
        ]
      ]
    ] where
      outside : ((column < place.left) ⊎ (place.right ≤ column)) ⊎ ((row < place.top) ⊎ (place.bottom ≤ row)) →
          new ≡ (if covers_slot (column + 1) (row + 1) place then Some number else rest)
      outside apart = rw (covers-false place column row apart) (other apart ∙ same)

-- ---- owners

-- an empty list of numbers has none
pub no_number : (n k : ℕ) (none : Option ℕ) → get_or (replicate n none) k none ≡ none
no_number n k none =
    elim (cases_lt k n) [
      | inl within ↦ get_or-replicate n k none none within
      | inr past ↦ get_or_past (replicate n none) k none (omega (arith, length-replicate n none))
    ]

is_inside-true : (count slot : ℕ) → is_inside count slot ≡ true → (0 < slot) × (slot ≤ count)
is_inside-true count slot inside = (grind (arith, tests), grind (arith, tests))

-- the owners are the same where the numbers of all slots inside are
pub same_owner : (cols rows column row : ℕ) (one other : Option ℕ) →
    (0 < column → column ≤ cols → 0 < row → row ≤ rows → one ≡ other) →
    (if is_inside cols column && is_inside rows row then owned column row one else Outside)
    ≡ (if is_inside cols column && is_inside rows row then owned column row other else Outside)
same_owner cols rows column row one other same =
    elim (cases_Bool (is_inside cols column)) [
      | inr outside ↦ rw outside refl
      | inl inside ↦ elim (cases_Bool (is_inside rows row)) [
        | inr below ↦ rw (inside, below) refl
        | inl above ↦
            let across = is_inside-true cols column inside in
            let down = is_inside-true rows row above in
            rw (inside, above) (ap (owned column row) (same across.0 across.1 down.0 down.1))
      ]
    ]
