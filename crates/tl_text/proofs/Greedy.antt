-- Lines filled from the left: what they are, and that no other cutting has fewer.
use Rattle.std.proofs.Common.{◌≡◌, ◌≢◌, ℕ, ◌+◌, ◌≤◌, ◌<◌, if◌then◌else◌, nat_le, List, [], ◌∷◌, ◌++◌, length, sum_by, refl, ap}
use Rattle.std.proofs.Common.{◌∙◌, arith, append_assoc}
use Rattle.std.specs.List.{AllByRecursion}
use Rattle.std.proofs.lemmas.List.Sums.{sum_by-cons}
use Rattle.tl_text.specs.declared.paragraph.Atom.{Atom}
use Rattle.tl_text.specs.Paragraph.{unit_width, gap_before}
use Rattle.tl_text.specs.Cuttings.{line_width, joined, FillsLines}
use Rattle.tl_text.proofs.Widths.{line_width-push, at_choice}

-- the lines of a piece filled from the left, where `line` is open
abbrev pub fill : ℕ → List Atom → List Atom → List (List Atom)
fill w line [] = line ∷ []
fill w line (unit ∷ units) = if nat_le (line_width (line ++ unit ∷ [])) w then fill w (line ++ unit ∷ [])
    units else line ∷ fill w (unit ∷ []) units

-- the lines of a whole piece
abbrev pub piece_lines : ℕ → List Atom → List (List Atom)
piece_lines w [] = [] ∷ []
piece_lines w (unit ∷ units) = fill w (unit ∷ []) units

-- how many lines follow an open line of `used` columns
abbrev pub more : ℕ → ℕ → List Atom → ℕ
more w used [] = 0
more w used (unit ∷ units) =
    if nat_le (used + gap_before unit + unit_width unit) w then more w (used + gap_before unit + unit_width unit)
    units else 1 + more w (unit_width unit) units

-- an open line never gets more room in a cutting's line than the rest of that line needs
line_rest : (w : ℕ) (head rest : List Atom) (n used v : ℕ) → ((u : ℕ) → more w u rest ≤ n) →
    v + (sum_by unit_width head + sum_by gap_before head) ≤ w
    → (used ≤ v → more w used (head ++ rest) ≤ n) × (more w used (head ++ rest) ≤ 1 + n)
line_rest w [] rest n used v after within = (λ _. after used, omega (arith, after used))
line_rest w (unit ∷ head) rest n used v after within =
    let widths = sum_by-cons unit_width unit head in
    let gaps = sum_by-cons gap_before unit head in
    let next = λ (u : ℕ). line_rest w head rest n u (v + gap_before unit + unit_width unit) after (omega arith) in
    let fuller = next (used + gap_before unit + unit_width unit) in
    let fresh = next (unit_width unit) in (
      λ less. at_choice (λ m. m ≤ n) (used + gap_before unit + unit_width unit) w _ _ (λ fits. fuller.0 (omega arith))
          (λ over. absurd (omega arith)),
      at_choice (λ m. m ≤ 1 + n) (used + gap_before unit + unit_width unit) w _ _ (λ fits. fuller.1)
          (λ over. omega (arith, fresh.0 (omega arith))),
    )

-- however full a line is, no more lines follow it than any cutting of the rest has
pub more-least : (w : ℕ) (lines : List (List Atom)) → AllByRecursion (λ line. line ≢ []) lines →
    AllByRecursion (λ line. line_width line ≤ w) lines
    → (used : ℕ) → more w used (joined lines) ≤ length lines
more-least w [] some holds used = omega arith
more-least w ([] ∷ lines) some holds used = absurd (some.0 refl)
more-least w ((unit ∷ line) ∷ lines) some holds used =
    let widths = sum_by-cons unit_width unit line in
    let next = λ (u : ℕ). line_rest w line (joined lines) (length lines) u (unit_width unit) (more-least w lines some.1 holds.1)
    (omega (arith, holds.0)) in
    at_choice (λ m. m ≤ length ((unit ∷ line) ∷ lines)) (used + gap_before unit + unit_width unit) w _ _
    (λ fits. omega (arith, (next (used + gap_before unit + unit_width unit)).1))
    (λ over. omega (arith, (next (unit_width unit)).0 (omega arith)))

-- filled lines have all units, in order
pub fill-joined : (w : ℕ) (line units : List Atom) → joined (fill w line units) ≡ line ++ units
fill-joined w line [] = refl
fill-joined w line (unit ∷ units) =
    at_choice (λ lines. joined lines ≡ line ++ unit ∷ units) (line_width (line ++ unit ∷ [])) w _ _
    (λ fits. fill-joined w (line ++ unit ∷ []) units ∙ append_assoc line (unit ∷ []) units)
    (λ over. ap (λ rest. line ++ rest) (fill-joined w (unit ∷ []) units))

-- and each of them has a unit
pub fill-some : (w : ℕ) (first : Atom) (line units : List Atom) → AllByRecursion (λ l. l ≢ []) (fill w (first ∷ line) units)
fill-some w first line [] = (λ same. cc, tt)
fill-some w first line (unit ∷ units) =
    at_choice (λ lines. AllByRecursion (λ l. l ≢ []) lines) (line_width ((first ∷ line) ++ unit ∷ [])) w _ _
    (λ fits. fill-some w first (line ++ unit ∷ []) units)
    (λ over. (λ same. cc, fill-some w unit [] units))

-- a unit alone is as wide as its line
pub line_width-single : (unit : Atom) → line_width (unit ∷ []) ≡ unit_width unit
line_width-single unit = omega (arith, sum_by-cons unit_width unit [])

-- no filled line is wider than `w` where no unit is
pub fill-holds : (w : ℕ) (line units : List Atom) → line_width line ≤ w → AllByRecursion (λ unit. unit_width unit ≤ w) units
    → AllByRecursion (λ l. line_width l ≤ w) (fill w line units)
fill-holds w line [] within each = (within, tt)
fill-holds w line (unit ∷ units) within each =
    at_choice (λ lines. AllByRecursion (λ l. line_width l ≤ w) lines) (line_width (line ++ unit ∷ [])) w _ _
    (λ fits. fill-holds w (line ++ unit ∷ []) units fits each.1)
    (λ over. (within, fill-holds w (unit ∷ []) units (omega (arith, line_width-single unit, each.0)) each.1))

-- a line before filled lines, into which their first unit does not fit
FillsLines-onto : (w : ℕ) (before : List Atom) (first : Atom) (line units : List Atom) → w < line_width (before ++ first ∷ [])
    → FillsLines w (fill w (first ∷ line) units) → FillsLines w (before ∷ fill w (first ∷ line) units)
FillsLines-onto w before first line [] over = λ rest. (over, tt)
FillsLines-onto w before first line (unit ∷ units) over =
    at_choice (λ lines. FillsLines w lines → FillsLines w (before ∷ lines)) (line_width ((first ∷ line) ++ unit ∷ [])) w _ _
    (λ fits. FillsLines-onto w before first (line ++ unit ∷ []) units over)
    (λ more rest. (over, rest))

-- filled lines are filled
pub fill-filled : (w : ℕ) (first : Atom) (line units : List Atom) → FillsLines w (fill w (first ∷ line) units)
fill-filled w first line [] = tt
fill-filled w first line (unit ∷ units) =
    at_choice (λ lines. FillsLines w lines) (line_width ((first ∷ line) ++ unit ∷ [])) w _ _
    (λ fits. fill-filled w first (line ++ unit ∷ []) units)
    (λ over. FillsLines-onto w (first ∷ line) unit [] units over (fill-filled w unit [] units))

-- how many lines are filled
pub fill-length : (w : ℕ) (first : Atom) (line units : List Atom) →
    length (fill w (first ∷ line) units) ≡ 1 + more w (line_width (first ∷ line)) units
fill-length w first line [] = refl
fill-length w first line (unit ∷ units) =
    let wider = line_width-push first line unit in
    at_choice (λ lines. length lines ≡ 1 + more w (line_width (first ∷ line)) (unit ∷ units))
    (line_width ((first ∷ line) ++ unit ∷ [])) w _ _
    (λ fits. at_choice (λ m. length (fill w ((first ∷ line) ++ unit ∷ []) units) ≡ 1 + m)
    (line_width (first ∷ line) + gap_before unit + unit_width unit) w _ _
    (λ same. fill-length w first (line ++ unit ∷ []) units ∙ ap (λ used. 1 + more w used units) wider)
    (λ over. absurd (omega arith)))
    (λ over. at_choice (λ m. length ((first ∷ line) ∷ fill w (unit ∷ []) units) ≡ 1 + m)
    (line_width (first ∷ line) + gap_before unit + unit_width unit) w _ _
    (λ fits. absurd (omega arith))
    (λ same. omega (arith, fill-length w unit [] units, ap (λ used. more w used units) (line_width-single unit))))
