-- How the width of a line grows with its units.
use Rattle.std.proofs.Common.{◌≡◌, ℕ, ◌+◌, ◌≤◌, ◌<◌, Bool, true, false, if◌then◌else◌, nat_le, List, [], ◌∷◌, ◌++◌, sum_by, refl}
use Rattle.std.proofs.Common.{arith}
use Rattle.std.specs.List.{AllByRecursion}
use Rattle.std.proofs.lemmas.List.Sums.{sum_by-append, sum_by-cons}
use Rattle.std.proofs.lemmas.Bool.Decides.{nat_tests}
use Rattle.tl_text.specs.declared.paragraph.Atom.{Atom}
use Rattle.tl_text.specs.Paragraph.{unit_width, gap_before}
use Rattle.tl_text.specs.Cuttings.{line_width}

-- a line with units grows by the unit and its gap
pub line_width-push : (first : Atom) (line : List Atom) (unit : Atom) → line_width ((first ∷ line) ++ unit ∷ [])
    ≡ line_width (first ∷ line) + gap_before unit + unit_width unit
line_width-push first line unit =
    omega (
      arith,
      sum_by-append unit_width (first ∷ line) (unit ∷ []),
      sum_by-append gap_before line
          (unit ∷ []),
      sum_by-cons unit_width unit [],
      sum_by-cons gap_before unit [],
    )

-- what holds of both arms of a choice holds of it
pub at_choice : {X : Type 0} (P : X → Type 0) (a b : ℕ) (x y : X) → (a ≤ b → P x) → (b < a → P y) →
    P (if nat_le a b then x else y)
at_choice P a b x y fits over = choose (nat_le a b) refl
  where
    choose : (test : Bool) → nat_le a b ≡ test → P (if test then x else y)
    choose true is = fits (grind (arith, nat_tests))
    choose false is = over (grind (arith, nat_tests))

-- no unit of a line is wider than the line
pub units_within : (w : ℕ) (line : List Atom) → sum_by unit_width line ≤ w → AllByRecursion (λ unit. unit_width unit ≤ w) line
units_within w [] h = tt
units_within w (unit ∷ line) h =
    let sum = sum_by-cons unit_width unit line in
    (omega arith, units_within w line (omega arith))
