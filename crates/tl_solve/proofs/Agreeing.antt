-- A zone of one class for each span, whose placement was looked at and whose bound is below the best height, has a cell for
-- which `low` and `high` differ.
use Rattle.std.proofs.Common.{◌≡◌, ◌≢◌, ℕ, ◌+◌, ◌<◌, zero, suc, Bool, true, false, List, [], ◌∷◌, ◌⊎◌, inl, inr, length, Option}
use Rattle.std.proofs.Common.{Some, None, refl, ap}
use Rattle.std.proofs.Common.{subst, arith}
use Rattle.std.specs.Bool.{IsTrue}
use Rattle.std.specs.List.{Contains}
use Rattle.std.proofs.lemmas.Bool.{cases_lt}
use Rattle.tl_base.specs.Steps.{height_at}
use Rattle.tl_base.proofs.Members.{Contains-first, Contains-later, Contains-cases, Contains-none}
use Rattle.tl_problem.specs.declared.cell.Cell.{Cell}
use Rattle.tl_problem.specs.declared.zone.Range.{Range}
use Rattle.tl_problem.specs.Problem.{ProblemModel}
use Rattle.tl_problem.specs.Sound.{IsSound}
use Rattle.tl_problem.specs.Spans.{has_span}
use Rattle.tl_problem.specs.Zones.{span_at, range_at, first_in_class, last_in_class, IsZone, IsWidthOf, InZone}
use Rattle.tl_problem.specs.Agreement.{HasOneClass, AgreeIn, DifferIn}
use Rattle.tl_problem.specs.Bounds.{IsBound}
use Rattle.tl_problem.proofs.BoundLaws.{bound-unique}
use Rattle.tl_problem.proofs.OneClass.{high-from_greatest}
use Rattle.tl_problem.proofs.ZoneLaws.{cases_eq}
use Rattle.tl_solve.specs.Arenas.{IsLookedAt}

-- whether something holds of all numbers below another, where each number tells
tell-below : (P Q : ℕ → Type 0) → ((k : ℕ) → P k ⊎ Q k) → (n : ℕ) → ((k : ℕ) → k < n → P k) ⊎ ((k : ℕ) × (k < n) × Q k)
tell-below P Q tell zero = inl (λ k within. absurd (omega (arith, within)))
tell-below P Q tell (suc n) =
    elim (tell-below P Q tell n) [
      | inr found ↦ inr (found.0, omega (arith, found.1), found.2)
      | inl all ↦ elim (tell n) [
        | inr here ↦ inr (n, omega arith, here)
        | inl here ↦ inl (λ k within. elim (cases_lt k n) [
          | inl less ↦ all k less
          | inr last ↦ let same : n ≡ k = omega (arith, within, last) in subst P same here
        ])
      ]
    ]

same-heights : (a b : Option ℕ) → (a ≡ b) ⊎ (a ≢ b)
same-heights None None = inl refl
same-heights None (Some n) = inr (λ same. cc)
same-heights (Some m) None = inr (λ same. cc)
same-heights (Some m) (Some n) = elim (cases_eq m n) [ inl same ↦ inl (ap Some same) | inr differ ↦ inr (λ same. differ (cc)) ]

module _ (problem : ProblemModel) (zone : List Range) where
  -- a cell of a span needs the same by `low` and by `high` at a width, or not
  AgreeAt : ℕ → ℕ → Cell → Type 0
  AgreeAt s w cell = IsTrue (has_span (span_at problem s) cell) → height_at cell.low w ≡ height_at cell.high w

  DifferAt : ℕ → ℕ → Cell → Type 0
  DifferAt s w cell = IsTrue (has_span (span_at problem s) cell) × (height_at cell.low w ≢ height_at cell.high w)

  tell-has : (b : Bool) → IsTrue b ⊎ (IsTrue b → ⊥)
  tell-has true = inl refl
  tell-has false = inr (λ same. cc)

  tell-cell : (s w : ℕ) (cell : Cell) → AgreeAt s w cell ⊎ DifferAt s w cell
  unfolding AgreeAt DifferAt
  tell-cell s w cell =
      elim (tell-has (has_span (span_at problem s) cell)) [
        | inr not ↦ inl (λ has. absurd (not has))
        | inl has ↦ elim (same-heights (height_at cell.low w) (height_at cell.high w)) [
          | inl same ↦ inl (λ _. same)
          | inr differ ↦ inr (has, differ)
        ]
      ]

  tell-cells : (s w : ℕ) (cells : List Cell) → ((cell : Cell) → Contains cells cell → AgreeAt s w cell)
      ⊎ ((cell : Cell) × Contains cells cell × DifferAt s w cell)
  tell-cells s w [] = inl (λ cell has. absurd (Contains-none cell has))
  tell-cells s w (cell ∷ cells) =
      elim (tell-cell s w cell) [
        | inr differ ↦ inr (cell, Contains-first cell cells, differ)
        | inl agree ↦ elim (tell-cells s w cells) [
          | inr found ↦ inr (found.0, Contains-later cell cells found.0 found.1, found.2)
          | inl all ↦ inl (λ other has. elim (Contains-cases cell cells other has) [
            | inl here ↦ subst (AgreeAt s w) here agree
            | inr later ↦ all other later
          ])
        ]
      ]

  -- at a width, where the zone gives it to the span
  AgreeWide : ℕ → ℕ → Type 0
  AgreeWide s w = IsWidthOf problem zone s w → (cell : Cell) → Contains problem.cells cell → AgreeAt s w cell

  DifferWide : ℕ → ℕ → Type 0
  DifferWide s w = IsWidthOf problem zone s w × ((cell : Cell) × Contains problem.cells cell × DifferAt s w cell)

  tell-width : (s w : ℕ) → IsWidthOf problem zone s w ⊎ (IsWidthOf problem zone s w → ⊥)
  tell-width s w =
      elim (cases_lt w (first_in_class problem s (range_at zone s).first)) [
        | inl low ↦ inr (λ is. omega (arith, low, is.0))
        | inr from ↦ elim (cases_lt (last_in_class problem s (range_at zone s).last) w) [
          | inl high ↦ inr (λ is. omega (arith, high, is.1))
          | inr upto ↦ inl (from, upto)
        ]
      ]

  tell-wide : (s w : ℕ) → AgreeWide s w ⊎ DifferWide s w
  unfolding AgreeWide DifferWide
  tell-wide s w =
      elim (tell-width s w) [
        | inr outside ↦ inl (λ is. absurd (outside is))
        | inl inside ↦ elim (tell-cells s w problem.cells) [
          | inl all ↦ inl (λ _. all)
          | inr found ↦ inr (inside, found)
        ]
      ]

  -- at all widths that the zone gives the span
  AgreeSpan : ℕ → Type 0
  AgreeSpan s = (w : ℕ) → AgreeWide s w

  DifferSpan : ℕ → Type 0
  DifferSpan s = (w : ℕ) × DifferWide s w

  tell-span : (s : ℕ) → AgreeSpan s ⊎ DifferSpan s
  unfolding AgreeSpan DifferSpan AgreeWide
  tell-span s =
      let last = last_in_class problem s (range_at zone s).last in
      elim (tell-below (AgreeWide s) (DifferWide s) (tell-wide s) (last + 1)) [
        | inr found ↦ inr (found.0, found.2)
        | inl all ↦ inl (λ w is. all w (omega (arith, is.1)) is)
      ]

  -- the cells agree in the zone, or some cell differs
  pub agree-or_differ : AgreeIn problem zone ⊎ DifferIn problem zone
  unfolding AgreeSpan DifferSpan AgreeWide DifferWide AgreeAt DifferAt
  agree-or_differ =
      elim (tell-below AgreeSpan DifferSpan tell-span (length zone)) [
        | inl all ↦ inl (λ s w cell there width inside has. all s there w width cell inside has)
        | inr found ↦ inr (record {
          s = found.0;
          w = found.2.0;
          cell = found.2.1.1.0;
          span = found.1;
          width = found.2.1.0;
          inside = found.2.1.1.1;
          has = found.2.1.1.2.0;
          differ = found.2.1.1.2.1;
        })
      ]

  pub one_class-differ : IsSound problem → IsZone problem zone → HasOneClass zone → (bound height : ℕ) →
      IsBound problem (InZone problem zone) bound →
      bound < height → IsLookedAt problem zone height → DifferIn problem zone
  one_class-differ sound is one bound height bounds below looked =
      elim agree-or_differ [
        | inr differ ↦ differ
        | inl agree ↦ elim looked [
          | inl none ↦ absurd (none bounds.some.0 bounds.some.1)
          | inr (inl high) ↦
              let same = bound-unique problem (InZone problem zone) bound high.0 bounds high.1 in
              absurd (omega (arith, same, high.2, below))
          | inr (inr found) ↦
              let rows = bounds.least.attained in
              let enough = high-from_greatest problem sound zone is one agree found.0 rows.0 found.1.kind rows.1 in
              let above = found.2 rows.0 enough in
              absurd (omega (arith, above, rows.2, below))
        ]
      ]
