-- No cell from a number on begins there, and none before it.
use Rattle.std.proofs.Common.{◌≡◌, ◌∙◌, ◌<◌, ℕ, List, length, Option, Some, None, inl, inr, arith, ap}
use Rattle.std.specs.Prelude.{IfNone}
use Rattle.std.specs.List.{Any}
use Rattle.std.proofs.lemmas.Bool.{cases_lt}
use Rattle.std.proofs.lemmas.List.{get_or_default}
use Rattle.tl_problem.specs.declared.axis.Axis.{Axis}
use Rattle.tl_problem.specs.declared.cell.Cell.{Cell}
use Rattle.tl_problem.specs.inner.Axes.{start_of}
use Rattle.tl_problem.specs.inner.Demands.{cell_at, no_cell}
use Rattle.tl_problem.specs.inner.Soundness.{BeginsNowhere}
use Rattle.tl_problem.proofs.sound.beginning_at.Goals as goal

nowhere : (axis : Axis) (place : ℕ) (cells : List Cell) (from : ℕ) (before : Option ℕ) →
    BeginsNowhere axis place cells from (length cells) → IfNone before (BeginsNowhere axis place cells 0 from) →
    IfNone before (Any (λ cell. start_of axis cell ≡ place) cells → ⊥)
nowhere axis place cells from (Some number) after none = tt
nowhere axis place cells from None after none = λ any. by_place any.0 any.2
    (ap (start_of axis) (get_or_default cells any.0 no_cell any.1 any.2 ∙ any.3) ∙ any.4) where
      by_place : (k : ℕ) → k < length cells → start_of axis (cell_at cells k) ≡ place → ⊥
      by_place k within is = elim (cases_lt k from) [
        | inl early ↦ none k (omega arith) early is
        | inr late ↦ after k late within is
      ]

pub returns-in-None-clause-none : goal.returns-in-None-clause-none
returns-in-None-clause-none c = nowhere c.args.axis c.args.place c.args.cells.now c.args.from c.beginning_between-in-None.result
    c.in-None.ensures.none c.beginning_between-in-None.ensures.none
