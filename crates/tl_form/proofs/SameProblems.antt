-- Tables that are the same have the same problem, with the same steps of their nested tables.
use Rattle.std.proofs.Common.{◌≡◌, ◌∙◌, ℕ, ◌≤◌, List, Some, ap, subst, arith}
use Rattle.std.specs.Option.{IsSomeAnd}
use Rattle.tl_base.specs.declared.style.Style.{Style}
use Rattle.tl_base.specs.declared.steps.Config.{Config}
use Rattle.tl_base.specs.Steps.{height_at}
use Rattle.tl_base.specs.Style.{spacing_of}
use Rattle.tl_grid.specs.declared.shape.Place.{Place}
use Rattle.tl_problem.specs.declared.cell.Cell.{Cell}
use Rattle.tl_problem.specs.Problem.{ProblemModel}
use Rattle.tl_cert.specs.declared.section.Section.{Section}
use Rattle.tl_text.specs.Cuttings.{LeastLines}
use Rattle.tl_text.specs.declared.paragraph.Atom.{Atom}
use Rattle.tl_table.specs.declared.cell.Content.{out-Content}
use Rattle.tl_table.specs.declared.cell.Content.TheOpen as open_content
use Rattle.tl_table.specs.declared.cell.Table.{Table, out-Table}
use Rattle.tl_table.specs.declared.cell.TableCell.{out-TableCell}
use Rattle.tl_form.specs.declared.heights.InnerSteps.{InnerSteps}
use Rattle.tl_form.specs.Nested.{AreStepsBy, AreInnerSteps, IsGreatestLower, IsLeastFound}
use Rattle.tl_form.specs.Problems.{AreStepsOf, BlockNeeds, CellNeeds, InnerNeeds, IsCellBy, IsProblemBy, IsProblemOf, inside_of}
use Rattle.tl_form.specs.Problems.{steps_for}
use Rattle.tl_table.specs.Same.{AreSameContent, AreSameCell, AreSameBy, AreSame}
use Rattle.tl_table.specs.Layouts.{lines_inside}
use Rattle.tl_table.specs.Tables.{OpenTable, OpenCell, OpenContent, inner_tables, place_of}
use Rattle.tl_form.proofs.NeedSteps.{AreStepsOf-same}
use Rattle.tl_table.proofs.SameFits.{same_least}
use Rattle.tl_table.proofs.SameHeads.{inside_same, lines_same}
use Rattle.tl_table.proofs.SameTables.{cell_turned, inner_same, same_number, same_opened, same_turned, zip_over}

-- ---- what a cell needs

-- what is needed of one table is needed of each that is the same
abbrev AreShared : (Table → ℕ → ℕ → Type 0) → Type 0
AreShared needs = (a b : Table) (w h : ℕ) → AreSame a b → needs a w h → needs b w h

module _ (needs : Table → ℕ → ℕ → Type 0) (each : AreShared needs) where
  block_same : (a b : OpenContent) (w h : ℕ) → AreSameContent AreSame a b → BlockNeeds needs a w h → BlockNeeds needs b w h
  block_same (open_content.Para p) (open_content.Para q) w h is need = subst (λ (units : List Atom). LeastLines w units h) is need
  block_same (open_content.Para p) (open_content.Table box) w h is need = absurd is
  block_same (open_content.Table box) (open_content.Para q) w h is need = absurd is
  block_same (open_content.Table box) (open_content.Table crate) w h is need = each box.value crate.value w h is need

  needs_same : (inside : ℕ) (a b : OpenCell) (w h : ℕ) → AreSameCell AreSame a b → CellNeeds needs inside a w h →
      CellNeeds needs inside b w h
  needs_same inside a b w h is need = record {
    floor = omega (arith, is.least, need.floor);
    heights = need.heights;
    blocks = zip_over (λ c d. AreSameContent AreSame (out-Content c) (out-Content d))
        (λ c height. BlockNeeds needs (out-Content c) w height)
        (λ d height. BlockNeeds needs (out-Content d) w height)
        (λ c d height one. block_same (out-Content c) (out-Content d) w height one)
        a.blocks b.blocks need.heights is.blocks need.blocks;
    all = need.all;
  }

  steps_same : (inside : ℕ) (a b : OpenCell) (page : ℕ) (steps : List Config) → AreSameCell AreSame a b →
      AreStepsOf (CellNeeds needs inside a) page steps →
      AreStepsOf (CellNeeds needs inside b) page steps
  steps_same inside a b page steps is of =
      AreStepsOf-same (CellNeeds needs inside a) (CellNeeds needs inside b) page steps
      (λ w h within. needs_same inside a b w h is)
      (λ w h within. needs_same inside b a w h (cell_turned AreSame AreSame same_turned a b is)) of

-- ---- the problem

module _ (lows highs : Table → ℕ → ℕ → Type 0) (low : AreShared lows) (high : AreShared highs) where
  made_same : (inside : ℕ) (a b : OpenCell) (page : ℕ) (made : Cell) → AreSameCell AreSame a b →
      IsCellBy lows highs page inside a made → IsCellBy lows highs page inside b made
  made_same inside a b page made is one = record {
    left = one.left ∙ ap (λ (p : Place). p.left) is.place;
    right = one.right ∙ ap (λ (p : Place). p.right) is.place;
    top = one.top ∙ ap (λ (p : Place). p.top) is.place;
    bottom = one.bottom ∙ ap (λ (p : Place). p.bottom) is.place;
    low = steps_same lows low inside a b page made.low is one.low;
    high = steps_same highs high inside a b page made.high is one.high;
  }

  problem_same : (style : Style) (page : ℕ) (a b : OpenTable) (problem : ProblemModel) → AreSameBy AreSame a b →
      IsProblemBy lows highs style page a problem → IsProblemBy lows highs style page b problem
  problem_same style page a b problem is one = record {
    columns = one.columns ∙ is.cols;
    lines = one.lines ∙ is.rows;
    spaced = one.spaced ∙ ap (spacing_of style) (lines_same a b is style);
    wide = one.wide;
    made = zip_over (λ c d. AreSameCell AreSame (out-TableCell c) (out-TableCell d))
        (λ c made. IsCellBy lows highs page (inside_of style a c) (out-TableCell c) made)
        (λ d made. IsCellBy lows highs page (inside_of style b d) (out-TableCell d) made)
        (λ c d made each made_by. subst (λ inside. IsCellBy lows highs page inside (out-TableCell d) made)
        (ap (λ (p : Place). lines_inside style a p) each.place ∙ inside_same a b is style (place_of d))
        (made_same (inside_of style a c) (out-TableCell c) (out-TableCell d) page made each made_by))
        a.cells b.cells problem.cells is.cells one.made;
  }

inner_needs : (bound : InnerSteps → List Config) (inner : List InnerSteps) → AreShared (InnerNeeds bound inner)
inner_needs bound inner a b w h same need =
    subst (λ n. IsSomeAnd (steps_for inner n) (λ one. height_at (bound one) w ≡ Some h)) (same_number a b same) need

-- with the same steps of nested tables
pub same_problem : (one other : Table) (style : Style) (page : ℕ) (inner : List InnerSteps) (problem : ProblemModel) →
    AreSame one other →
    IsProblemOf one style page inner problem → IsProblemOf other style page inner problem
same_problem one other style page inner problem same is =
    problem_same (InnerNeeds (λ s. s.low) inner) (InnerNeeds (λ s. s.high) inner) (inner_needs (λ s. s.low) inner)
    (inner_needs (λ s. s.high) inner)
    style page (out-Table one) (out-Table other) problem (same_opened one other same) is

-- ---- the steps that sections give

steps_by_same : (style : Style) (page : ℕ) (sections : List Section) (a b : Table) (steps : InnerSteps) → AreSame a b →
    AreStepsBy style page sections a steps → AreStepsBy style page sections b steps
steps_by_same style page sections a b steps same by = record {
  named = by.named ∙ number;
  least = by.least;
  is_least = same_least a b style by.least same by.is_least;
  begins = by.begins;
  low = subst (λ n. AreStepsOf (λ w lower. (by.least ≤ w) × IsGreatestLower sections n w lower) page steps.low) number by.low;
  high = subst (λ n. AreStepsOf (λ w height. (by.least ≤ w) × IsLeastFound style sections n w height) page steps.high)
      number by.high;
} where
  number : (out-Table a).number ≡ (out-Table b).number
  number = same_number a b same

-- sections give the tables nested directly in them the same steps
pub same_inner : (one other : Table) (style : Style) (page : ℕ) (sections : List Section) (inner : List InnerSteps) →
    AreSame one other →
    AreInnerSteps one style page sections inner → AreInnerSteps other style page sections inner
same_inner one other style page sections inner same are =
    zip_over AreSame (AreStepsBy style page sections) (AreStepsBy style page sections) (steps_by_same style page sections)
    (inner_tables (out-Table one)) (inner_tables (out-Table other)) inner
    (inner_same AreSame (out-Table one) (out-Table other) (same_opened one other same)) are
