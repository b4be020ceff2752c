-- How far the pass over the arcs has come; no public clause cites this file.
use Rattle.std.specs.Prelude.{◌≡◌, ℕ, ◌+◌, ◌<◌, ◌≤◌, List, length, get_or, take}
use Rattle.tl_diff.specs.declared.paths.Arc.{Arc}
use Rattle.tl_diff.specs.Paths.{arc_at, IsPath, path_weight, total_weight}

-- The arcs below `next` are done, and begin below `begun`; the others begin at `waiting` or later. Up to place `risen`
-- no place has less than the one before it.
pub record IsRelaxed (arcs : List Arc) (n risen begun waiting next : ℕ) (out : List ℕ) : Type 0 where
  pub room : length out ≡ n + 1
  pub reached : (k : ℕ) → k ≤ n → (is : List ℕ) × (IsPath arcs 0 is k × (path_weight arcs is ≡ get_or out k 0))
  pub rising : (k : ℕ) → k < risen → get_or out k 0 ≤ get_or out (k + 1) 0
  pub taken : (i : ℕ) → i < next → get_or out (arc_at arcs i).from 0 + (arc_at arcs i).weight ≤ get_or out (arc_at arcs i).to 0
  pub before : (i : ℕ) → i < next → (arc_at arcs i).from < begun
  pub later : (i : ℕ) → next ≤ i → i < length arcs → waiting ≤ (arc_at arcs i).from
  pub small : (k : ℕ) → k ≤ n → get_or out k 0 ≤ total_weight (take next arcs)
  pub within : next ≤ length arcs
