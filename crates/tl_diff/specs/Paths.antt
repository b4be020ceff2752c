-- Paths along numbered arcs that lead forward, and the heaviest of them.
--
-- The places are 0 to n. A path goes along arcs, each at its weight, and from a place to the next at no weight.
-- It is named by the numbers of its arcs, in order: the steps between them are then known.
-- This is the usual longest path of an acyclic graph; a row of a table is a step, and a cell that covers rows is an arc.
use Rattle.std.specs.Prelude.{◌≡◌, ℕ, ◌<◌, ◌≤◌, List, [], ◌∷◌, length, get_or, sum_by}
use Rattle.tl_diff.specs.declared.paths.Arc.{Arc}

-- the arc with this number
abbrev pub arc_at : List Arc → ℕ → Arc
arc_at arcs i = get_or arcs i (record { from = 0; to = 0; weight = 0 })

-- a path from place p to place k along these arcs, in this order
abbrev pub IsPath : List Arc → ℕ → List ℕ → ℕ → Type 0
IsPath arcs p [] k = p ≤ k
IsPath arcs p (i ∷ is) k = (i < length arcs) × (p ≤ (arc_at arcs i).from) × IsPath arcs (arc_at arcs i).to is k

-- what a path along these arcs weighs
abbrev pub path_weight : List Arc → List ℕ → ℕ
path_weight arcs is = sum_by (λ i. (arc_at arcs i).weight) is

-- w is the greatest weight of a path from 0 to k: a path has it, and none has more
pub record IsHeaviest (arcs : List Arc) (k w : ℕ) : Type 0 where
  pub reached : (is : List ℕ) × (IsPath arcs 0 is k × (path_weight arcs is ≡ w))
  pub greatest : (is : List ℕ) → IsPath arcs 0 is k → path_weight arcs is ≤ w

-- what the arcs weigh together
abbrev pub total_weight : List Arc → ℕ
total_weight arcs = sum_by (λ e. e.weight) arcs

-- each arc leads forward, and to a place up to n
abbrev pub LeadForward : ℕ → List Arc → Type 0
LeadForward n arcs = (i : ℕ) → i < length arcs → ((arc_at arcs i).from < (arc_at arcs i).to) × ((arc_at arcs i).to ≤ n)

-- the arcs stand in the order of the places where they begin
abbrev pub InOrder : List Arc → Type 0
InOrder arcs = (i j : ℕ) → i < j → j < length arcs → (arc_at arcs i).from ≤ (arc_at arcs j).from
