-- A trace of one cut, whose upper part, zone 2, is searched as a piece with three cuts. The zones of the piece have other
-- numbers after the trace: its first cut makes zones 3 and 4, as it is the trace's second.
--
--   the trace     the piece       both
--
--       0             0             0
--      / \           / \           / \
--     1   2         1   2         1   2
--                  / \ / \           / \
--                  3 4 5 6          3   4
--                                  / \ / \
--                                  5 6 7 8
use Rattle.std.proofs.Common.{◌≡◌, ℕ, List, [], ◌∷◌, refl, map}
use Rattle.std.specs.List.{range_with_len}
use Rattle.tl_cert.specs.declared.trace.CutAt.{CutAt}
use Rattle.tl_cert.specs.Appended.{zone_named, appended}

abbrev cut : ℕ → ℕ → CutAt
cut zone span = record { zone = zone; span = span; class = 0 }

abbrev trace : List CutAt
trace = cut 0 0 ∷ []

abbrev piece : List CutAt
piece = cut 0 1 ∷ cut 1 2 ∷ cut 2 2 ∷ []

zones_of_piece : map (zone_named 2 1) (range_with_len 0 7) ≡ 2 ∷ 3 ∷ 4 ∷ 5 ∷ 6 ∷ 7 ∷ 8 ∷ []
zones_of_piece = refl

both : appended trace 2 piece ≡ cut 0 0 ∷ cut 2 1 ∷ cut 3 2 ∷ cut 4 2 ∷ []
both = refl

-- a piece of the whole, before any cut, keeps its numbers
alone : appended [] 0 piece ≡ piece
alone = refl
