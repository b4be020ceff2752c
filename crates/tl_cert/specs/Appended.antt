-- The cuts of a piece after those of a trace. A piece is a trace of its own that begins with one zone `z` of the trace: its
-- zone 0 is that zone. Put after a trace of `n` cuts, zone 0 of the piece is called `z` again, and each other zone `j` of it
-- is zone `2n + j`.
use Rattle.std.specs.Prelude.{◌≡◌, ◌≢◌, ℕ, suc, zero, ◌+◌, ◌*◌, ◌⊎◌, List, ◌++◌, length, map}
use Rattle.tl_problem.specs.declared.zone.Range.{Range}
use Rattle.tl_cert.specs.declared.trace.CutAt.{CutAt}
use Rattle.tl_cert.specs.Traces.{IsTrace, IsZoneOf, Stands, zone_at}
use Rattle.tl_cert.specs.ZoneOrders.{ComesFrom}

-- the number of zone `j` of a piece that begins with zone `z`, after a trace of so many cuts
abbrev pub zone_named : ℕ → ℕ → ℕ → ℕ
zone_named z cuts zero = z
zone_named z cuts (suc j) = 2 * cuts + suc j

-- a cut of the piece, with the number that its zone has there
abbrev pub cut_named : ℕ → ℕ → CutAt → CutAt
cut_named z cuts cut = record { zone = zone_named z cuts cut.zone; span = cut.span; class = cut.class }

-- the trace with the cuts of a piece of its zone `z` after it
abbrev pub appended : List CutAt → ℕ → List CutAt → List CutAt
appended trace z piece = trace ++ map (cut_named z (length trace)) piece

-- `after` is a trace of the whole, and has the zones of the trace and those of the piece of its zone `z`. What stood in the
-- trace stands, but for `z`, and what stands in the piece stands; nothing else does. The zones of the piece, and no other,
-- come from `z`.
pub record IsAppended (whole : List Range) (trace : List CutAt) (z : ℕ) (piece after : List CutAt) : Type 0 where
  pub trace_of : IsTrace whole after
  pub count : length after ≡ length trace + length piece
  pub old : (a : ℕ) → IsZoneOf trace a → zone_at whole after a ≡ zone_at whole trace a
  pub new : (j : ℕ) → IsZoneOf piece j → zone_at whole after (zone_named z (length trace) j) ≡ zone_at
      (zone_at whole trace z) piece j
  pub zones : (a : ℕ) → IsZoneOf after a → IsZoneOf trace a
      ⊎ ((j : ℕ) × IsZoneOf piece j × (a ≡ zone_named z (length trace) j))
  pub stood : (a : ℕ) → Stands trace a → a ≢ z → Stands after a
  pub stands : (j : ℕ) → Stands piece j → Stands after (zone_named z (length trace) j)
  pub cases : (a : ℕ) → Stands after a → (Stands trace a × (a ≢ z))
      ⊎ ((j : ℕ) × Stands piece j × (a ≡ zone_named z (length trace) j))
  pub comes : (j : ℕ) → IsZoneOf piece j → ComesFrom after z (zone_named z (length trace) j)
  pub only : (a : ℕ) → ComesFrom after z a → (j : ℕ) × IsZoneOf piece j × (a ≡ zone_named z (length trace) j)
