-- In which order the zones of a trace come, and what holds at each of its cuts.
use Rattle.std.specs.Prelude.{ℕ, ◌+◌, ◌*◌, ◌<◌, List, length, get_or, take}
use Rattle.tl_cert.specs.declared.trace.CutAt.{CutAt}

-- at each cut of the trace this holds of the cuts before it and of the cut
abbrev pub AtEachCut : (List CutAt → CutAt → Type 0) → List CutAt → Type 0
AtEachCut Holds trace = (i : ℕ) (d : CutAt) → i < length trace → Holds (take i trace) (get_or trace i d)

-- the zone `z` comes from the zone `from`: it is that zone, or a part of one that comes from it
pub data ComesFrom (trace : List CutAt) (from : ℕ) : ℕ → Type 0 where
  itself : ComesFrom trace from from
  lower : (i : ℕ) (d : CutAt) → i < length trace → ComesFrom trace from (get_or trace i d).zone → ComesFrom trace from (2 * i + 1)
  upper : (i : ℕ) (d : CutAt) → i < length trace → ComesFrom trace from (get_or trace i d).zone → ComesFrom trace from (2 * i + 2)

-- zone `a` comes before zone `b`: of the two parts of some cut it comes from the lower one, and `b` from the upper one
abbrev pub ZoneComesBefore : List CutAt → ℕ → ℕ → Type 0
ZoneComesBefore trace a b = (i : ℕ) × (i < length trace) × ComesFrom trace (2 * i + 1) a × ComesFrom trace (2 * i + 2) b
