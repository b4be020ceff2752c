-- What an exchange holds before and after a call, and what becomes of bytes that are not sent whole.
use Rattle.std.specs.Prelude.{◌≡◌, ℕ, ◌≤◌, List, Option}
use Rattle.tl_exchange.specs.declared.exchange.Exchange.{Ghosts}

-- the bytes that are to come, those that went, and the counts of faults, before and after
pub record Change : Type 0 where
  pub came : Option (List ℕ)
  pub came_after : Option (List ℕ)
  pub went : Option (List ℕ)
  pub went_after : Option (List ℕ)
  pub read_faults : ℕ
  pub read_faults_after : ℕ
  pub write_faults : ℕ
  pub write_faults_after : ℕ

-- between two states of an exchange
abbrev pub between : {S : Type 0} → Ghosts S → S → S → Change
between exchange old new = record {
  came = exchange.came old;
  came_after = exchange.came new;
  went = exchange.went old;
  went_after = exchange.went new;
  read_faults = exchange.read_faults old;
  read_faults_after = exchange.read_faults new;
  write_faults = exchange.write_faults old;
  write_faults_after = exchange.write_faults new;
}

-- nothing is sent
pub record SendsNothing (change : Change) : Type 0 where
  pub went : change.went_after ≡ change.went
  pub writes : change.write_faults_after ≡ change.write_faults
  pub reads : change.read_faults ≤ change.read_faults_after
