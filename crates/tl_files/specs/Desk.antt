-- The counts of faults of the real desk, and what it shows of a load that failed.
use Rattle.std.specs.Prelude.{ℕ, List}
use Rattle.tl_base.specs.Desk.{Rose}
use Rattle.tl_files.specs.declared.desk.RealDesk.{RealDesk}

-- how many calls of `load` returned an error
abbrev pub load_faults_of : {R E : Type 0} → RealDesk R E → ℕ
load_faults_of desk = desk.load_faults

-- how many calls of `store` and `say` returned an error
abbrev pub write_faults_of : {R E : Type 0} → RealDesk R E → ℕ
write_faults_of desk = desk.write_faults

-- a load failed, of whichever name: the real desk does not show why
abbrev pub FailsToLoad : {R E : Type 0} → RealDesk R E → List ℕ → RealDesk R E → Type 0
FailsToLoad old name new = Rose (load_faults_of old) (load_faults_of new)
