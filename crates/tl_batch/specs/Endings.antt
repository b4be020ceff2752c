-- How a run ends that answers requests.
use Rattle.std.specs.Prelude.{ℕ}
use Rattle.tl_batch.specs.declared.ending.Ending.{Ending}
use Rattle.tl_batch.specs.declared.ending.Ending.TheVariants as endings
use Rattle.tl_exchange.specs.declared.taking.TakeError.{TakeError}
use Rattle.tl_exchange.specs.declared.taking.TakeError.TheVariants.{CutOff, Failed, Memory}

-- the exit status
abbrev pub ending_number : Ending → ℕ
ending_number endings.Done = 0
ending_number endings.Usage = 2
ending_number endings.Limit = 6
ending_number endings.ReadFault = 7
ending_number endings.WriteFault = 8
ending_number endings.Memory = 9

-- how a run ends where a line or a file cannot be taken
abbrev pub ending_of : TakeError → Ending
ending_of CutOff = endings.Usage
ending_of Failed = endings.ReadFault
ending_of Memory = endings.Memory
