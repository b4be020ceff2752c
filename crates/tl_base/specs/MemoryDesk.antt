-- What a desk in memory holds, and which of its calls are to fail.
use Rattle.std.specs.Prelude.{◌≡◌, ◌-◌, ◌^◌, ℕ, List, find, Option, None, IsSome, option_map, ◌==◌}
use Rattle.std.specs.BTreeMap.{BTreeMap, get_by_text}
use Rattle.std.specs.declared.alloc.Global.{Global}
use Rattle.std.specs.declared.string.String.{String}
use Rattle.tl_base.specs.Desk.{Files, next_up_to}
use Rattle.tl_base.specs.declared.memory_desk.Fail.{Fail}
use Rattle.tl_base.specs.declared.memory_desk.MemoryDesk.{MemoryDesk}

-- the desk's map of files by name
abbrev pub file_map : MemoryDesk → BTreeMap (String Global) (List ℕ)
file_map desk = desk.files

-- what each name's file holds
abbrev pub files_of : MemoryDesk → Files
files_of desk = get_by_text (file_map desk)

-- the bytes that were printed
abbrev pub said_of : MemoryDesk → List ℕ
said_of desk = desk.said

-- the failures that were planned
abbrev pub planned_failures : MemoryDesk → List Fail
planned_failures desk = desk.fails

-- how many calls were made, up to the last number that is counted
abbrev pub calls_made : MemoryDesk → ℕ
calls_made desk = desk.calls

-- how many calls of `load` failed
abbrev pub load_faults_of : MemoryDesk → ℕ
load_faults_of desk = desk.load_faults

-- how many calls of `store` and `say` failed
abbrev pub write_faults_of : MemoryDesk → ℕ
write_faults_of desk = desk.write_faults

-- how many bytes the next call passes where it is to fail, by the first entry that names its number
abbrev pub next_failure : MemoryDesk → Option ℕ
next_failure desk = option_map (λ fail. fail.bytes) (find (λ fail. fail.call == calls_made desk) (planned_failures desk))

-- one more call was made, and the planned failures are as before
abbrev pub CountsCall : MemoryDesk → MemoryDesk → Type 0
CountsCall old new = (calls_made new ≡ next_up_to (2 ^ 32 - 1) (calls_made old)) × (planned_failures new ≡ planned_failures old)

-- a load of this name failed: there is no such file, unless the call was to fail
abbrev pub FailsToLoad : MemoryDesk → List ℕ → MemoryDesk → Type 0
FailsToLoad old name new = (IsSome (files_of old name) → IsSome (next_failure old)) × CountsCall old new
