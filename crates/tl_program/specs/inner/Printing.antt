-- No public clause cites this file: it says what storing some files leaves, and printing a message.
use Rattle.std.specs.Prelude.{◌≡◌, ◌⊎◌, ℕ, List, Option, Some, None}
use Rattle.tl_base.specs.Desk.{longer, SaysPrefix, Rose}
use Rattle.tl_program.specs.declared.status.Status.{Status}
use Rattle.tl_program.specs.declared.status.Status.TheVariants.{WriteFault, Memory}
use Rattle.tl_program.specs.Change.{Change, Stored, StoresSome, FailsToStore, with_all}
use Rattle.tl_program.specs.Messages.{status_of}
use Rattle.tl_program.specs.Deliveries.{Delivery, told}

-- the message of this status is printed; or a prefix of it, and there is a fault; or nothing, where memory ran out
abbrev pub IsPrinted : Status → Status → Change → List ℕ → Type 0
IsPrinted status result change text =
    ((result ≡ status) × (change.said_after ≡ longer change.said text))
    ⊎ (((result ≡ WriteFault) × Rose change.write_faults change.write_faults_after
    × SaysPrefix change.said change.said_after text)
    ⊎ ((result ≡ Memory) × (change.said_after ≡ change.said)))

-- all files are stored, and no fault is counted; or one could not be, or memory ran out, and the program ends so
abbrev pub IsStored : Option Status → Change → List Stored → Type 0
IsStored None change stores = (change.files_after ≡ with_all change.files stores)
    × (change.write_faults_after ≡ change.write_faults)
IsStored (Some status) change stores =
    ((status ≡ WriteFault) × Rose change.write_faults change.write_faults_after
    × FailsToStore change.files change.files_after stores)
    ⊎ ((status ≡ Memory) × StoresSome change.files change.files_after stores)

-- the files of the delivery are stored and its message is printed; or one of these failed; or memory ran out
abbrev pub IsDelivered : Status → Change → Delivery → Type 0
IsDelivered result change delivery =
    ((result ≡ status_of delivery.report) × (change.files_after ≡ with_all change.files delivery.stores)
    × (change.said_after ≡ longer change.said (told delivery)))
    ⊎ (((result ≡ WriteFault) × Rose change.write_faults change.write_faults_after
    × ((FailsToStore change.files change.files_after delivery.stores × (change.said_after ≡ change.said))
    ⊎ ((change.files_after ≡ with_all change.files delivery.stores)
    × SaysPrefix change.said change.said_after (told delivery))))
    ⊎ ((result ≡ Memory) × (change.said_after ≡ change.said) × StoresSome change.files change.files_after delivery.stores))
