-- No public clause cites this file: it says what comes of a writer of a certificate's text.
use Rattle.std.specs.Prelude.{◌≡◌, ℕ, Bool, true, false, List, Option, Some, None, Result, Ok, Err}
use Rattle.std.specs.declared.alloc.AllocError.{AllocError}

-- the file is what the writer gave, where it is asked for, and none where it is not; it is refused only where the writer ran
-- out of memory. `gives` says which answers of the writer there may be
abbrev pub IsFileBy : (Result (List ℕ) AllocError → Type 0) → Bool → Result (Option (List ℕ)) AllocError → Type 0
IsFileBy gives false answer = answer ≡ Ok None
IsFileBy gives true (Ok file) = (text : List ℕ) × gives (Ok text) × (file ≡ Some text)
IsFileBy gives true (Err error) = gives (Err error)
