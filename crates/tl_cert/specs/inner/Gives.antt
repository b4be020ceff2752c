-- No public clause cites this file. A function gives what a reading gives, unless memory runs out.
use Rattle.std.specs.Prelude.{◌≡◌, ℕ, ◌-◌, List, [], Result, Ok, Err}
use Rattle.tl_cert.specs.declared.error.CertError.{CertError}
use Rattle.tl_cert.specs.declared.error.CertError.TheVariants as errors
use Rattle.tl_cert.specs.declared.reader.Fault.{Fault}
use Rattle.tl_cert.specs.declared.reader.Fault.TheVariants.{Memory, Wrong, Outside}
use Rattle.tl_cert.specs.inner.reading.Readings.{Answer, got, wrong, outside}

-- a reading fails by this fault: it gives the same fault at the same place, and nothing is asked of it where memory ran out
abbrev pub FailsBy : {A : Type 0} → Fault → Answer A → Type 0
FailsBy Memory answer = Unit {0}
FailsBy (Wrong left) answer = answer ≡ wrong left
FailsBy (Outside left) answer = answer ≡ outside left

-- the function gives what the reading does: the value, seen by `view`, with what is left of the text, or the fault
abbrev pub Gives : {X A : Type 0} → (X → A) → Result X Fault → List ℕ → Answer A → Type 0
Gives view (Ok x) rest answer = answer ≡ got (view x) rest
Gives view (Err fault) rest answer = FailsBy fault answer

-- the call returns what the reading of a text of this length gives: the value, or the fault with its place
abbrev pub ReturnsAs : {A : Type 0} → Result A CertError → ℕ → Answer A → Type 0
ReturnsAs (Ok x) length answer = answer ≡ got x []
ReturnsAs (Err (errors.Memory e)) length answer = Unit {0}
ReturnsAs (Err (errors.Syntax place)) length answer = (left : ℕ) × (answer ≡ wrong left) × (place ≡ length - left)
ReturnsAs (Err (errors.Range place)) length answer = (left : ℕ) × (answer ≡ outside left) × (place ≡ length - left)
ReturnsAs (Err errors.TooLong) length answer = ⊥
