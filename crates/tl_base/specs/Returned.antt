-- What a call returns that may always run out of memory instead. Each word takes first the error that says so.
use Rattle.std.specs.Prelude.{◌≡◌, ◌⊎◌, Result, Ok, Err}

-- this value, unless memory ran out
abbrev pub ReturnsOk : {T E : Type 0} → E → T → Result T E → Type 0
ReturnsOk memory value (Ok returned) = returned ≡ value
ReturnsOk memory value (Err error) = error ≡ memory

-- this error, unless memory ran out
abbrev pub ReturnsError : {T E : Type 0} → E → E → Result T E → Type 0
ReturnsError memory expected (Ok returned) = ⊥
ReturnsError memory expected (Err error) = (error ≡ memory) ⊎ (error ≡ expected)

-- the error of memory, or one that fits the cause
abbrev pub IsMemoryOr : {E : Type 0} → E → (E → Type 0) → E → Type 0
IsMemoryOr memory Fits error = (error ≡ memory) ⊎ Fits error
