-- What is taken from an exchange: a line with its line feed, and a file of so many bytes.
use Rattle.std.specs.Prelude.{◌≡◌, ◌≢◌, ℕ, ◌+◌, ◌≤◌, List, [], ◌∷◌, ◌++◌, length, take, ⊤, Option, IfSome}
use Rattle.std.specs.List.{All}
use Rattle.std.specs.Io.KnownBytes.{Consumes, IsAtEnd}
use Rattle.tl_base.specs.Desk.{Rose}
use Rattle.tl_exchange.specs.declared.line.TheConstants.{MAX_LINE_BYTES}
use Rattle.tl_exchange.specs.declared.taking.TakeError.{TakeError}
use Rattle.tl_exchange.specs.declared.taking.TakeError.TheVariants.{CutOff, Failed, Memory}
use Rattle.tl_exchange.specs.Exchange.{Change}

-- a line: there is no line feed in it, and it has at most as many bytes as a line may have
pub record IsLine (line : List ℕ) : Type 0 where
  pub unbroken : All (λ byte. byte ≢ 10) line
  pub short : length line ≤ MAX_LINE_BYTES

-- the bytes begin with a line and its line feed, and this is what follows
pub record BeginsWith (line : List ℕ) (bytes rest : List ℕ) : Type 0 where
  pub is : IsLine line
  pub begins : bytes ≡ line ++ 10 ∷ rest

-- there are bytes, and no line begins them
pub record HasNoLine (bytes : List ℕ) : Type 0 where
  pub some : bytes ≢ []
  pub none : (line rest : List ℕ) → BeginsWith line bytes rest → ⊥

-- a line is taken, with its line feed
pub record TakesLine (change : Change) (line : List ℕ) : Type 0 where
  pub is : IsLine line
  pub taken : Consumes change.came change.came_after (line ++ 10 ∷ [])

-- the line that is returned is taken; where none is, no byte was left
abbrev pub IsLineTaken : Change → Option (List ℕ) → Type 0
IsLineTaken change (Option.Some line) = TakesLine change line
IsLineTaken change Option.None = IsAtEnd change.came

-- the first bytes of a file, with one more than `most`, which shows that it is longer
abbrev pub seen : ℕ → List ℕ → List ℕ
seen most file = take (most + 1) file

-- bytes of this size are taken, whatever they are
pub record TakesAnyOf (change : Change) (size : ℕ) : Type 0 where
  pub bytes : List ℕ
  pub sized : length bytes ≡ size
  pub taken : Consumes change.came change.came_after bytes

-- a file of this size is taken, and its first bytes are kept, unless memory runs out
pub record TakesFile (change : Change) (size most : ℕ) (returned : Option (List ℕ)) : Type 0 where
  pub file : List ℕ
  pub sized : length file ≡ size
  pub taken : Consumes change.came change.came_after file
  pub kept : IfSome returned (λ bytes. bytes ≡ seen most file)

-- why nothing was taken: what `Ends` says of the bytes that came, a fault, or memory
abbrev pub IsCause : (List ℕ → Type 0) → Change → TakeError → Type 0
IsCause Ends change CutOff = IfSome change.came Ends
IsCause Ends change Failed = Rose change.read_faults change.read_faults_after
IsCause Ends change Memory = ⊤
