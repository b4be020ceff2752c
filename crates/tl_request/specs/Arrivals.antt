-- A request that was taken from an exchange.
use Rattle.std.specs.Prelude.{◌≡◌, ◌≢◌, ℕ, List, Option, Some, None, IfSome, map, option_map, string_bytes}
use Rattle.std.specs.Io.KnownBytes.{IsAtEnd}
use Rattle.tl_base.specs.declared.limits.TheConstants.{MAX_CERTIFICATE_BYTES, MAX_FILE_BYTES}
use Rattle.tl_command.specs.declared.command.Command.TheVariants.{Demo}
use Rattle.tl_command.specs.Ask.{IsAsk}
use Rattle.tl_exchange.specs.Exchange.{Change}
use Rattle.tl_exchange.specs.Taking.{seen}
use Rattle.tl_request.specs.declared.request.Arrival.{Arrival}
use Rattle.tl_request.specs.Requests.{IsNext, Request}

-- what is held of a file that came: its first bytes, unless memory ran out
abbrev pub IsHeld : ℕ → List ℕ → Option (List ℕ) → Type 0
IsHeld most file held = IfSome held (λ bytes. bytes ≡ seen most file)

-- the request is taken, and this is held of it: a command line that asks for it, and its files
pub record IsTaken (change : Change) (arrival : Arrival) (request : Request) : Type 0 where
  pub next : IfSome change.came (λ came. (rest : List ℕ) × (change.came_after ≡ Some rest) × IsNext came request rest)
  pub asks : IsAsk (map string_bytes arrival.words.items) request.asked
  pub reads : request.asked.command ≢ Demo
  pub file : IsHeld MAX_FILE_BYTES request.file (option_map (λ it. it.items) arrival.file)
  pub text : IsHeld MAX_CERTIFICATE_BYTES request.text (option_map (λ it. it.items) arrival.text)

-- the next request is taken; where none is returned, no byte was left
abbrev pub IsArrived : Change → Option Arrival → Type 0
IsArrived change (Some arrival) = (request : Request) × IsTaken change arrival request
IsArrived change None = IsAtEnd change.came
