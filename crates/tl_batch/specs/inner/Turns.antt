-- What one turn of a run does, in which one request is answered: for the functions of this crate alone.
use Rattle.std.specs.Prelude.{◌≡◌, ◌⊎◌, ℕ, List, IfSome, Option, Some, length, map, option_map, string_bytes}
use Rattle.std.specs.List.{AllZip}
use Rattle.std.specs.Io.KnownBytes.{Appends, IsAtEnd}
use Rattle.tl_base.specs.Desk.{Rose}
use Rattle.tl_command.specs.Ask.{Asked, IsAsk}
use Rattle.tl_exchange.specs.Exchange.{Change}
use Rattle.tl_exchange.specs.Sent.{AppendsSome}
use Rattle.tl_request.specs.declared.request.Arrival.{Arrival}
use Rattle.tl_request.specs.Requests.{AreRequests, HasNoRequest, IsNext, Request}
use Rattle.tl_batch.specs.declared.ending.Ending.{Ending}
use Rattle.tl_batch.specs.declared.ending.Ending.TheVariants as endings
use Rattle.tl_batch.specs.Exchanged.{all_bytes}
use Rattle.tl_batch.specs.Replies.{AnswersAsked, IsReplyTo, memory_reply, usage_reply}

-- both files are held, and the bytes answer what is asked of them
pub record AnswersFiles (asked : Asked) (arrival : Arrival) (bytes : List ℕ) : Type 0 where
  pub file : List ℕ
  pub file_held : option_map (λ it. it.items) arrival.file ≡ Some file
  pub text : List ℕ
  pub text_held : option_map (λ it. it.items) arrival.text ≡ Some text
  pub answers : AnswersAsked asked file text bytes

-- the bytes answer whatever the words of an arrival ask for
abbrev pub AnswersArrival : Arrival → List ℕ → Type 0
AnswersArrival arrival bytes = (asked : Asked) → IsAsk (map string_bytes arrival.words.items) asked →
    AnswersFiles asked arrival bytes

-- the bytes answer an arrival, or say that memory ran out; and so much of them is sent
abbrev pub SendsReply : Arrival → (List ℕ → Type 0) → Type 0
SendsReply arrival Sends = (reply : List ℕ) × ((reply ≡ memory_reply) ⊎ AnswersArrival arrival reply) × Sends reply

-- ---- a turn

-- the next request is taken, and these bytes answer it
pub record TakesNext (came : List ℕ) (left : Option (List ℕ)) (reply : List ℕ) : Type 0 where
  pub request : Request
  pub rest : List ℕ
  pub stays : left ≡ Some rest
  pub next : IsNext came request rest
  pub answers : IsReplyTo request reply

-- the next request is answered, as far as the exchange tells what came; `Sends` says how much of the answer is sent
abbrev pub TakesTurn : Change → (List ℕ → Type 0) → Type 0
TakesTurn change Sends = IfSome change.came (λ came. (reply : List ℕ) × TakesNext came change.came_after reply × Sends reply)

-- its answer was sent
abbrev pub AnswersOne : Change → Type 0
AnswersOne change = TakesTurn change (Appends change.went change.went_after)

-- how the run ends after this turn
abbrev pub EndsTurn : Change → Ending → Type 0
EndsTurn change endings.Done = IsAtEnd change.came × (change.went_after ≡ change.went)
EndsTurn change endings.Usage = IfSome change.came HasNoRequest × (change.went_after ≡ change.went)
    × (change.write_faults_after ≡ change.write_faults)
EndsTurn change endings.Limit = ⊥
EndsTurn change endings.ReadFault = Rose change.read_faults change.read_faults_after × (change.went_after ≡ change.went)
EndsTurn change endings.WriteFault = Rose change.write_faults change.write_faults_after
    × TakesTurn change (AppendsSome change.went change.went_after)
EndsTurn change endings.Memory = change.went_after ≡ change.went

-- what is no request is answered; or that could not be sent whole
abbrev pub LastAnswered : Change → Ending → Type 0
LastAnswered change endings.Usage = Appends change.went change.went_after usage_reply
LastAnswered change endings.WriteFault = AppendsSome change.went change.went_after usage_reply
    × Rose change.write_faults change.write_faults_after
LastAnswered change other = ⊥

-- ---- so far

-- so many requests were answered
pub record HasAnswered (came : List ℕ) (change : Change) (count : ℕ) : Type 0 where
  pub requests : List Request
  pub replies : List (List ℕ)
  pub rest : List ℕ
  pub left : change.came_after ≡ Some rest
  pub read : AreRequests came requests rest
  pub each : AllZip IsReplyTo requests replies
  pub sent : Appends change.went change.went_after (all_bytes replies)
  pub counted : length replies ≡ count
