-- What a run sends that answers requests: the answers to the requests that came, in their order. Each is that of the call for its
-- own request, whatever the others are.
use Rattle.std.specs.Prelude.{◌≡◌, ◌⊎◌, ⊤, Bool, false, bytes_eq, ℕ, ◌-◌, ◌^◌, ◌≤◌, List, [], ◌∷◌, ◌++◌, IfSome, codes, flat_map, length}
use Rattle.std.specs.List.{AllZip}
use Rattle.std.specs.Io.KnownBytes.{Appends}
use Rattle.tl_base.specs.Desk.{Rose}
use Rattle.tl_exchange.specs.Exchange.{Change}
use Rattle.tl_exchange.specs.Sent.{AppendsSome}
use Rattle.tl_batch.specs.declared.ending.Ending.{Ending}
use Rattle.tl_batch.specs.declared.ending.Ending.TheVariants as endings
use Rattle.tl_request.specs.Requests.{AreRequests, HasNoRequest, Request}
use Rattle.tl_batch.specs.Replies.{IsReplyTo, usage_reply}

-- answers, one after the other
abbrev pub all_bytes : List (List ℕ) → List ℕ
all_bytes replies = flat_map (λ reply. reply) replies

-- what is sent, by how the run ends, where these are the answers, and this is what came after their requests
abbrev pub EndsSo : Ending → Change → List (List ℕ) → List ℕ → Type 0
-- nothing came after them
EndsSo endings.Done change replies rest = (rest ≡ []) × Appends change.went change.went_after (all_bytes replies)
-- what came is no request, and that is answered last
EndsSo endings.Usage change replies rest =
    HasNoRequest rest × Appends change.went change.went_after (all_bytes replies ++ usage_reply)
-- there are as many as can be counted
EndsSo endings.Limit change replies rest = (2 ^ 64 - 1 ≤ length replies)
    × Appends change.went change.went_after (all_bytes replies)
-- the next one could not be read
EndsSo endings.ReadFault change replies rest = Appends change.went change.went_after (all_bytes replies)
-- the last answer could not be sent whole
EndsSo endings.WriteFault change replies rest = AppendsSome change.went change.went_after (all_bytes replies)
    ⊎ (HasNoRequest rest × AppendsSome change.went change.went_after (all_bytes replies ++ usage_reply))
-- the line of the next one could not be held
EndsSo endings.Memory change replies rest = Appends change.went change.went_after (all_bytes replies)

-- the requests that came, each with its answer, and how the run ended
pub record IsAnswered (came : List ℕ) (change : Change) (ending : Ending) : Type 0 where
  pub requests : List Request
  pub replies : List (List ℕ)
  pub rest : List ℕ
  pub read : AreRequests came requests rest
  pub each : AllZip IsReplyTo requests replies
  pub ends : EndsSo ending change replies rest

-- a run answers all that came, as far as the exchange tells it
abbrev pub AnswersAll : Change → Ending → Type 0
AnswersAll change ending = IfSome change.came (λ came. IsAnswered came change ending)

-- a run ends by a fault only where the exchange failed
abbrev pub HasCause : Change → Ending → Type 0
HasCause change endings.ReadFault = Rose change.read_faults change.read_faults_after
HasCause change endings.WriteFault = Rose change.write_faults change.write_faults_after
HasCause change other = ⊤

-- the words of a command line ask for such a run: there is one word, and it is `batch`
abbrev pub asks_for_batch : List (List ℕ) → Bool
asks_for_batch [] = false
asks_for_batch (word ∷ []) = bytes_eq word (codes "batch")
asks_for_batch (word ∷ next ∷ more) = false
