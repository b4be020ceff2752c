-- One request, taken and answered.
use Rattle.std.proofs.Common.{◌∙◌, ◌≡◌, ◌⊎◌, List, ℕ, Result, Ok, Err, OnOk, Option, Some, IfSome, subst, inl, inr}
use Rattle.std.specs.Io.KnownBytes.{Appends}
use Rattle.tl_base.specs.declared.limits.TheConstants.{MAX_CERTIFICATE_BYTES, MAX_FILE_BYTES}
use Rattle.tl_base.proofs.Decreasing.{IfSome-weaker}
use Rattle.tl_exchange.specs.declared.exchange.Exchange.{Ghosts}
use Rattle.tl_exchange.specs.declared.taking.TakeError.{TakeError}
use Rattle.tl_exchange.specs.declared.taking.TakeError.TheVariants.{CutOff, Failed, Memory}
use Rattle.tl_exchange.specs.Exchange.{Change, SendsNothing, between}
use Rattle.tl_exchange.specs.Sent.{AppendsSome}
use Rattle.tl_exchange.specs.Taking.{IsCause, seen}
use Rattle.tl_request.specs.declared.request.Arrival.{Arrival}
use Rattle.tl_request.specs.Arrivals.{IsTaken}
use Rattle.tl_request.specs.Requests.{HasNoRequest, IsNext, Request}
use Rattle.tl_batch.specs.Endings.{ending_of}
use Rattle.tl_batch.specs.Replies.{AnswersAsked, IsReplyTo, memory_reply}
use Rattle.tl_batch.specs.inner.Turns.{AnswersArrival, EndsTurn, TakesNext, TakesTurn}

-- a request that cannot be taken ends the run by its cause
pub untaken_ends : (change : Change) (error : TakeError) → IsCause HasNoRequest change error → SendsNothing change →
    EndsTurn change (ending_of error)
untaken_ends change CutOff cause silent = (cause, silent.went, silent.writes)
untaken_ends change Failed cause silent = (cause, silent.went)
untaken_ends change Memory cause silent = silent.went

-- what answers an arrival answers its request
pub reply_by_arrival : (change : Change) (arrival : Arrival) (request : Request) (bytes : List ℕ) → IsTaken change arrival request →
    AnswersArrival arrival bytes → IsReplyTo request bytes
reply_by_arrival change arrival request bytes taken all =
    let answers = all request.asked taken.asks in
    let file = subst (λ (held : Option (List ℕ)). IfSome held (λ it. it ≡ seen MAX_FILE_BYTES request.file)) answers.file_held
    taken.file in
    let text = subst (λ (held : Option (List ℕ)). IfSome held (λ it. it ≡ seen MAX_CERTIFICATE_BYTES request.text))
    answers.text_held taken.text in
    inr (subst (λ (it : List ℕ). AnswersAsked request.asked (seen MAX_FILE_BYTES request.file) it bytes) text
    (subst (λ (it : List ℕ). AnswersAsked request.asked it answers.text bytes) file
    answers.answers))

-- what is sent for an arrival answers its request
pub reply_sent : (change : Change) (arrival : Arrival) (request : Request) (reply : List ℕ) → IsTaken change arrival request →
    (reply ≡ memory_reply) ⊎ AnswersArrival arrival reply → IsReplyTo request reply
reply_sent change arrival request reply taken sent = elim sent [
  | inl none ↦ inl none
  | inr answers ↦ reply_by_arrival change arrival request reply taken answers
]

-- what holds whether or not a call succeeds holds where it does
pub if_ok : {T F P : Type 0} (result : Result T F) → P → OnOk result P
if_ok (Ok value) is = is
if_ok (Err error) is = tt

module _ {S : Type 0} (exchange : Ghosts S) where
  -- a request is taken, and then so much of its answer is sent
  pub turn_by : (start taken sent : S) (arrival : Arrival) (request : Request) (reply : List ℕ) (Sends : List ℕ → Type 0) →
      IsTaken (between exchange start taken) arrival request → exchange.came sent ≡ exchange.came taken →
      IsReplyTo request reply → Sends reply → TakesTurn (between exchange start sent) Sends
  turn_by start taken sent arrival request reply Sends is came answers sends = IfSome-weaker (exchange.came start)
      (λ it. (rest : List ℕ) × (exchange.came taken ≡ Some rest) × IsNext it request rest)
      (λ it. (reply : List ℕ) × TakesNext it (exchange.came sent) reply × Sends reply)
      (λ it next. (
        reply,
        record { request = request; rest = next.0; stays = came ∙ next.1; next = next.2; answers = answers },
        sends,
      )) is.next

  -- what is sent after a call that sends nothing is sent after what was sent before it
  pub appends_after : (start taken sent : S) (reply : List ℕ) → SendsNothing (between exchange start taken) →
      Appends (exchange.went taken) (exchange.went sent) reply → Appends (exchange.went start) (exchange.went sent) reply
  appends_after start taken sent reply silent appends =
      subst (λ (went : Option (List ℕ)). Appends went (exchange.went sent) reply) silent.went appends

  -- the same of a part
  pub some_after : (start taken sent : S) (reply : List ℕ) → SendsNothing (between exchange start taken) →
      AppendsSome (exchange.went taken) (exchange.went sent) reply → AppendsSome (exchange.went start) (exchange.went sent) reply
  some_after start taken sent reply silent appends =
      subst (λ (went : Option (List ℕ)). AppendsSome went (exchange.went sent) reply) silent.went appends
