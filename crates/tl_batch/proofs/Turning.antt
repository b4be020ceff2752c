-- Requests and their answers, one turn after the other.
use Rattle.std.specs.Prelude.{⊤}
use Rattle.std.proofs.Common.{◌∙◌, ◌≡◌, ◌≢◌, ◌+◌, ◌-◌, ◌^◌, ◌≤◌, List, [], ◌∷◌, ◌++◌, ℕ, Bool, true, false, Option, None, Some}
use Rattle.std.proofs.Common.{IfSome, sym, ap, refl, subst, inl, inr, arith, length, take}
use Rattle.std.specs.Io.KnownBytes.{Appends, IsAtEnd}
use Rattle.std.proofs.lemmas.Bool.{false≢true}
use Rattle.std.proofs.lemmas.Grind.{flat_map-append}
use Rattle.std.proofs.lemmas.List.{append-nil, length-append}
use Rattle.std.proofs.Math.Seq.{take-append-add}
use Rattle.tl_base.specs.Desk.{Rose}
use Rattle.tl_base.proofs.Decreasing.{IfSome-weaker}
use Rattle.tl_base.proofs.Zips.{AllZip-push}
use Rattle.tl_exchange.specs.declared.exchange.Exchange.{Ghosts}
use Rattle.tl_exchange.specs.Exchange.{between}
use Rattle.tl_exchange.specs.Sent.{AppendsSome}
use Rattle.tl_exchange.proofs.KnownBytes.{appends_both}
use Rattle.tl_request.specs.Requests.{AreRequests, HasNoRequest, IsNext, Request}
use Rattle.tl_batch.specs.declared.ending.Ending.{Ending}
use Rattle.tl_batch.specs.declared.ending.Ending.TheVariants as endings
use Rattle.tl_batch.specs.Exchanged.{AnswersAll, EndsSo, HasCause, IsAnswered, all_bytes}
use Rattle.tl_batch.specs.Replies.{IsReplyTo, usage_reply}
use Rattle.tl_batch.specs.inner.Turns.{AnswersOne, EndsTurn, HasAnswered, LastAnswered, TakesNext}

-- one more request comes after those before it
one_more : (came : List ℕ) (requests : List Request) (rest : List ℕ) (request : Request) (more : List ℕ) →
    AreRequests came requests rest → IsNext rest request more → AreRequests came (requests ++ request ∷ []) more
one_more came [] rest request more are next = (more, subst (λ (it : List ℕ). IsNext it request more) (sym are) next, refl)
one_more came (first ∷ requests) rest request more are next =
    (are.0, are.1, one_more are.0 requests rest request more are.2 next)

-- the bytes of one more answer come after those before it
bytes_more : (replies : List (List ℕ)) (reply : List ℕ) → all_bytes (replies ++ reply ∷ []) ≡ all_bytes replies ++ reply
bytes_more replies reply = flat_map-append (λ it. it) replies (reply ∷ []) ∙ ap (λ it. all_bytes replies ++ it) (append-nil reply)

-- what is sent in part comes after what was sent before it
appends_some : (first second third : Option (List ℕ)) (one other : List ℕ) → Appends first second one →
    AppendsSome second third other → AppendsSome first third (one ++ other)
appends_some first second third one other before some = (
  length one + some.0,
  subst (Appends first third) (sym (take-append-add one other some.0))
      (appends_both first second third one (take some.0 other) before some.1),
)

-- the run ends by what is no request
abbrev is_usage : Ending → Bool
is_usage endings.Usage = true
is_usage endings.Done = false
is_usage endings.Limit = false
is_usage endings.ReadFault = false
is_usage endings.WriteFault = false
is_usage endings.Memory = false

-- or by anything else
other_end : (ending : Ending) → is_usage ending ≡ false → ending ≢ endings.Usage
other_end ending is same = false≢true (sym is ∙ ap is_usage same)

-- nothing is sent
nothing_sent : (went : Option (List ℕ)) → Appends went went []
nothing_sent None = tt
nothing_sent (Some bytes) = sym (append-nil bytes)

module _ {S : Type 0} (exchange : Ghosts S) where
  -- one more turn
  pub turn_taken : (start now next : S) (count : ℕ) →
      IfSome (exchange.came start) (λ came. HasAnswered came (between exchange start now) count) →
      AnswersOne (between exchange now next) →
      IfSome (exchange.came start) (λ came. HasAnswered came (between exchange start next) (count + 1))
  turn_taken start now next count so_far turn = IfSome-weaker (exchange.came start)
      (λ came. HasAnswered came (between exchange start now) count)
      (λ came. HasAnswered came (between exchange start next) (count + 1)) (λ came done.
      let taken = subst (λ (left : Option (List ℕ)). IfSome left (λ it. (reply : List ℕ)
      × TakesNext it (exchange.came next) reply × Appends (exchange.went now) (exchange.went next) reply)) done.left turn in
      let one = taken.1 in
      record {
        requests = done.requests ++ one.request ∷ [];
        replies = done.replies ++ taken.0 ∷ [];
        rest = one.rest;
        left = one.stays;
        read = one_more came done.requests done.rest one.request one.rest done.read one.next;
        each = AllZip-push IsReplyTo done.requests done.replies one.request taken.0 done.each one.answers;
        sent = subst (Appends (exchange.went start) (exchange.went next)) (sym (bytes_more done.replies taken.0))
            (appends_both (exchange.went start) (exchange.went now) (exchange.went next) (all_bytes done.replies) taken.0
            done.sent taken.2);
        counted = length-append done.replies (taken.0 ∷ []) ∙ ap (λ n. n + 1) done.counted;
      }) so_far

  -- the run ends after a turn in which nothing was sent
  silent_end : (start now next : S) (count : ℕ) (ending : Ending) (P : List ℕ → Type 0) →
      IfSome (exchange.came start) (λ came. HasAnswered came (between exchange start now) count) →
      exchange.went next ≡ exchange.went now → IfSome (exchange.came now) P →
      ((replies : List (List ℕ)) (rest : List ℕ) → P rest → length replies ≡ count →
      Appends (exchange.went start) (exchange.went next) (all_bytes replies) →
      EndsSo ending (between exchange start next) replies rest) → AnswersAll (between exchange start next) ending
  silent_end start now next count ending P so_far silent is ends = IfSome-weaker (exchange.came start)
      (λ came. HasAnswered came (between exchange start now) count)
      (λ came. IsAnswered came (between exchange start next) ending) (λ came done. record {
        requests = done.requests;
        replies = done.replies;
        rest = done.rest;
        read = done.read;
        each = done.each;
        ends = ends done.replies done.rest (subst (λ (left : Option (List ℕ)). IfSome left P) done.left is) done.counted
            (subst (λ (went : Option (List ℕ)). Appends (exchange.went start) went (all_bytes done.replies)) (sym silent)
            done.sent);
      }) so_far

  -- nothing is left
  at_end : (known : Option (List ℕ)) → IsAtEnd known → IfSome known (λ rest. rest ≡ [])
  at_end None is = tt
  at_end (Some rest) is = is

  -- whatever is left
  any_left : (known : Option (List ℕ)) → IfSome known (λ rest. ⊤)
  any_left None = tt
  any_left (Some rest) = tt

  -- the run ends after this turn, and nothing more is answered
  pub run_ends : (start now next : S) (count : ℕ) (ending : Ending) →
      IfSome (exchange.came start) (λ came. HasAnswered came (between exchange start now) count) →
      EndsTurn (between exchange now next) ending → ending ≢ endings.Usage → AnswersAll (between exchange start next) ending
  run_ends start now next count endings.Done so_far end other =
      silent_end start now next count endings.Done (λ rest. rest ≡ []) so_far end.1 (at_end (exchange.came now) end.0)
      (λ replies rest none counted sent. (none, sent))
  run_ends start now next count endings.Usage so_far end other = elim (other refl) [ ]
  run_ends start now next count endings.Limit so_far end other = elim end [ ]
  run_ends start now next count endings.ReadFault so_far end other =
      silent_end start now next count endings.ReadFault (λ rest. ⊤) so_far end.1 (any_left (exchange.came now))
      (λ replies rest is counted sent. sent)
  run_ends start now next count endings.WriteFault so_far end other = IfSome-weaker (exchange.came start)
      (λ came. HasAnswered came (between exchange start now) count)
      (λ came. IsAnswered came (between exchange start next) endings.WriteFault) (λ came done.
      let taken = subst (λ (left : Option (List ℕ)). IfSome left (λ it. (reply : List ℕ)
      × TakesNext it (exchange.came next) reply × AppendsSome (exchange.went now) (exchange.went next) reply)) done.left
      end.1 in
      let one = taken.1 in
      record {
        requests = done.requests ++ one.request ∷ [];
        replies = done.replies ++ taken.0 ∷ [];
        rest = one.rest;
        read = one_more came done.requests done.rest one.request one.rest done.read one.next;
        each = AllZip-push IsReplyTo done.requests done.replies one.request taken.0 done.each one.answers;
        ends = inl (subst (AppendsSome (exchange.went start) (exchange.went next)) (sym (bytes_more done.replies taken.0))
            (appends_some (exchange.went start) (exchange.went now) (exchange.went next) (all_bytes done.replies) taken.0
            done.sent taken.2));
      }) so_far
  run_ends start now next count endings.Memory so_far end other =
      silent_end start now next count endings.Memory (λ rest. ⊤) so_far end (any_left (exchange.came now))
      (λ replies rest is counted sent. sent)

  -- the run ends by what is no request, which is answered
  pub usage_ends : (start now next last : S) (count : ℕ) (ending : Ending) →
      IfSome (exchange.came start) (λ came. HasAnswered came (between exchange start now) count) →
      EndsTurn (between exchange now next) endings.Usage → LastAnswered (between exchange next last) ending →
      AnswersAll (between exchange start last) ending
  usage_ends start now next last count ending so_far end answered = IfSome-weaker (exchange.came start)
      (λ came. HasAnswered came (between exchange start now) count)
      (λ came. IsAnswered came (between exchange start last) ending) (λ came done. record {
        requests = done.requests;
        replies = done.replies;
        rest = done.rest;
        read = done.read;
        each = done.each;
        ends = by ending answered done.replies done.rest
            (subst (λ (left : Option (List ℕ)). IfSome left HasNoRequest) done.left end.0)
            (subst (λ (went : Option (List ℕ)). Appends (exchange.went start) went (all_bytes done.replies)) (sym end.1)
            done.sent);
      }) so_far where
        by : (ending : Ending) → LastAnswered (between exchange next last) ending → (replies : List (List ℕ)) (rest : List ℕ) →
            HasNoRequest rest → Appends (exchange.went start) (exchange.went next) (all_bytes replies) →
            EndsSo ending (between exchange start last) replies rest
        by endings.Done answered replies rest none sent = elim answered [ ]
        by endings.Usage answered replies rest none sent = (
          none,
          appends_both (exchange.went start) (exchange.went next)
              (exchange.went last) (all_bytes replies) usage_reply sent answered,
        )
        by endings.Limit answered replies rest none sent = elim answered [ ]
        by endings.ReadFault answered replies rest none sent = elim answered [ ]
        by endings.WriteFault answered replies rest none sent = inr (
          none,
          appends_some (exchange.went start)
              (exchange.went next) (exchange.went last) (all_bytes replies) usage_reply sent answered.0,
        )
        by endings.Memory answered replies rest none sent = elim answered [ ]

  -- the run ends as no more requests can be counted
  pub limit_ends : (start now : S) (count : ℕ) →
      IfSome (exchange.came start) (λ came. HasAnswered came (between exchange start now) count) → 2 ^ 64 - 1 ≤ count →
      AnswersAll (between exchange start now) endings.Limit
  limit_ends start now count so_far many = silent_end start now now count endings.Limit (λ rest. ⊤) so_far refl
      (any_left (exchange.came now)) (λ replies rest is counted sent. (omega (arith, many, counted), sent))

  -- a fault of this turn is one of the run
  pub cause_of_turn : (start now next : S) (ending : Ending) → exchange.read_faults now ≡ exchange.read_faults start →
      exchange.write_faults now ≡ exchange.write_faults start → EndsTurn (between exchange now next) ending →
      HasCause (between exchange start next) ending
  cause_of_turn start now next endings.Done reads writes end = tt
  cause_of_turn start now next endings.Usage reads writes end = tt
  cause_of_turn start now next endings.Limit reads writes end = tt
  cause_of_turn start now next endings.ReadFault reads writes end =
      subst (λ n. Rose n (exchange.read_faults next)) reads end.0
  cause_of_turn start now next endings.WriteFault reads writes end =
      subst (λ n. Rose n (exchange.write_faults next)) writes end.0
  cause_of_turn start now next endings.Memory reads writes end = tt

  -- and so is one of the last answer
  pub cause_of_last : (start now next last : S) (ending : Ending) → exchange.write_faults now ≡ exchange.write_faults start →
      EndsTurn (between exchange now next) endings.Usage → LastAnswered (between exchange next last) ending →
      HasCause (between exchange start last) ending
  cause_of_last start now next last endings.Done writes end answered = tt
  cause_of_last start now next last endings.Usage writes end answered = tt
  cause_of_last start now next last endings.Limit writes end answered = tt
  cause_of_last start now next last endings.ReadFault writes end answered = elim answered [ ]
  cause_of_last start now next last endings.WriteFault writes end answered =
      subst (λ n. Rose n (exchange.write_faults last)) (end.2 ∙ writes) answered.1
  cause_of_last start now next last endings.Memory writes end answered = tt

  -- before the first turn nothing was answered
  pub none_yet : (start : S) → IfSome (exchange.came start) (λ came. HasAnswered came (between exchange start start) 0)
  none_yet start = by (exchange.came start) refl where
    by : (known : Option (List ℕ)) → exchange.came start ≡ known →
        IfSome known (λ came. HasAnswered came (between exchange start start) 0)
    by None is = tt
    by (Some came) is = record {
      requests = [];
      replies = [];
      rest = came;
      left = is;
      read = refl;
      each = tt;
      sent = nothing_sent (exchange.went start);
      counted = refl;
    }

  module _ (start now next last : S) (count : ℕ) (result : Ending) where
    -- the run ends by anything but what is no request
    plain_end : (ending : Ending) → is_usage ending ≡ false →
        IfSome (exchange.came start) (λ came. HasAnswered came (between exchange start now) count) →
        EndsTurn (between exchange now next) ending → (ending ≢ endings.Usage → result ≡ ending) →
        (ending ≢ endings.Usage → last ≡ next) → AnswersAll (between exchange start last) result
    plain_end ending plain so_far end told same =
        let other = other_end ending plain in
        subst (λ (it : S). AnswersAll (between exchange start it) result) (sym (same other))
        (subst (λ (it : Ending). AnswersAll (between exchange start next) it) (sym (told other))
        (run_ends start now next count ending so_far end other))

    -- the run ends after this turn, by the last answer
    pub finished : (ending : Ending) →
        IfSome (exchange.came start) (λ came. HasAnswered came (between exchange start now) count) →
        EndsTurn (between exchange now next) ending →
        (ending ≡ endings.Usage → LastAnswered (between exchange next last) result) →
        (ending ≢ endings.Usage → result ≡ ending) → (ending ≢ endings.Usage → last ≡ next) →
        AnswersAll (between exchange start last) result
    finished endings.Usage so_far end usage told same = usage_ends start now next last count result so_far end (usage refl)
    finished endings.Done so_far end usage told same = plain_end endings.Done refl so_far end told same
    finished endings.Limit so_far end usage told same = plain_end endings.Limit refl so_far end told same
    finished endings.ReadFault so_far end usage told same = plain_end endings.ReadFault refl so_far end told same
    finished endings.WriteFault so_far end usage told same = plain_end endings.WriteFault refl so_far end told same
    finished endings.Memory so_far end usage told same = plain_end endings.Memory refl so_far end told same

    -- the cause of an end that is no usage
    plain_cause : (ending : Ending) → is_usage ending ≡ false → exchange.read_faults now ≡ exchange.read_faults start →
        exchange.write_faults now ≡ exchange.write_faults start → EndsTurn (between exchange now next) ending →
        (ending ≢ endings.Usage → result ≡ ending) → (ending ≢ endings.Usage → last ≡ next) →
        HasCause (between exchange start last) result
    plain_cause ending plain reads writes end told same =
        let other = other_end ending plain in
        subst (λ (it : S). HasCause (between exchange start it) result) (sym (same other))
        (subst (λ (it : Ending). HasCause (between exchange start next) it) (sym (told other))
        (cause_of_turn start now next ending reads writes end))

    -- a run ends by a fault where this turn or the last answer met one
    pub finished_by : (ending : Ending) → exchange.read_faults now ≡ exchange.read_faults start →
        exchange.write_faults now ≡ exchange.write_faults start → EndsTurn (between exchange now next) ending →
        (ending ≡ endings.Usage → LastAnswered (between exchange next last) result) →
        (ending ≢ endings.Usage → result ≡ ending) → (ending ≢ endings.Usage → last ≡ next) →
        HasCause (between exchange start last) result
    finished_by endings.Usage reads writes end usage told same =
        cause_of_last start now next last result writes end (usage refl)
    finished_by endings.Done reads writes end usage told same = plain_cause endings.Done refl reads writes end told same
    finished_by endings.Limit reads writes end usage told same = plain_cause endings.Limit refl reads writes end told same
    finished_by endings.ReadFault reads writes end usage told same =
        plain_cause endings.ReadFault refl reads writes end told same
    finished_by endings.WriteFault reads writes end usage told same =
        plain_cause endings.WriteFault refl reads writes end told same
    finished_by endings.Memory reads writes end usage told same = plain_cause endings.Memory refl reads writes end told same
