-- Answers. One is the status of a command and the numbers of bytes of what it stores, a line feed, its message with a line feed, and
-- those bytes: of the page, of the certificate, of the certificate that one column less is too narrow, and of the one with which
-- the search ended.
use Rattle.std.specs.Prelude.{◌≡◌, ◌⊎◌, ℕ, List, [], ◌++◌, codes, decimal, get_or, length, Option, None, unwrap_or}
use Rattle.tl_base.specs.declared.limits.TheConstants.{MAX_CERTIFICATE_BYTES, MAX_FILE_BYTES}
use Rattle.tl_command.specs.declared.command.Command.{Command}
use Rattle.tl_command.specs.declared.command.Command.TheVariants.{Lay, Narrow, Tidy, Check, Demo}
use Rattle.tl_command.specs.Ask.{Asked}
use Rattle.tl_exchange.specs.Taking.{seen}
use Rattle.tl_lay.specs.declared.answer.Answer.{Answer}
use Rattle.tl_lay.specs.declared.verdict.Verdict.{Verdict}
use Rattle.tl_lay.specs.Answers.{IsLaid}
use Rattle.tl_lay.specs.Checks.{IsChecked}
use Rattle.tl_lay.specs.Lowest.{Lays}
use Rattle.tl_lay.specs.Narrowest.{Narrows}
use Rattle.tl_lay.specs.Slimmed.{IsNarrowed}
use Rattle.tl_lay.specs.Tidied.{IsTidied}
use Rattle.tl_lay.specs.Tidiest.{Tidies}
use Rattle.tl_program.specs.declared.report.Report.{Report}
use Rattle.tl_program.specs.Asks.{fitted_in}
use Rattle.tl_program.specs.Deliveries.{texts_of}
use Rattle.tl_program.specs.Messages.{message_with, status_number, status_of}
use Rattle.tl_program.specs.Reports.{report_of, verdict_report}
use Rattle.tl_program.specs.Settled.{Settles}
use Rattle.tl_program.specs.Tasks.{slim_task, task_of}
use Rattle.tl_request.specs.Requests.{Request}

-- ---- its bytes

-- the text at this place among those of an answer, or no bytes
abbrev pub text_at : List (Option (List ℕ)) → ℕ → List ℕ
text_at texts place = unwrap_or (get_or texts place None) []

-- its two lines: the status, and how many bytes the page and each certificate have; and the message, with its line feed
abbrev pub head_of : ℕ → List ℕ → List (Option (List ℕ)) → List ℕ
head_of status message texts = decimal status
    ++ (codes " " ++ (decimal (length (text_at texts 1)) ++ (codes " " ++ (decimal (length (text_at texts 2))
    ++ (codes " " ++ (decimal (length (text_at texts 3)) ++ (codes " " ++ (decimal (length (text_at texts 4))
    ++ (codes "\n" ++ message)))))))))

-- the answer that reports this, with the number of columns above which words may break, where that was found, and with these texts:
-- the page, and the certificates
abbrev pub reply_of : Option ℕ → Report → List (Option (List ℕ)) → List ℕ
reply_of most report texts = head_of (status_number (status_of report)) (message_with most report) texts
    ++ (text_at texts 1 ++ (text_at texts 2 ++ (text_at texts 3 ++ text_at texts 4)))

-- the answer where memory runs out
abbrev pub memory_reply : List ℕ
memory_reply = codes "9 0 0 0 0\n\n"

-- the answer to what is no request
abbrev pub usage_reply : List ℕ
usage_reply = codes "2 0 0 0 0\nusage\n"

-- ---- what it says

-- what a call answers, as it is sent
abbrev pub answer_bytes : Asked → Answer → List ℕ
answer_bytes asked answer = reply_of (fitted_in asked) (report_of answer) (texts_of answer)

-- the bytes are those of an answer of which this is so
abbrev pub Tells : Asked → (Answer → Type 0) → List ℕ → Type 0
Tells asked Says bytes = (answer : Answer) × Says answer × (bytes ≡ answer_bytes asked answer)

-- an answer of `lay` for the bytes of a file: which it is, and what it says of their table
abbrev pub TellsLaid : Asked → List ℕ → List ℕ → Type 0
TellsLaid asked file = Tells asked (λ answer. IsLaid (task_of asked) file answer × Lays (task_of asked) file answer)

-- one of `narrow`
abbrev pub TellsNarrowed : Asked → List ℕ → List ℕ → Type 0
TellsNarrowed asked file = Tells asked (λ answer. IsNarrowed (slim_task asked) asked.number file answer
    × Narrows (slim_task asked) asked.number file answer)

-- one of `tidy`
abbrev pub TellsTidied : Asked → List ℕ → List ℕ → Type 0
TellsTidied asked file = Tells asked (λ answer. IsTidied (task_of asked) file answer × Tidies (task_of asked) file answer)

-- a verdict of `check` for the bytes of a file and those of a certificate
abbrev pub TellsChecked : Asked → List ℕ → List ℕ → List ℕ → Type 0
TellsChecked asked file text bytes = (verdict : Verdict) × IsChecked (task_of asked) file text verdict
    × (bytes ≡ reply_of (fitted_in asked) (verdict_report verdict) [])

-- each command is answered with what its call says of the bytes of the file
abbrev pub AnswersCommand : Command → Asked → List ℕ → List ℕ → List ℕ → Type 0
AnswersCommand Lay asked file text bytes = TellsLaid asked file bytes
AnswersCommand Narrow asked file text bytes = TellsNarrowed asked file bytes
AnswersCommand Tidy asked file text bytes = TellsTidied asked file bytes
AnswersCommand Check asked file text bytes = TellsChecked asked file text bytes
AnswersCommand Demo asked file text bytes = ⊥

-- what is asked of the bytes of the file is answered: with `fit` the breaking is found for them
abbrev pub AnswersAsked : Asked → List ℕ → List ℕ → List ℕ → Type 0
AnswersAsked asked file text bytes =
    (settled : Asked) × Settles file asked settled × AnswersCommand asked.command settled file text bytes

-- These bytes answer the request: by its command, unless memory runs out. Of a file that is too long, no call sees more than the
-- first bytes, by which that shows
abbrev pub IsReplyTo : Request → List ℕ → Type 0
IsReplyTo request bytes = (bytes ≡ memory_reply)
    ⊎ AnswersAsked request.asked (seen MAX_FILE_BYTES request.file) (seen MAX_CERTIFICATE_BYTES request.text) bytes
