-- What was taken so far, and what comes next.
use Rattle.std.proofs.Common.{◌∙◌, ◌<◌, List, ℕ, length, map, string_bytes, subst, refl}
use Rattle.std.proofs.lemmas.Result.{err_from_is_err_and}
use Rattle.tl_exchange.specs.Exchange.{between}
use Rattle.tl_request.specs.Requests.{HasNoRequest}
use Rattle.tl_request.specs.inner.Headings.{AsksNothing, IsHeadingOf}
use Rattle.tl_request.proofs.Arriving.{cause_by, file_is_cut, nothing_asked, request_is_taken, text_is_cut}
use Rattle.tl_request.proofs.request.receive_request.Goals as goal

pub returns-in_default-2-clause-cause : goal.returns-in_default-2-clause-cause
returns-in_default-2-clause-cause g c =
    let came = g.E.Exchange.came in
    let line = rw c.in-Some.is at c.in_ok-line.ensures.taken in
    nothing_asked (came c.args.exchange.now) (came c.receive_line.new.exchange) c.in-Some.line.items line.is line.taken
    (subst AsksNothing c.as_slice.ensures.value (rw c.in_default-2.is at c.in_ok-heading.ensures.none))

pub returns-in_err-file-clause-cause : goal.returns-in_err-file-clause-cause
returns-in_err-file-clause-cause g c =
    let came = g.E.Exchange.came in
    let line = rw c.in-Some.is at c.in_ok-line.ensures.taken in
    let heading = c.in-Some-2.heading in
    let is = subst (λ (own : List ℕ). IsHeadingOf own heading) c.as_slice.ensures.value
    (rw c.in-Some-2.is at c.in_ok-heading.ensures.some) in
    let p = err_from_is_err_and c.from_residual-in_err-file.result c.from_residual-in_err-file.ensures.1 in
    rw (p.1, p.2) (cause_by (λ came. length came < heading.file) HasNoRequest
    (between g.E.Exchange c.args.exchange.now c.receive_file.new.exchange)
    (between g.E.Exchange c.receive_line.new.exchange c.receive_file.new.exchange) c.in_err-file.field-0.0
    (file_is_cut c.in-Some.line.items line.is (map string_bytes heading.words.items) heading.names heading.file heading.text is.0
    (came c.args.exchange.now) (came c.receive_line.new.exchange) line.taken)
    c.in_ok-line.ensures.ok_count refl c.in_err-file.ensures.cause)

pub returns-in_err-text-clause-cause : goal.returns-in_err-text-clause-cause
returns-in_err-text-clause-cause g c =
    let came = g.E.Exchange.came in
    let line = rw c.in-Some.is at c.in_ok-line.ensures.taken in
    let heading = c.in-Some-2.heading in
    let is = subst (λ (own : List ℕ). IsHeadingOf own heading) c.as_slice.ensures.value
    (rw c.in-Some-2.is at c.in_ok-heading.ensures.some) in
    let file = c.in_ok-file.ensures.taken in
    let p = err_from_is_err_and c.from_residual-in_err-text.result c.from_residual-in_err-text.ensures.1 in
    rw (p.1, p.2) (cause_by (λ came. length came < heading.text) HasNoRequest
    (between g.E.Exchange c.args.exchange.now c.receive_file-2.new.exchange)
    (between g.E.Exchange c.receive_file.new.exchange c.receive_file-2.new.exchange) c.in_err-text.field-0.0
    (text_is_cut c.in-Some.line.items line.is (map string_bytes heading.words.items) heading.names heading.file heading.text is.0
    (came c.args.exchange.now) (came c.receive_line.new.exchange) (came c.receive_file.new.exchange) file.file line.taken file.taken
    file.sized)
    (c.in_ok-file.ensures.ok_count ∙ c.in_ok-line.ensures.ok_count) refl c.in_err-text.ensures.cause)

pub returns-clause-taken : goal.returns-clause-taken
returns-clause-taken g c =
    let came = g.E.Exchange.came in
    let line = rw c.in-Some.is at c.in_ok-line.ensures.taken in
    let heading = c.in-Some-2.heading in
    let is = subst (λ (own : List ℕ). IsHeadingOf own heading) c.as_slice.ensures.value
    (rw c.in-Some-2.is at c.in_ok-heading.ensures.some) in
    let file = c.in_ok-file.ensures.taken in
    let text = c.in_ok-text.ensures.taken in (
      record { asked = is.1.0; file = file.file; text = text.file },
      record {
        next = request_is_taken c.in-Some.line.items line.is (map string_bytes heading.words.items) heading.names heading.file heading.text is.0
            (came c.args.exchange.now) (came c.receive_line.new.exchange) (came c.receive_file.new.exchange)
            (came c.receive_file-2.new.exchange) file.file text.file is.1.0 line.taken file.taken text.taken file.sized text.sized
            is.1.1 is.1.2 is.1.3;
        asks = is.1.1;
        reads = is.1.2;
        file = file.kept;
        text = text.kept;
      },
    )
