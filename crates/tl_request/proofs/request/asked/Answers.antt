-- What asks for nothing as a command line asks for nothing as a request.
use Rattle.std.proofs.Common.{Global, List, String, map, string_bytes, subst, sym}
use Rattle.tl_request.specs.inner.Headings.{ReadsFile}
use Rattle.tl_request.proofs.Headings.{stands_once}
use Rattle.tl_request.proofs.request.asked.Goals as goal

pub returns-then-not-reads_file-clause-none : goal.returns-then-not-reads_file-clause-none
returns-then-not-reads_file-clause-none c = λ asked file text is.
    let heading = c.in-Some.heading in
    let once = stands_once c.args.line.now (map string_bytes heading.words.items) heading.names heading.file heading.text asked file
    text (rw c.in-Some.is at c.in_ok-heading.ensures.some) is in
    c.reads_file.ensures.no c.if-not-reads_file.true
    (subst (λ (words : List (String Global)). ReadsFile (map string_bytes words) heading.names) (sym c.as_slice.ensures.value)
    (asked, once.0, is.reads, once.1))
