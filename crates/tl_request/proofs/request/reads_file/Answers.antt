-- Words that ask for nothing ask for nothing that is done with a file.
use Rattle.std.proofs.Common.{◌∙◌, ap, length, map, string_bytes, sym}
use Rattle.std.proofs.lemmas.Bool.{eqb-false}
use Rattle.std.proofs.lemmas.List.{length-map}
use Rattle.tl_request.proofs.request.reads_file.Goals as goal

pub returns-then-not-matches-clause-no : goal.returns-then-not-matches-clause-no
returns-then-not-matches-clause-no c = λ other reads.
    let names = c.in-Some.ask.names.now in
    eqb-false (length names) c.args.names other (sym (length-map names string_bytes)
    ∙ sym (ap (λ asked. length asked.names) (c.in-Some.ensures.only reads.0 reads.1)) ∙ reads.3)

pub returns-in-None-clause-no : goal.returns-in-None-clause-no
returns-in-None-clause-no c = λ same reads. c.in-None.ensures.none reads.0 reads.1
