-- HTML is read as the kind of file that it is.
use Rattle.tl_read.proofs.Readings.{html_is, html_alike}
use Rattle.tl_read.proofs.reading.read_short.Goals as goal

pub returns-in-Html-clause-is : goal.returns-in-Html-clause-is
returns-in-Html-clause-is c =
    html_is c.args.source c.in-Html.breaking c.in-Html.is c.args.bytes.now c.read_html.result c.read_html.ensures.is

pub returns-in-Html-clause-each : goal.returns-in-Html-clause-each
returns-in-Html-clause-each c = λ reading is.
    html_alike c.args.source c.in-Html.breaking c.in-Html.is c.args.bytes.now c.read_html.result reading
    c.read_html.ensures.each is
