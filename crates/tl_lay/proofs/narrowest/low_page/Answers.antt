-- The page is that of the layout that the certificate names.
use Rattle.std.proofs.Common.{arith}
use Rattle.tl_lay.proofs.SlimPages.{claimed_low, drawn_low, fits_on, valid_named}
use Rattle.tl_lay.proofs.narrowest.low_page.Goals as goal

pub layout-requires-clause-valid : goal.layout-requires-clause-valid
layout-requires-clause-valid c =
    valid_named c.args.given.now.table c.args.task.now.style c.args.width c.args.given.now.budget c.args.certificate.now c.requires.low.valid

pub page_file-requires-clause-fits : goal.page_file-requires-clause-fits
page_file-requires-clause-fits c =
    let lines = claimed_low c.args.height c.args.certificate.now.claim c.requires.low.low in
    let low = lines.1 in
    let most = c.requires.lines in (
      c.args.width,
      lines.0,
      c.requires.narrow,
      omega (arith, low, most),
      fits_on c.args.given.now.table c.args.task.now.style c.args.width c.args.given.now.budget lines.0 c.args.certificate.now
          c.in_ok-layout.layout c.requires.low.valid (c.in_ok-layout.ensures.fits lines.0 lines.2),
    )

pub returns : goal.returns
returns c =
    let lines = claimed_low c.args.height c.args.certificate.now.claim c.requires.low.low in
    drawn_low c.args.task.now c.args.given.now.table c.args.height c.args.width lines.0 c.args.certificate.now c.in_ok-layout.layout
    c.page_file.result lines.1 c.in_ok-layout.ensures.named
    (fits_on c.args.given.now.table c.args.task.now.style c.args.width c.args.given.now.budget lines.0 c.args.certificate.now
    c.in_ok-layout.layout c.requires.low.valid (c.in_ok-layout.ensures.fits lines.0 lines.2)) c.page_file.ensures
