-- The bytes of the lines so far.
use Rattle.std.proofs.Common.{◌≡◌, take}
use Rattle.tl_page.specs.Pages.{page_bytes}
use Rattle.tl_page.proofs.pages.page.Given as goal

abbrev pub invariant-loop-line : goal.invariant-loop-line
invariant-loop-line l = l.bytes ≡ page_bytes (take l.line-index l.line-items)
