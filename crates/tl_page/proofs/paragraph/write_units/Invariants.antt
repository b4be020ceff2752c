-- The units so far are written.
use Rattle.std.proofs.Common.{◌≡◌, ◌++◌, ◌+◌, ◌*◌, ◌≤◌, take}
use Rattle.tl_base.specs.declared.limits.TheConstants.{MAX_FILE_BYTES}
use Rattle.tl_text.specs.Cuttings.{line_width}
use Rattle.tl_page.specs.Pages.{line_text}
use Rattle.tl_page.proofs.paragraph.write_units.Given as goal

abbrev pub invariant-loop-at : goal.invariant-loop-at
invariant-loop-at l = record {
  text : l.line ≡ l.fn.line ++ line_text (take l.at l.units);
  width : l.columns ≡ line_width (take l.at l.units);
  few : l.columns ≤ (2 * MAX_FILE_BYTES + 1) * l.at;
}
