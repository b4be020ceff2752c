-- One more unit is written after those so far.
use Rattle.std.proofs.Common.{◌<◌, ◌∙◌, ◌++◌, length, take, ap, sym, append_assoc, arith}
use Rattle.tl_page.specs.Pages.{line_text, text_of}
use Rattle.tl_page.specs.Pictures.{spaces}
use Rattle.tl_page.specs.inner.Lines.{gap_in_line}
use Rattle.tl_page.proofs.LineTexts.{units_more}
use Rattle.tl_page.proofs.paragraph.write_units.Goals as goal

pub loop-at-preserved : goal.loop-at-preserved
loop-at-preserved c =
    let within : c.loop-at.at < length c.args.units.now = omega arith in
    let unit = c.index-units-at.result in
    let more = units_more c.args.units.now c.loop-at.at unit within c.index-units-at.is in
    let one = spaces (gap_in_line c.loop-at.at unit) ++ text_of unit in
    record {
      text = c.in_ok-write_unit.ensures.text ∙ ap (λ line. line ++ one) c.loop-at.invariant.text
          ∙ append_assoc c.args.line.now (line_text (take c.loop-at.at c.args.units.now)) one
          ∙ ap (λ text. c.args.line.now ++ text) (sym more.0);
      width = omega (arith, more.1, c.in_ok-write_unit.ensures.width);
      few = omega (arith, c.in_ok-write_unit.ensures.few);
    }
