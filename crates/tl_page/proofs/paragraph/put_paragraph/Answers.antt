-- The ranges lie within the paragraph, and show its lines.
use Rattle.std.proofs.Common.{◌≡◌, ◌≤◌, ◌++◌, ◌∙◌, ◌∷◌, [], length, get_or, subst, map, take, ap, sym, append_assoc, arith}
use Rattle.std.proofs.lemmas.List.{map_more, map_push, take_all}
use Rattle.tl_base.specs.declared.limits.TheConstants.{MAX_FILE_BYTES}
use Rattle.std.specs.List.{All}
use Rattle.tl_text.specs.Paragraph.{atom_size}
use Rattle.tl_text.specs.declared.ranges.Line.{Line as Range}
use Rattle.tl_text.specs.Ranges.{ShowsGreedyCutting}
use Rattle.tl_page.specs.Pages.{aligned, line_from}
use Rattle.tl_page.specs.inner.Lines.{ranged}
use Rattle.tl_page.proofs.ParagraphLines.{range_within, range_is_small, range_is_short, none_too_wide, are_lines}
use Rattle.tl_page.proofs.paragraph.put_paragraph.Goals as goal

pub unreachable-requires : goal.unreachable-requires
unreachable-requires c =
    let named = rw c.in-Err-TooWide.field-0-is at c.in-Err-TooWide.ensures.too_wide in
    none_too_wide c.args.room.columns c.args.paragraph.now c.in-Err-TooWide.field-0-0 c.requires.fit named

pub units_of-requires : goal.units_of-requires
units_of-requires c =
    let shown : ShowsGreedyCutting c.args.room.columns c.args.paragraph.now c.as_slice-range-items.result.now =
    subst (ShowsGreedyCutting c.args.room.columns c.args.paragraph.now) (sym c.as_slice-range-items.ensures) c.in-Ok.ensures.greedy in
    let here = range_within (length c.args.paragraph.now) c.as_slice-range-items.result.now c.loop-range.range-index
    (record { first = 0; past = 0 })
    shown.in_order c.loop-range-test.true in
    record { begins = here.0; ends = omega (arith, here.1, ap length c.atoms-atoms.ensures.atoms) }

pub line_of-requires : goal.line_of-requires
line_of-requires c =
    let range = get_or c.as_slice-range-items.result.now c.loop-range.range-index (record { first = 0; past = 0 }) in
    record {
      few = omega (arith, ap length c.units_of.ensures, range_is_short c.atoms-atoms.result.now range);
      small = subst (All (λ atom. atom_size atom ≤ MAX_FILE_BYTES)) (sym c.units_of.ensures)
          (range_is_small MAX_FILE_BYTES c.atoms-atoms.result.now range c.atoms-atoms.ensures.small);
    }

pub loop-range-preserved : goal.loop-range-preserved
loop-range-preserved c =
    let ranges = c.as_slice-range-items.result.now in
    let line = λ (range : Range). line_from (ranged c.atoms-atoms.result.now range) in
    let now = get_or ranges c.loop-range.range-index (record { first = 0; past = 0 }) in
    let sofar = map line (take c.loop-range.range-index ranges) in
    let turned = aligned c.args.room.side c.args.room.columns in
    c.in_ok-push.ensures.ok
    ∙ ap (λ lines. lines ++ c.in_ok-aligned.field-0 ∷ []) c.loop-range.invariant
    ∙ append_assoc c.args.lines.now (map turned sofar) (c.in_ok-aligned.field-0 ∷ [])
    ∙ ap (λ one. c.args.lines.now ++ (map turned sofar ++ one ∷ []))
    (c.in_ok-aligned.ensures ∙ ap turned (c.in_ok-line.ensures ∙ ap line_from c.units_of.ensures))
    ∙ ap (λ all. c.args.lines.now ++ all) (sym (ap (map turned)
    (map_more line ranges c.loop-range.range-index (record { first = 0; past = 0 }) c.loop-range-test.true)
    ∙ map_push turned sofar (line now)))

pub returns : goal.returns
returns c =
    let ranges = c.as_slice-range-items.result.now in
    let turned = aligned c.args.room.side c.args.room.columns in
    let shown : ShowsGreedyCutting c.args.room.columns c.args.paragraph.now ranges =
    subst (ShowsGreedyCutting c.args.room.columns c.args.paragraph.now) (sym c.as_slice-range-items.ensures) c.in-Ok.ensures.greedy in (
      map (λ range. line_from (ranged c.args.paragraph.now range)) ranges,
      are_lines c.args.room.columns c.args.paragraph.now ranges shown,
      subst (λ atoms. c.loop-range.lines ≡ c.args.lines.now ++ map turned (map (λ range. line_from (ranged atoms range)) ranges))
          c.atoms-atoms.ensures.atoms
          (c.loop-range.invariant ∙ ap (λ some. c.args.lines.now ++ map turned
          (map (λ range. line_from (ranged c.atoms-atoms.result.now range)) some))
          (take_all c.loop-range.range-index ranges c.loop-range-test.false)),
    )
