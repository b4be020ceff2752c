use Rattle.std.proofs.Common.{◌≡◌, ℕ, List, [], ◌∷◌, ◌++◌, sym, ap, ◌∙◌}
use Rattle.std.specs.Prelude.{codes}
use Rattle.std.specs.List.{flat_map}
use Rattle.tl_cert.specs.declared.trace.CutAt.{CutAt}
use Rattle.tl_cert.specs.declared.log.LogLine.{LogLine}
use Rattle.tl_base.specs.declared.limits.TheConstants.{MAX_PAGE_WIDTH}
use Rattle.tl_cert.specs.Pieces.{spell}
use Rattle.tl_cert.specs.Text.{spaced, cut_pieces, line_pieces, section_head}
use Rattle.tl_cert.proofs.Appending.{twice, section_spelled}
use Rattle.tl_cert.proofs.writing.put_section.Goals as goal

pub returns : goal.returns
returns c =
    let out = c.args.out.now in
    let s = c.args.section.now in
    let head : List ℕ = spell (section_head s) in
    let widths : List ℕ = spell (flat_map (spaced MAX_PAGE_WIDTH) s.widths) in
    let trace : List ℕ = spell (flat_map cut_pieces s.trace) in
    let log : List ℕ = spell (flat_map line_pieces s.log) in
    let put_w : c.put_widths.new.out ≡ c.extend_from_slice.new.self ++ widths =
    c.in_ok-put_widths.ensures ∙ ap (λ (list : List ℕ). c.extend_from_slice.new.self ++ spell
    (flat_map (spaced MAX_PAGE_WIDTH) list))
    c.as_slice-widths.ensures in
    let put_t : c.put_cuts.new.out ≡ c.push.new.self ++ trace =
    c.in_ok-put_cuts.ensures ∙ ap (λ (list : List CutAt). c.push.new.self ++ spell (flat_map cut_pieces list))
    c.as_slice-trace.ensures in
    let put_l : c.put_lines.new.out ≡ c.put_cuts.new.out ++ log =
    c.in_ok-put_lines.ensures ∙ ap (λ (list : List LogLine). c.put_cuts.new.out ++ spell (flat_map line_pieces list))
    c.as_slice-log.ensures in
    let end = c.put_lines.new.out in
    twice out c.put_section_head.new.out end head (codes "widths" ++ (widths ++ ((10 ∷ []) ++ (trace ++ log))))
    c.in_ok-put_section_head.ensures
    (twice c.put_section_head.new.out c.extend_from_slice.new.self end (codes "widths")
    (widths ++ ((10 ∷ []) ++ (trace ++ log))) c.in_ok-extend_from_slice.ensures.ok
    (twice c.extend_from_slice.new.self c.put_widths.new.out end widths ((10 ∷ []) ++ (trace ++ log)) put_w
    (twice c.put_widths.new.out c.push.new.self end (10 ∷ []) (trace ++ log) c.in_ok-push.ensures.ok
    (twice c.push.new.self c.put_cuts.new.out end trace log put_t put_l))))
    ∙ ap (λ (t : List ℕ). out ++ t) (sym (section_spelled s))
