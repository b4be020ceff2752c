use Rattle.std.proofs.Common.{◌++◌, codes, ap, ◌∙◌, ◌%◌, ◌^◌}
use Rattle.std.specs.List.{flat_map}
use Rattle.tl_demo.specs.Demo.{demo_rows, demo_text_of, row_text, rows_from}
use Rattle.tl_demo.proofs.text.demo_text.Goals as goal

pub returns : goal.returns
unfolding demo_text_of demo_rows
returns c =
    let rows = flat_map row_text (rows_from 30 (c.args.number % 2 ^ 31)).value in
    c.in_ok-extend_from_slice-2.ensures.ok
    ∙ ap (λ t. t ++ codes "</table>") (c.in_ok-write_rows.ensures
    ∙ ap (λ s. c.extend_from_slice.new.self ++ flat_map row_text (rows_from 30 s).value) c.new-draws.ensures
    ∙ ap (λ t. t ++ rows) (c.in_ok-extend_from_slice.ensures.ok ∙ ap (λ t. t ++ codes "<table>") c.new-out.ensures))
