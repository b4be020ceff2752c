use Rattle.std.proofs.Common.{ap, ◌∙◌, None, unwrap_or}
use Rattle.std.specs.Prelude.{codes}
use Rattle.tl_token.specs.Numbers.{columns_spanned, rows_spanned, floor_of}
use Rattle.tl_token.specs.declared.tag.Given.{Given}
use Rattle.tl_token.proofs.Numbered.{columns_in, rows_in, floor_in, align_in}
use Rattle.tl_token.proofs.tag.Given.cell_spans.Goals as goal

pub returns : goal.returns
returns c = λ all e.
    let colspan = c.columns.ensures ∙ ap columns_spanned (c.unwrap_or.ensures ∙ ap (λ (g : Given). unwrap_or (g.colspan) None) e)
    ∙ columns_in (codes "colspan") all in
    let rowspan = c.rows.ensures ∙ ap rows_spanned (c.unwrap_or-2.ensures ∙ ap (λ (g : Given). unwrap_or (g.rowspan) None)
    e) ∙ rows_in (codes "rowspan") all in
    let least = c.floor.ensures ∙ ap floor_of (c.unwrap_or-3.ensures ∙ ap (λ (g : Given). unwrap_or (g.least) None)
    e) ∙ floor_in (codes "data-min") all in
    let align = c.unwrap_or-4.ensures ∙ ap (λ (g : Given). unwrap_or (g.align) None) e ∙ align_in all in
    λ i. record { colspan = colspan i; rowspan = rowspan i; span = 1; least = least i; align = align i }
