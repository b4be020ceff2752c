-- The last section has few columns.
use Rattle.std.proofs.Common.{◌≡◌, ◌≤◌, ℕ, List, length, Some, None, sym, ap, subst, ◌∙◌}
use Rattle.std.specs.List.{last_or}
use Rattle.tl_base.specs.declared.limits.TheConstants.{MAX_COLUMNS}
use Rattle.tl_base.specs.Style.{gap_of, edges_of}
use Rattle.tl_base.specs.Sizes.{total}
use Rattle.tl_lay.specs.Checks.{page_columns}
use Rattle.tl_lay.specs.inner.Claims.{HasFewColumns}
use Rattle.tl_lay.proofs.Judging.{last_got}
use Rattle.tl_lay.proofs.judge.page_columns.Goals as goal

pub total_width-requires : goal.total_width-requires
total_width-requires c =
    let is : last_or None c.args.sections.now ≡ Some c.in-Some.last.now =
    last_got c.args.sections.now c.in-Some.last.now (sym c.in-Some.ensures.value) in
    subst (λ (widths : List ℕ). length widths ≤ MAX_COLUMNS) (sym c.as_slice.ensures) (subst HasFewColumns is c.requires)

pub returns-in-Some : goal.returns-in-Some
returns-in-Some c =
    let is : last_or None c.args.sections.now ≡ Some c.in-Some.last.now =
    last_got c.args.sections.now c.in-Some.last.now (sym c.in-Some.ensures.value) in
    c.total_width.ensures ∙ ap (total (gap_of c.args.style) (edges_of c.args.style)) c.as_slice.ensures ∙ sym
    (ap (page_columns c.args.style) is)
