use Rattle.std.proofs.Common.{ℕ, List, [], ◌∷◌, ◌++◌, sym, ap, ◌∙◌}
use Rattle.std.proofs.Common.{get_or}
use Rattle.std.proofs.lemmas.List.{append-nil}
use Rattle.tl_base.specs.declared.limits.TheConstants.{MAX_PAGE_WIDTH}
use Rattle.tl_cert.specs.Pieces.{numeral}
use Rattle.tl_cert.specs.Text.{spaced}
use Rattle.tl_cert.proofs.Appending.{written_at, twice}
use Rattle.tl_cert.proofs.writing.put_widths.Goals as goal

pub widths-preserved : goal.widths-preserved
widths-preserved c =
    let width = get_or c.args.widths.now c.widths.width-index 0 in
    written_at (spaced MAX_PAGE_WIDTH) c.args.widths.now c.widths.width-index 0 c.args.out.now c.widths.out c.put_number.new.out
    c.widths-test.true
    c.widths.invariant
    (twice _ _ _ (32 ∷ []) _ c.in_ok-extend_from_slice.ensures.ok c.in_ok-put_number.ensures
    ∙ ap (λ (n : ℕ). c.widths.out ++ (32 ∷ numeral n)) c.from.ensures ∙ ap (λ (t : List ℕ). c.widths.out ++ (32 ∷ t))
    (sym (append-nil (numeral width))))
