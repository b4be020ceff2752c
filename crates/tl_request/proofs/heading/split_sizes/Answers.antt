-- Where a last word is no number of bytes, the words end with none.
use Rattle.std.proofs.Common.{◌∙◌, [], ◌∷◌, ◌++◌, decimal, map, string_bytes, sym}
use Rattle.tl_request.proofs.Headings.{of_check, before_last}
use Rattle.tl_request.proofs.heading.split_sizes.Goals as goal

pub returns-in_err-more-clause-none : goal.returns-in_err-more-clause-none
returns-in_err-more-clause-none c = rw c.from_residual.ensures (λ own file text split.
    c.in_err-more.ensures.none (own ++ decimal file ∷ []) text split.text_small
    (of_check (map string_bytes c.args.words.now) own file text (sym c.is_check.ensures ∙ c.if-is_check.true) split))

pub returns-in_err-own-clause-none : goal.returns-in_err-own-clause-none
returns-in_err-own-clause-none c = rw c.from_residual-in_err-own.ensures (λ own file text split.
    let all = map string_bytes c.args.words.now in
    c.in_err-own.ensures.none own file split.file_small
    (before_last (map string_bytes c.in_ok-more.more.now) (own ++ decimal file ∷ []) (decimal c.in_ok-more.text) (decimal text)
    (sym c.in_ok-more.ensures.some ∙ of_check all own file text (sym c.is_check.ensures ∙ c.if-is_check.true) split)))
