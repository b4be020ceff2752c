use Rattle.std.proofs.Common.{◌≡◌, List, ◌++◌, [], take, MatchResult, alloc_error, ap, ◌∙◌, subst}
use Rattle.tl_grid.specs.declared.block.Block.{Block}
use Rattle.tl_grid.specs.declared.error.GridError.TheVariants.{Memory}
use Rattle.tl_grid.specs.inner.OpenBlocks.{Walk, pass_taken}
use Rattle.tl_grid.proofs.Runs.{run_begins}
use Rattle.tl_grid.proofs.open_blocks.OpenBlocks.begin_row.Goals as goal

pub returns : goal.returns
returns c =
    let row = c.args.row in
    let run = c.run_at-run.result in
    let passed : List Block = c.self.inside.passed.items in
    let ahead : List Block = c.self.inside.ahead.items in
    let P : Walk → Type 0 = λ w. MatchResult c.pass_taken.result (λ after. after ≡ w) (λ e. e ≡ Memory alloc_error) in
    subst P
    (ap (λ l. pass_taken row run.column l c.rewind.new.ahead.items) c.in_ok-rewind.ensures.passed
    ∙ ap (pass_taken row run.column (take run.count passed)) c.in_ok-rewind.ensures.ahead
    ∙ run_begins passed ahead run row
    (rw c.as_slice.ensures.value at c.run_at-run.ensures.passes)
    ∙ ap (λ (w : Walk). pass_taken row 0 [] (w.passed ++ w.ahead)) c.self.view_is)
    c.pass_taken.ensures
