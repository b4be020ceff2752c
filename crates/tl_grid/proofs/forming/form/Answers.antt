use Rattle.tl_grid.proofs.Laws.{all_within, all_apart, all_columns, all_rows, all_filled, kept_slots}
use Rattle.tl_grid.proofs.Results.{ok_law, each_ok, each_err}
use Rattle.tl_grid.proofs.forming.form.Goals as goal

pub returns-clause-within : goal.returns-clause-within
returns-clause-within c = ok_law c.args.shape.now _ c.first_result.result
    (λ grid has. all_within c.args.shape.now grid c.requires.spans has) c.first_result.ensures.ok

pub returns-clause-apart : goal.returns-clause-apart
returns-clause-apart c = ok_law c.args.shape.now _ c.first_result.result
    (λ grid has. all_apart c.args.shape.now grid c.requires.spans has) c.first_result.ensures.ok

pub returns-clause-columns : goal.returns-clause-columns
returns-clause-columns c = ok_law c.args.shape.now _ c.first_result.result
    (λ grid has. all_columns c.args.shape.now grid has) c.first_result.ensures.ok

pub returns-clause-rows : goal.returns-clause-rows
returns-clause-rows c = ok_law c.args.shape.now _ c.first_result.result
    (λ grid has. all_rows c.args.shape.now grid has) c.first_result.ensures.ok

pub returns-clause-left : goal.returns-clause-left
returns-clause-left c = ok_law c.args.shape.now _ c.first_result.result
    (λ grid has. all_filled c.args.shape.now grid c.requires.spans has) c.first_result.ensures.ok

pub returns-clause-kept : goal.returns-clause-kept
returns-clause-kept c = ok_law c.args.shape.now _ c.first_result.result
    (λ grid has. kept_slots c.args.shape.now grid c.requires.spans has) c.first_result.ensures.ok

pub returns-clause-each_ok : goal.returns-clause-each_ok
returns-clause-each_ok c =
    each_ok c.args.shape.now c.first_result.result c.first_result.ensures.ok c.first_result.ensures.err

pub returns-clause-each_err : goal.returns-clause-each_err
returns-clause-each_err c =
    each_err c.args.shape.now c.first_result.result c.first_result.ensures.ok c.first_result.ensures.err
