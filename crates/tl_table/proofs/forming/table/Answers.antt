use Rattle.std.proofs.Common.{Result, Ok, Err, IfOk}
use Rattle.tl_base.specs.declared.breaking.Breaking.{Breaking}
use Rattle.tl_tree.specs.declared.node.TableNode.{TableNode}
use Rattle.tl_table.specs.declared.cell.Table.{Table}
use Rattle.tl_table.specs.declared.error.FormError.{FormError}
use Rattle.tl_table.specs.Formed.{Becomes}
use Rattle.tl_table.specs.Sound.{IsSound}
use Rattle.tl_table.specs.Spellable.{IsSpellable}
use Rattle.tl_table.proofs.Gridless.{each_error}
use Rattle.tl_table.proofs.OneTable.{each_table}
use Rattle.tl_table.proofs.SoundFormed.{becomes_sound}
use Rattle.tl_table.proofs.SpellableTables.{becomes_spellable}
use Rattle.tl_table.proofs.forming.table.Goals as goal

-- what holds of each table that the tree becomes holds of the one that is returned
of_result : (P : Table → Type 0) (breaking : Breaking) (node : TableNode) (result : Result Table FormError) →
    ((table : Table) → Becomes breaking node table → P table) → IfOk result (Becomes breaking node) → IfOk result P
of_result P breaking node (Ok table) each becomes = each table becomes
of_result P breaking node (Err error) each becomes = tt

pub returns-clause-sound : goal.returns-clause-sound
returns-clause-sound c = of_result IsSound c.args.breaking c.args.node c.formed.result
    (λ table becomes. becomes_sound c.args.breaking c.args.node table c.requires becomes) c.formed.ensures.ok

pub returns-clause-spellable : goal.returns-clause-spellable
returns-clause-spellable c = of_result (IsSpellable c.args.breaking) c.args.breaking c.args.node c.formed.result
    (λ table becomes. becomes_spellable c.args.breaking c.args.node table c.requires becomes) c.formed.ensures.ok

pub returns-clause-each_err : goal.returns-clause-each_err
returns-clause-each_err c = each_error c.args.breaking c.args.node c.formed.result c.formed.ensures.ok c.formed.ensures.err

pub returns-clause-each_ok : goal.returns-clause-each_ok
returns-clause-each_ok c = each_table c.args.breaking c.args.node c.formed.result c.formed.ensures.ok c.formed.ensures.err
