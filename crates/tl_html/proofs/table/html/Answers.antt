use Rattle.std.proofs.Common.{rules}
use Rattle.tl_table.proofs.SoundBy.{sound_by}
use Rattle.tl_html.specs.Readable.{IsHtmlPage}
use Rattle.tl_html.proofs.table.html.Goals as goal

pub returns-clause-reads_back : goal.returns-clause-reads_back
returns-clause-reads_back c =
    let page : IsHtmlPage c.args.table.now c.args.layout.now c.into_bytes.result = search rules in
    c.page_reads_back.ensures c.args.table.now c.args.layout.now c.into_bytes.result page

pub returns-clause-reads_formed : goal.returns-clause-reads_formed
returns-clause-reads_formed c =
    let page : IsHtmlPage c.args.table.now c.args.layout.now c.into_bytes.result = search rules in
    λ breaking node tree becomes columns.
    let formed = c.formed_tables_are_sound.ensures breaking node c.args.table.now tree becomes in
    c.page_reads_back.ensures c.args.table.now c.args.layout.now c.into_bytes.result page
    (sound_by breaking c.args.table.now formed.0 formed.1) columns
