-- The text of each number is a table that fits sixty columns.
use Rattle.std.proofs.Common.{◌≡◌, ◌∙◌, List, sym, subst, arith}
use Rattle.tl_token.specs.declared.token.Token.{Token}
use Rattle.tl_tree.specs.Sound.{IsSound as IsSoundTree}
use Rattle.tl_tree.specs.Spelling.{SpellsTree, IsWithinLimits}
use Rattle.tl_tree.specs.Tags.{kinds}
use Rattle.tl_table.specs.Sound.{IsSound}
use Rattle.tl_table.proofs.SoundFormed.{becomes_sound}
use Rattle.tl_table.specs.declared.cell.Table.{Table}
use Rattle.tl_base.specs.declared.breaking.Breaking.TheVariants.{Words}
use Rattle.tl_demo.specs.Demo.{demo_rows, demo_text_of}
use Rattle.tl_demo.specs.Fits.{DemoFits}
use Rattle.tl_demo.proofs.DrawnRows.{demo_rows_drawn}
use Rattle.tl_demo.proofs.TableItems.{demo_items, demo_length, demo_tokens}
use Rattle.tl_demo.proofs.TableTree.{kinds_are, table_kinds, table_kinds_are, table_node, table_spelt, table_within}
use Rattle.tl_demo.proofs.TableSound.{table_sound}
use Rattle.tl_demo.proofs.TableFormed.{table_formed}
use Rattle.tl_demo.proofs.TableFits.{table_fits}

pub demo_fits : DemoFits
demo_fits number small_number =
    let bytes = demo_text_of number in
    let rows = demo_rows number in
    let drawn = demo_rows_drawn number in
    let short = demo_length number in
    let cut = demo_tokens number in
    let tokens : List Token = cut.0 in
    let read : kinds tokens ≡ table_kinds rows = kinds_are tokens (demo_items number) cut.1.1 ∙ table_kinds_are rows in
    let within : IsWithinLimits (kinds tokens) = subst IsWithinLimits (sym read) (table_within rows) in
    let tree : SpellsTree tokens (table_node rows) = table_spelt tokens rows read (omega (arith, drawn.1)) drawn.0 in
    let sound : IsSoundTree (table_node rows) = table_sound rows drawn.0 (omega (arith, drawn.1)) in
    let formed = table_formed rows drawn.0 (omega (arith, drawn.1)) sound.sound in
    let table : Table = formed.0 in
    let is_sound : IsSound table = becomes_sound Words (table_node rows) table sound formed.1.becomes in
    let fits = table_fits table is_sound formed.1.narrow formed.1.cells in (
      table,
      record {
        short = short;
        spelt = record { tokens = tokens; cut = cut.1.0; node = table_node rows; read = tree; formed = formed.1.becomes };
        within = within;
        height = fits.0;
        layout = fits.1;
        fits = fits.2;
      },
    )
