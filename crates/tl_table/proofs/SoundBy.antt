-- A sound table is sound by each breaking by which a file can spell it.
use Rattle.tl_base.specs.declared.breaking.Breaking.{Breaking}
use Rattle.tl_table.specs.declared.cell.Table.{Table}
use Rattle.tl_table.specs.Sound.{IsSound}
use Rattle.tl_table.specs.Spellable.{IsSpellable}

abbrev pub sound_by : (breaking : Breaking) (table : Table) → IsSound table → IsSpellable breaking table → IsSound table
sound_by breaking table sound spelt = record {
  depth = sound.depth;
  shallow = sound.shallow;
  sound = sound.sound;
  few_tables = sound.few_tables;
  size = sound.size;
  breaking = breaking;
  spellable = spelt;
}
