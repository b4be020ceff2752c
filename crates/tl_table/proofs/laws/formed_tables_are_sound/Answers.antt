use Rattle.tl_table.proofs.SoundFormed.{becomes_sound}
use Rattle.tl_table.proofs.SpellableTables.{becomes_spellable}
use Rattle.tl_table.proofs.laws.formed_tables_are_sound.Goals as goal

pub returns : goal.returns
returns c = λ breaking node table tree becomes.
    (becomes_sound breaking node table tree becomes, becomes_spellable breaking node table tree becomes)
