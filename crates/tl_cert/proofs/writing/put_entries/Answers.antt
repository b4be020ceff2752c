use Rattle.std.proofs.Common.{[], ◌∷◌}
use Rattle.tl_base.specs.declared.chain.Entry.{Entry}
use Rattle.tl_cert.specs.Pieces.{character}
use Rattle.tl_cert.specs.Text.{space, entry_pieces}
use Rattle.tl_cert.proofs.Appending.{written_at, twice}
use Rattle.tl_cert.proofs.writing.put_entries.Goals as goal

pub entries-preserved : goal.entries-preserved
entries-preserved c =
    written_at (λ (entry : Entry). character space ∷ entry_pieces entry)
    c.args.entries.now c.entries.entry-index _ c.args.out.now c.entries.out
    c.put_entry.new.out c.entries-test.true
    c.entries.invariant (twice _ _ _ (32 ∷ []) _ c.in_ok-push.ensures.ok c.in_ok-put_entry.ensures)
