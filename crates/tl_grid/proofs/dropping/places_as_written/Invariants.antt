use Rattle.std.proofs.Common.{◌≡◌, length, take, replicate}
use Rattle.tl_grid.specs.inner.Places.{nowhere, put_places}
use Rattle.tl_grid.proofs.dropping.places_as_written.Given as goal

-- the places of the blocks up to here
abbrev pub invariant-loop-block : goal.invariant-loop-block
invariant-loop-block l = record {
  places : l.places.items ≡ put_places l.columns l.rows (replicate l.count nowhere) (take l.block-index l.blocks);
  count : length l.places.items ≡ l.count;
}
