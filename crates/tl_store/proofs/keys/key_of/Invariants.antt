use Rattle.std.proofs.Common.{◌≤◌, length, take}
use Rattle.std.specs.List.{AllPairs}
use Rattle.tl_store.specs.Stores.{BoundComesFirst, HaveSame}
use Rattle.tl_store.proofs.keys.key_of.Given as goal

abbrev pub invariant-bounds : goal.invariant-bounds
invariant-bounds l = record {
  sorted : AllPairs BoundComesFirst l.key.items;
  same : HaveSame (take l.bound-index l.bounds) l.key.items;
  no_more : length l.key.items ≤ l.bound-index;
}
