-- The files so far are those of the first names and texts.
use Rattle.std.proofs.Common.{◌≡◌, ◌≤◌, length, map, min, string_bytes, take}
use Rattle.tl_program.specs.Change.{as_stored}
use Rattle.tl_program.specs.Deliveries.{files_of}
use Rattle.tl_program.proofs.answers.files_of.Given as goal

abbrev pub invariant-loop-place : goal.invariant-loop-place
invariant-loop-place l = record {
  within : l.place ≤ min (length l.names) (length l.texts);
  made : map as_stored l.files.items ≡ files_of (take l.place (map string_bytes l.names)) (take l.place l.texts);
}
