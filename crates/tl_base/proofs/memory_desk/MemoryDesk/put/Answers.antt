-- The map finds the file under its name, and under each other name what it found before.
use mathlib.Core.Path.{fun_ext}
use Rattle.std.proofs.Common.{ℕ, List, ap, ◌∙◌, Some}
use Rattle.std.specs.Prelude.{string_bytes, bytes_eq}
use Rattle.std.specs.Map.{update}
use Rattle.std.specs.BTreeMap.{get_by_text}
use Rattle.std.proofs.lemmas.Map.Text.{btree_map_updates_text}
use Rattle.tl_base.proofs.memory_desk.MemoryDesk.put.Goals as goal

pub returns-clause-ok : goal.returns-clause-ok
returns-clause-ok c = fun_ext (λ (q : List ℕ).
    let found = btree_map_updates_text (string_bytes c.in_ok-name.name) c.args.self.now.files c.insert.new.self
    (Some c.in_ok-bytes.bytes) c.in_ok-insert.ensures.updates q in
    found ∙ ap (λ name. update bytes_eq (get_by_text c.args.self.now.files) name (Some c.in_ok-bytes.bytes) q)
    c.in_ok-name.ensures.ok
    ∙ ap (λ bytes. update bytes_eq (get_by_text c.args.self.now.files) c.args.name.now (Some bytes) q) c.in_ok-bytes.ensures)
