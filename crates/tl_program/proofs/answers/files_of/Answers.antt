-- Each place adds its file.
use Rattle.std.proofs.Common.{◌∙◌, inl, inr, ◌+◌, ◌<◌, [], length, map, string_bytes, sym, ap, arith, None}
use Rattle.std.proofs.lemmas.Bool.{cases_lt}
use Rattle.std.proofs.lemmas.List.{get_or-map, get_or_default, length-map}
use Rattle.tl_program.specs.Change.{as_stored}
use Rattle.tl_program.proofs.NamedFiles.{all_files, made_none, made_one}
use Rattle.tl_program.proofs.answers.files_of.Goals.{in-Some+in_ok-push, in_default}
use Rattle.tl_program.proofs.answers.files_of.Goals as goal

pub loop-place-preserved : goal.loop-place-preserved
loop-place-preserved c =
    let names = c.args.names.now in
    let texts = c.args.texts.now in
    let place = c.loop-place.place in
    let less = c.loop-place-test.true in
    let there : place < length (map string_bytes names) = omega (arith, less, length-map names string_bytes) in
    let is : place < length texts = omega (arith, less) in
    elim c.match-texts-place.branch [
      | in-Some+in_ok-push w ↦ record {
        within = omega (arith, less, c.min-place-end.ensures);
        made = ap (λ f. map as_stored f.items) w.files-is
            ∙ made_one (map string_bytes names) texts place there is c.loop-place.files.items c.loop-place.invariant.made
            w.push.new.self.items (record { name = w.as_str.result; bytes = w.as_slice.result })
            (string_bytes w.index-names-place.result) w.in-Some.bytes w.in_ok-push.ensures.items
            (get_or-map string_bytes names place w.index-names-place.result [] (omega (arith, less, c.min-place-end.ensures))
            ∙ ap string_bytes (sym w.index-names-place.is))
            (get_or_default texts place None c.index-texts-place.result is ∙ sym c.index-texts-place.is ∙ w.in-Some.is)
            w.as_str.ensures.value w.as_slice.ensures (place + 1) (omega arith);
      }
      | in_default w ↦ record {
        within = omega (arith, less, c.min-place-end.ensures);
        made = ap (λ f. map as_stored f.items) w.files-is
            ∙ made_none (map string_bytes names) texts place there is c.loop-place.files.items c.loop-place.invariant.made
            (get_or_default texts place None c.index-texts-place.result is ∙ sym c.index-texts-place.is ∙ w.in_default.is)
            (place + 1) (omega arith);
      }
    ]

pub returns : goal.returns
returns c =
    let place = c.loop-place.place in
    let past = c.loop-place-test.false in
    c.loop-place.invariant.made ∙ all_files (map string_bytes c.args.names.now) c.args.texts.now place
    (elim (cases_lt (length c.args.names.now) (length c.args.texts.now)) [
      | inl less ↦ inl (omega (arith, less, past, c.min-place-end.ensures, length-map c.args.names.now string_bytes))
      | inr more ↦ inr (omega (arith, more, past, c.min-place-end.ensures))
    ])
