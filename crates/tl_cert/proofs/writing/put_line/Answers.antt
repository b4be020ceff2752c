use Rattle.std.proofs.Common.{◌≡◌, ℕ, List, [], ◌∷◌, ◌++◌, sym, ap, ◌∙◌}
use Rattle.std.specs.List.{flat_map}
use Rattle.tl_cert.specs.Pieces.{spell}
use Rattle.tl_cert.specs.Text.{nogood_pieces, fire_pieces, end_word}
use Rattle.tl_cert.proofs.Appending.{twice, line_spelled}
use Rattle.tl_cert.proofs.writing.put_line.Goals as goal

pub returns : goal.returns
returns c =
    let out = c.args.out.now in
    let line = c.args.line.now in
    let nogood : List ℕ = spell (nogood_pieces line.nogood) in
    let fires : List ℕ = spell (flat_map fire_pieces line.fires) in
    let end : List ℕ = end_word line.end in
    let put : c.put_fires.new.out ≡ c.put_nogood.new.out ++ fires =
    c.in_ok-put_fires.ensures ∙ ap (λ (list : List ℕ). c.put_nogood.new.out ++ spell (flat_map fire_pieces list))
    c.as_slice-fires.ensures in
    twice out c.put_nogood.new.out c.put_end.new.out nogood (fires ++ ((32 ∷ []) ++ end)) c.in_ok-put_nogood.ensures
    (twice c.put_nogood.new.out c.put_fires.new.out c.put_end.new.out fires ((32 ∷ []) ++ end) put
    (twice c.put_fires.new.out c.push.new.self c.put_end.new.out (32 ∷ []) end c.in_ok-push.ensures.ok c.in_ok-put_end.ensures))
    ∙ ap (λ (t : List ℕ). out ++ t) (sym (line_spelled line))
