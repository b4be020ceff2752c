use Rattle.std.proofs.Common.{ℕ, List, [], ◌∷◌, ◌++◌, sym, ap, ◌∙◌}
use Rattle.std.proofs.Common.{get_or}
use Rattle.std.proofs.lemmas.List.{append-nil}
use Rattle.tl_cert.specs.Pieces.{numeral}
use Rattle.tl_cert.specs.Text.{fire_pieces}
use Rattle.tl_cert.proofs.Appending.{written_at, twice}
use Rattle.tl_cert.proofs.writing.put_fires.Goals as goal

pub fires-preserved : goal.fires-preserved
fires-preserved c =
    let line = get_or c.args.fires.now c.fires.line-index 0 in
    written_at fire_pieces c.args.fires.now c.fires.line-index 0 c.args.out.now c.fires.out c.put_number.new.out
    c.fires-test.true c.fires.invariant
    (twice _ _ _ (32 ∷ 64 ∷ []) _ c.in_ok-extend_from_slice.ensures.ok c.in_ok-put_number.ensures
    ∙ ap (λ (n : ℕ). c.fires.out ++ (32 ∷ 64 ∷ numeral n)) c.from.ensures ∙ ap (λ (t : List ℕ). c.fires.out ++ (32 ∷ 64 ∷ t))
    (sym (append-nil (numeral line))))
