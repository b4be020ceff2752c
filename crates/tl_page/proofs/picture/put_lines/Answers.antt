-- One more line is put after those so far.
use Rattle.std.proofs.Common.{◌≡◌, ◌++◌, ◌∷◌, [], ◌+◌, ◌∙◌, map, append_assoc, ap, sym, arith}
use Rattle.std.specs.List.{range_with_len}
use Rattle.tl_page.specs.Pictures.{picture_line}
use Rattle.tl_page.specs.inner.Drawing.{shown}
use Rattle.tl_page.proofs.Ranges.{map-range_more}
use Rattle.tl_page.proofs.picture.put_lines.Goals as goal

pub loop-k-preserved : goal.loop-k-preserved
loop-k-preserved c =
    let line = picture_line (shown c.args.drawing.now) c.args.down.now in
    let sofar = map line (range_with_len c.args.down.now.from c.loop-k.k) in
    let place : c.from-from.result + c.from.result ≡ c.args.down.now.from + c.loop-k.k =
    omega (arith, c.from-from.ensures, c.from.ensures) in
    c.in_ok-push.ensures.ok
    ∙ ap (λ page. page ++ c.in_ok-line.line ∷ []) c.loop-k.invariant
    ∙ append_assoc c.args.page.now sofar (c.in_ok-line.line ∷ [])
    ∙ ap (λ one. c.args.page.now ++ (sofar ++ one ∷ [])) (c.in_ok-line.ensures ∙ ap line place)
    ∙ ap (λ all. c.args.page.now ++ all) (sym (map-range_more line c.args.down.now.from c.loop-k.k))
