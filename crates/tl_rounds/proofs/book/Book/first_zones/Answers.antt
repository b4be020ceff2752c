use Rattle.std.proofs.Common.{◌≡◌, ◌<◌, get_or, length, take, sym, ap, ◌∙◌, subst, arith}
use Rattle.std.specs.List.{All}
use Rattle.std.proofs.lemmas.List.Elements.{All-map, All-take}
use Rattle.tl_problem.specs.Zones.{IsZone}
use Rattle.tl_cert.specs.Traces.{zone_of}
use Rattle.tl_rounds.specs.Book.{problem_of}
use Rattle.tl_rounds.proofs.Items.{book-zone, zone-item, zones-next, zones-there}
use Rattle.tl_rounds.proofs.book.Book.first_zones.Goals as goal

pub index-requires : goal.index-requires
index-requires c =
    let book = c.args.self.now in
    let all = c.in_ok-all.all in
    let place = c.loop-place.place in
    let within : place < length book.lefts = omega (arith, c.loop-place-test.true, c.requires.there) in
    let stands = c.requires.book.covering.left.standing place 0 within in
    subst (λ lefts. get_or lefts place 0 < all.len) (sym c.as_slice-lefts.ensures)
    (subst (λ n. get_or book.lefts place 0 < n) (sym all.ok.0)
    (zones-there (problem_of book) book.trace all.items c.in_ok-all.ensures (get_or book.lefts place 0) stands.there))

pub loop-place-preserved : goal.loop-place-preserved
loop-place-preserved c =
    let book = c.args.self.now in
    let place = c.loop-place.place in
    let within : place < length book.lefts = omega (arith, c.loop-place-test.true, c.requires.there) in
    let stands = c.requires.book.covering.left.standing place 0 within in
    let at : c.index.result.now ≡ get_or c.in_ok-all.all.items (get_or book.lefts place 0) c.index.result.now =
    c.index.ensures ∙ ap (λ lefts. get_or c.in_ok-all.all.items (get_or lefts place 0) c.index.result.now)
    c.as_slice-lefts.ensures in
    let is = zone-item (problem_of book) book.trace c.in_ok-all.all.items c.in_ok-all.ensures (get_or book.lefts place 0)
    c.index.result.now stands.there at in
    zones-next (zone_of (problem_of book) book.trace) book.lefts place c.loop-place.zones.items c.push.new.self.items
    c.in_ok-copy_of.field-0 within c.loop-place.invariant (c.in_ok-copy_of.ensures ∙ is) c.in_ok-push.ensures.items

pub returns-clause-of : goal.returns-clause-of
returns-clause-of c =
    let book = c.args.self.now in
    let f = zone_of (problem_of book) book.trace in
    let lefts = take c.loop-place.place book.lefts in
    subst (All (IsZone (problem_of book))) (sym c.loop-place.invariant)
    (All-map (IsZone (problem_of book)) f lefts
    (All-take (λ z. IsZone (problem_of book) (f z)) c.loop-place.place book.lefts
    (λ i d within. book-zone book c.requires.book (get_or book.lefts i d)
    (c.requires.book.covering.left.standing i d within).there)))
