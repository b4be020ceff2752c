use Rattle.std.proofs.Common.{◌≡◌, ◌<◌, sym, ◌∙◌, subst}
use Rattle.std.proofs.lemmas.Result.{IfOk-weaker}
use Rattle.tl_problem.specs.Zones.{IsZone}
use Rattle.tl_cert.specs.Traces.{zone_of}
use Rattle.tl_rounds.specs.Book.{problem_of}
use Rattle.tl_rounds.proofs.Items.{book-zone, zone-item, zones-there}
use Rattle.tl_rounds.proofs.book.Book.zone.Goals as goal

pub index-requires : goal.index-requires
index-requires c =
    let book = c.args.self.now in
    let zones = c.in_ok-zones.zones in
    subst (λ n. c.args.z < n) (sym zones.ok.0)
    (zones-there (problem_of book) book.trace zones.items c.in_ok-zones.ensures c.args.z c.requires.there)

pub returns-clause-zone : goal.returns-clause-zone
returns-clause-zone c =
    let book = c.args.self.now in
    let is = zone-item (problem_of book) book.trace c.in_ok-zones.zones.items c.in_ok-zones.ensures c.args.z c.index.result.now
    c.requires.there c.index.ensures in
    IfOk-weaker c.copy_of.result (λ copy. copy ≡ c.index.result.now)
    (λ zone. zone ≡ zone_of (problem_of book) book.trace c.args.z) (λ copy same. same ∙ is) c.copy_of.ensures

pub returns-clause-of : goal.returns-clause-of
returns-clause-of c =
    let book = c.args.self.now in
    let is = zone-item (problem_of book) book.trace c.in_ok-zones.zones.items c.in_ok-zones.ensures c.args.z c.index.result.now
    c.requires.there c.index.ensures in
    IfOk-weaker c.copy_of.result (λ copy. copy ≡ c.index.result.now) (IsZone (problem_of book))
    (λ copy same. subst (IsZone (problem_of book)) (sym (same ∙ is)) (book-zone book c.requires.book c.args.z c.requires.there))
    c.copy_of.ensures
