use Rattle.std.proofs.Common.{length, refl, ap, ◌∙◌}
use Rattle.tl_cert.specs.Appended.{appended}
use Rattle.tl_rounds.specs.Book.{lefts_after}
use Rattle.tl_rounds.proofs.Covered.{book-taken}
use Rattle.tl_rounds.proofs.book.Book.take.Goals as goal

pub returns-clause-book : goal.returns-clause-book
returns-clause-book c =
    let old = c.args.self.now in
    let z = c.args.z in
    let piece = c.args.piece in
    book-taken old _ z piece c.requires.book c.requires.left c.requires.piece c.requires.few (record {
      problem = refl;
      trace = c.in_ok-all.ensures ∙ ap (λ trace. appended trace z c.as_slice-4.result.now) c.as_slice-3.ensures ∙ ap
          (appended old.trace z) c.as_slice-4.ensures;
      lefts = c.in_ok-left.ensures ∙ ap (λ n. lefts_after z n c.as_slice.result.now c.as_slice-2.result.now) c.len-cuts.ensures
          ∙ ap (λ lefts. lefts_after z (length old.trace) lefts c.as_slice-2.result.now) c.as_slice.ensures ∙ ap
          (lefts_after z (length old.trace) old.lefts) c.as_slice-2.ensures;
      best = c.lower.ensures;
    })
