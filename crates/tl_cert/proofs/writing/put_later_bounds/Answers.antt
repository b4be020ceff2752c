use Rattle.std.proofs.Common.{[], ◌∷◌}
use Rattle.tl_cert.specs.declared.log.Bound.{Bound}
use Rattle.tl_cert.specs.Pieces.{character}
use Rattle.tl_cert.specs.Text.{space, bound_pieces}
use Rattle.tl_cert.proofs.Appending.{written_at, twice}
use Rattle.tl_cert.proofs.writing.put_later_bounds.Goals as goal

pub bounds-preserved : goal.bounds-preserved
bounds-preserved c =
    written_at (λ (bound : Bound). character space ∷ bound_pieces bound)
    c.args.bounds.now c.bounds.bound-index _ c.args.out.now c.bounds.out
    c.put_bound.new.out c.bounds-test.true
    c.bounds.invariant (twice _ _ _ (32 ∷ []) _ c.in_ok-push.ensures.ok c.in_ok-put_bound.ensures)
