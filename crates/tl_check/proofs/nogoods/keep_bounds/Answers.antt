-- One bound more.
use Rattle.std.proofs.Common.{List}
use Rattle.std.proofs.Common.{[], take, sym, ◌∙◌, subst}
use Rattle.std.proofs.lemmas.List.{take_more}
use Rattle.tl_cert.specs.declared.log.Bound.{Bound}
use Rattle.tl_cert.specs.declared.log.Side.TheVariants.{Most}
use Rattle.tl_check.specs.Matrices.{Describes}
use Rattle.tl_check.proofs.Leaving.{Describes-met}
use Rattle.tl_check.proofs.nogoods.keep_bounds.Goals as goal

pub keep_met-requires-clause-keeps : goal.keep_met-requires-clause-keeps
keep_met-requires-clause-keeps c = c.bounds.invariant.describes.keeps

pub bounds-preserved : goal.bounds-preserved
bounds-preserved c =
    let p = c.args.problem.now in
    let bounds = c.args.bounds.now in
    let i = c.bounds.bound-index in
    let more = take_more bounds i (record { span = 0; side = Most; width = 0 }) c.bounds-test.true in
    record {
      describes = subst (λ (l : List Bound). Describes p l [] c.keep_met.new.matrix.bounds) (sym more)
          (Describes-met p (take i bounds) [] c.bounds.matrix c.keep_met.new.matrix _ c.bounds.invariant.describes
          c.keep_met.ensures);
      marks = record {
        marks = c.keep_met.ensures.marks ∙ c.bounds.invariant.marks.marks;
        held = c.keep_met.ensures.held ∙ c.bounds.invariant.marks.held;
      };
    }
