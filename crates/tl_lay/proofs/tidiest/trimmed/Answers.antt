-- The certificate shows that the page is the lowest, and so is the narrowest page that is as low.
use Rattle.std.proofs.Common.{ℕ, sym, subst}
use Rattle.tl_narrow.specs.Slims.{IsSlim}
use Rattle.tl_form.specs.Valid.{IsValid}
use Rattle.tl_lay.proofs.Tidying.{first_least, first_low, first_searched, first_small, first_valid}
use Rattle.tl_lay.proofs.tidiest.trimmed.Goals as goal

pub slimmest_by-requires-clause-kept : goal.slimmest_by-requires-clause-kept
slimmest_by-requires-clause-kept g c = λ lifetimes outlives.
    first_low c.args.task.now c.args.given.now.table c.args.given.now.budget c.args.certificate c.args.height c.requires.usable c.requires.wide
    c.requires.found c.requires.lowest

pub tidy_end-requires-clause-lowest : goal.tidy_end-requires-clause-lowest
tidy_end-requires-clause-lowest g c =
    first_least c.args.task.now c.args.given.now.table c.args.given.now.budget c.args.certificate c.args.height c.requires.usable c.requires.wide
    c.requires.found c.requires.lowest

pub tidy_end-requires-clause-slim : goal.tidy_end-requires-clause-slim
tidy_end-requires-clause-slim g c =
    subst (λ (b : ℕ). IsSlim c.args.given.now.table c.args.task.now.style c.args.height c.args.task.now.width b c.in_ok-slim.slim)
    (sym c.requires.usable.of_task) c.in_ok-slim.ensures.slim.tells

pub evidence_of-requires-clause-lines : goal.evidence_of-requires-clause-lines
evidence_of-requires-clause-lines g c =
    first_small c.args.task.now c.args.given.now.table c.args.given.now.budget c.args.certificate c.args.height c.requires.usable c.requires.wide
    c.requires.found c.requires.lowest

pub returns : goal.returns
returns g c =
    let task = c.args.task.now in
    let table = c.args.given.now.table in
    record {
      height = c.args.height;
      first = c.args.certificate;
      lowest = record {
        claimed = c.requires.lowest;
        valid = subst (λ (b : ℕ). IsValid table task.style task.width b c.args.certificate) c.requires.usable.of_task
            (first_valid task table c.args.given.now.budget c.args.certificate c.args.height c.requires.usable c.requires.wide
            c.requires.found c.requires.lowest);
      };
      searched = first_searched task table c.args.given.now.budget c.args.certificate c.requires.usable c.requires.found;
      slim = c.in_ok-slim.slim;
      found = c.in_ok-slim.ensures.slim;
      some = c.in_ok-slim.ensures.handed;
      told = c.in_ok-end.end.slim;
      ending = c.in_ok-end.end.ending;
      ends = c.in_ok-end.ensures.ends;
      tells = subst (λ (b : ℕ). IsSlim table task.style c.args.height task.width b c.in_ok-end.end.slim) c.requires.usable.of_task
          c.in_ok-end.ensures.slim;
      evidence = c.in_ok-evidence.evidence;
      is_evidence = c.in_ok-evidence.ensures;
      so = c.tidy_answer.ensures;
    }
