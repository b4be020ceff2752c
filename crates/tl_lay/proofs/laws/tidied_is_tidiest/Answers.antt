use Rattle.tl_lay.proofs.TidiestPages.{tidied_is_tidiest}
use Rattle.tl_lay.proofs.laws.tidied_is_tidiest.Goals as goal

pub returns : goal.returns
returns c = tidied_is_tidiest (record {
  met = c.met_is_slimmest.ensures;
  no_less = c.slimmest_is_no_less.ensures;
  has = c.kept_has_slimmest.ensures;
  closes = c.budget_closes.ensures;
  counts = c.counts_exist.ensures;
  rise = c.counts_rise.ensures;
  rise_all = c.all_counts_rise.ensures;
})
