use Rattle.tl_text.proofs.Steadiness.{broken_above-steady}
use Rattle.tl_text.proofs.laws.numbers_between_units_break_the_same.Goals as goal

pub returns : goal.returns
returns c = broken_above-steady
