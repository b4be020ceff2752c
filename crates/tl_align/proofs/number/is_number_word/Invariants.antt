use Rattle.std.proofs.Common.{◌≡◌, drop}
use Rattle.tl_align.specs.Numbers.{is_number_word}
use Rattle.tl_align.proofs.NumberLemmas.{goes_on}
use Rattle.tl_align.proofs.number.is_number_word.Given as goal

abbrev pub invariant-loop-other : goal.invariant-loop-other
invariant-loop-other l = goes_on l.reading (drop l.other-index l.others) ≡ is_number_word l.units
