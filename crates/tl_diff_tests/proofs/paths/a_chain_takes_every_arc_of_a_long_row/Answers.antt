-- The slice that is passed has the arcs of the row.
use Rattle.tl_diff_tests.proofs.paths.a_chain_takes_every_arc_of_a_long_row.Goals as goal

pub taken-requires-clause-in_order : goal.taken-requires-clause-in_order
taken-requires-clause-in_order g c = rw c.as_slice.ensures.value c.in_ok-arcs.ensures.in_order

pub taken-requires-clause-forward : goal.taken-requires-clause-forward
taken-requires-clause-forward g c = rw c.as_slice.ensures.value c.in_ok-arcs.ensures.forward
