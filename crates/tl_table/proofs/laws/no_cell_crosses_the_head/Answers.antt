use Rattle.tl_table.proofs.HeadLaws.{caption-above, head-end-le, head-uncrossed}
use Rattle.tl_table.proofs.laws.no_cell_crosses_the_head.Goals as goal

pub returns : goal.returns
returns c = λ table sound. (head-end-le table, caption-above table sound, head-uncrossed table)
