use Rattle.tl_solve.proofs.PieceLaws.{piece-nothing_lower}
use Rattle.tl_solve.proofs.laws.pieces_leave_nothing_lower.Goals as goal

pub returns : goal.returns
returns c = λ problem sound same zone is given quota best trace piece widths heights inside layout.
    piece-nothing_lower problem sound zone is same given quota best trace piece widths heights inside layout
