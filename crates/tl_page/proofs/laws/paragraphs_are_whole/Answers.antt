use Rattle.tl_page.proofs.laws.paragraphs_are_whole.Goals as goal

pub returns : goal.returns
returns c = λ w paragraph lines are. (are.0, are.1.cutting, are.2)
