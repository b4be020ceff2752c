use Rattle.tl_table.proofs.TableNumbers.{one_of_number, table_of_number}
use Rattle.tl_table.proofs.laws.each_number_is_of_one_table.Goals as goal

pub returns : goal.returns
returns c = λ table sound. (
  (λ n from upto. table_of_number table n sound from upto),
  (λ one other is are same. one_of_number table one other sound is are same),
)
