-- A run is complete by how it ends.
use Rattle.std.proofs.Common.{◌≡◌, sym, subst, ℕ, List, map, string_bytes}
use Rattle.tl_program.specs.Accepts.{AcceptsSlim, AcceptsTidy}
use Rattle.tl_program.specs.Alike.{ChecksAlike, LowestAlike, RefusalsAlike, TidyAlike}
use Rattle.tl_program.specs.Answered.{LaysFile, NarrowsFile, TidiesFile}
use Rattle.tl_program.specs.Change.{Change, between}
use Rattle.tl_program.specs.Complete.{AcceptsLaid, FindsTidy, FindsWidth, IsAcceptedSo, IsComplete, IsRefusedSo, IsRejectedSo}
use Rattle.tl_program.specs.Complete.{RefusesSlim, RefusesTidy}
use Rattle.tl_program.specs.ReadFaults.{IsReadFault}
use Rattle.tl_program.proofs.Accepting.{accepts_laid}
use Rattle.tl_program.proofs.AcceptingStored.{accepts_slim, accepts_tidy}
use Rattle.tl_program.proofs.Alike.{checks_alike, lowest_alike, refusals_alike}
use Rattle.tl_program.proofs.Checked.{accepted_so, rejected_so}
use Rattle.tl_program.proofs.Delivering.{lays_file, narrows_file, tidies_file}
use Rattle.tl_program.proofs.Statuses.{complete, finds, finds_tidy, refused_slim, refused_so, refused_tidy}
use Rattle.tl_program.proofs.TidyAlike.{tidy_alike}
use Rattle.tl_program.proofs.running.run.Goals as goal

-- what holds of a status holds of its number
numbered : (Says : List (List ℕ) → Change → ℕ → Type 0) (words : List (List ℕ)) (change : Change) (n status : ℕ) → n ≡ status →
    Says words change status → Says words change n
numbered Says words change n status same = subst (Says words change) (sym same)

pub returns-clause-lays : goal.returns-clause-lays
returns-clause-lays g c =
    let words = map string_bytes c.args.words.now in
    let change = between g.D.Desk c.args.desk.now c.carry_out.new.desk in
    numbered LaysFile words change _ _ c.number.ensures (lays_file c.laid_is_lowest.ensures words change _ c.carry_out.ensures.ends)

pub returns-clause-narrows : goal.returns-clause-narrows
returns-clause-narrows g c =
    let words = map string_bytes c.args.words.now in
    let change = between g.D.Desk c.args.desk.now c.carry_out.new.desk in
    numbered NarrowsFile words change _ _ c.number.ensures
    (narrows_file c.narrowed_is_narrowest.ensures words change _ c.carry_out.ensures.ends)

pub returns-clause-tidies : goal.returns-clause-tidies
returns-clause-tidies g c =
    let words = map string_bytes c.args.words.now in
    let change = between g.D.Desk c.args.desk.now c.carry_out.new.desk in
    numbered TidiesFile words change _ _ c.number.ensures
    (tidies_file c.tidied_is_tidiest.ensures words change _ c.carry_out.ensures.ends)

pub returns-clause-finds : goal.returns-clause-finds
returns-clause-finds g c =
    let words = map string_bytes c.args.words.now in
    let change = between g.D.Desk c.args.desk.now c.carry_out.new.desk in
    numbered FindsWidth words change _ _ c.number.ensures (finds words change _ c.carry_out.ensures.ends)

pub returns-clause-refuses_slim : goal.returns-clause-refuses_slim
returns-clause-refuses_slim g c =
    let words = map string_bytes c.args.words.now in
    let change = between g.D.Desk c.args.desk.now c.carry_out.new.desk in
    numbered RefusesSlim words change _ _ c.number.ensures (refused_slim words change _ c.carry_out.ensures.ends)

pub returns-clause-finds_tidy : goal.returns-clause-finds_tidy
returns-clause-finds_tidy g c =
    let words = map string_bytes c.args.words.now in
    let change = between g.D.Desk c.args.desk.now c.carry_out.new.desk in
    numbered FindsTidy words change _ _ c.number.ensures (finds_tidy words change _ c.carry_out.ensures.ends)

pub returns-clause-refuses_tidy : goal.returns-clause-refuses_tidy
returns-clause-refuses_tidy g c =
    let words = map string_bytes c.args.words.now in
    let change = between g.D.Desk c.args.desk.now c.carry_out.new.desk in
    numbered RefusesTidy words change _ _ c.number.ensures (refused_tidy words change _ c.carry_out.ensures.ends)

pub returns-clause-accepts_tidy : goal.returns-clause-accepts_tidy
returns-clause-accepts_tidy g c =
    let words = map string_bytes c.args.words.now in
    let change = between g.D.Desk c.args.desk.now c.carry_out.new.desk in
    numbered AcceptsTidy words change _ _ c.number.ensures (accepts_tidy words change _ c.carry_out.ensures.ends)

pub returns-clause-accepts_slim : goal.returns-clause-accepts_slim
returns-clause-accepts_slim g c =
    let words = map string_bytes c.args.words.now in
    let change = between g.D.Desk c.args.desk.now c.carry_out.new.desk in
    numbered AcceptsSlim words change _ _ c.number.ensures (accepts_slim words change _ c.carry_out.ensures.ends)

pub returns-clause-complete : goal.returns-clause-complete
returns-clause-complete g c = numbered IsComplete _ _ _ _ c.number.ensures (complete _ _ _ c.carry_out.ensures.ends)

pub returns-clause-refused : goal.returns-clause-refused
returns-clause-refused g c = numbered IsRefusedSo _ _ _ _ c.number.ensures (refused_so _ _ _ c.carry_out.ensures.ends)

pub returns-clause-accepted : goal.returns-clause-accepted
returns-clause-accepted g c = numbered IsAcceptedSo _ _ _ _ c.number.ensures (accepted_so _ _ _ c.carry_out.ensures.ends)

pub returns-clause-rejected : goal.returns-clause-rejected
returns-clause-rejected g c = numbered IsRejectedSo _ _ _ _ c.number.ensures (rejected_so _ _ _ c.carry_out.ensures.ends)

pub returns-clause-accepts_laid : goal.returns-clause-accepts_laid
returns-clause-accepts_laid g c = numbered AcceptsLaid _ _ _ _ c.number.ensures (accepts_laid _ _ _ c.carry_out.ensures.ends)

pub returns-clause-checks_alike : goal.returns-clause-checks_alike
returns-clause-checks_alike g c = numbered ChecksAlike _ _ _ _ c.number.ensures (checks_alike _ _ _ c.carry_out.ensures.ends)

pub returns-clause-refusals_alike : goal.returns-clause-refusals_alike
returns-clause-refusals_alike g c =
    numbered RefusalsAlike _ _ _ _ c.number.ensures (refusals_alike _ _ _ c.carry_out.ensures.ends)

pub returns-clause-lowest_alike : goal.returns-clause-lowest_alike
returns-clause-lowest_alike g c =
    let words = map string_bytes c.args.words.now in
    let change = between g.D.Desk c.args.desk.now c.carry_out.new.desk in
    numbered LowestAlike words change _ _ c.number.ensures (lowest_alike words change _ c.carry_out.ensures.ends)

pub returns-clause-tidy_alike : goal.returns-clause-tidy_alike
returns-clause-tidy_alike g c =
    let words = map string_bytes c.args.words.now in
    let change = between g.D.Desk c.args.desk.now c.carry_out.new.desk in
    numbered TidyAlike words change _ _ c.number.ensures
    (tidy_alike c.met_is_slimmest.ensures words change _ c.carry_out.ensures.ends)

pub returns-clause-read_fault : goal.returns-clause-read_fault
returns-clause-read_fault g c =
    let words = map string_bytes c.args.words.now in
    subst (IsReadFault g.D.Desk c.args.desk.now c.carry_out.new.desk words) (sym c.number.ensures) c.carry_out.ensures.read_fault
