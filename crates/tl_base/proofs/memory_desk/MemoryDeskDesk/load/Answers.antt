-- Where the file was found, it is not missing.
use Rattle.std.proofs.Common.{ap}
use Rattle.tl_base.specs.MemoryDesk.{files_of}
use Rattle.tl_base.proofs.MemoryDesks.{found_is_there}
use Rattle.tl_base.proofs.memory_desk.MemoryDeskDesk.load.Goals as goal

pub returns-in_err-from_slice-clause-missing : goal.returns-in_err-from_slice-clause-missing
returns-in_err-from_slice-clause-missing c = λ missing. absurd (found_is_there
    (files_of c.args.self.now) (files_of c.next_call.new.self) c.args.name.now c.in-Some.file.now
    (ap files_of c.next_call.ensures.counted) c.in-Some.ensures.value missing)

pub returns-clause-missing : goal.returns-clause-missing
returns-clause-missing c = λ missing. absurd (found_is_there
    (files_of c.args.self.now) (files_of c.next_call.new.self) c.args.name.now c.in-Some.file.now
    (ap files_of c.next_call.ensures.counted) c.in-Some.ensures.value missing)
