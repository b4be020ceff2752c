use Rattle.tl_cert.proofs.LogLaws.{log-sound}
use Rattle.tl_cert.proofs.laws.good_logs_are_sound.Goals as goal

pub returns : goal.returns
returns c = λ problem sound trace log lower good widths heights layout. log-sound problem sound trace log lower good widths
    heights layout
