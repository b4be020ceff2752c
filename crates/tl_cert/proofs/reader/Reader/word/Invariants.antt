use Rattle.std.proofs.Common.{◌≡◌, drop}
use Rattle.tl_cert.specs.inner.reading.Readings.{word_at}
use Rattle.tl_cert.proofs.reader.Reader.word.Given as goal

-- the rest of the word in the rest of the text
abbrev pub invariant-loop-byte : goal.invariant-loop-byte
invariant-loop-byte l = word_at (drop l.byte-index l.word) l.self.rest.now ≡ word_at l.word l.fn.self.rest.now
