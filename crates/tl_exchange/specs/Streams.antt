-- What an exchange over a reader and a writer holds.
use Rattle.std.specs.Prelude.{ℕ}
use Rattle.tl_exchange.specs.declared.streams.Streams.{Streams}

-- the reader
abbrev pub reader_of : {R W : Type 0} → Streams R W → R
reader_of streams = streams.reader

-- the writer
abbrev pub writer_of : {R W : Type 0} → Streams R W → W
writer_of streams = streams.writer

-- how many calls of `receive` failed
abbrev pub read_faults_of : {R W : Type 0} → Streams R W → ℕ
read_faults_of streams = streams.read_faults

-- how many calls of `send` failed
abbrev pub write_faults_of : {R W : Type 0} → Streams R W → ℕ
write_faults_of streams = streams.write_faults
