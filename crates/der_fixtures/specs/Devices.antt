-- What contracts see of the readers and writers.
use Rattle.std.specs.Prelude.{ℕ, List}
use Rattle.der_fixtures.specs.declared.reader.SlowReader.{SlowReader}
use Rattle.der_fixtures.specs.declared.reader.FailingReader.{FailingReader}
use Rattle.der_fixtures.specs.declared.writer.SlowWriter.{SlowWriter}
use Rattle.der_fixtures.specs.declared.writer.FailingWriter.{FailingWriter}

-- the bytes that are still to be given
abbrev pub left_of : SlowReader → List ℕ
left_of reader = reader.rest.now

-- how many bytes there were at first
abbrev pub total_of : SlowReader → ℕ
total_of reader = reader.total

-- the reader that gives the bytes, where no call fails
abbrev pub inner_of : FailingReader → SlowReader
inner_of reader = reader.reader

-- the bytes that were taken
abbrev pub taken_by : SlowWriter → List ℕ
taken_by writer = writer.taken.items

-- the writer that takes the bytes, where no call is refused
abbrev pub writer_of : FailingWriter → SlowWriter
writer_of writer = writer.writer
