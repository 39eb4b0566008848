use Rattle.std.proofs.Common.{rules}
use Rattle.der_fixtures.proofs.Buffers.{first_written}
use Rattle.der_fixtures.proofs.reader.SlowReaderRead.read.Goals as goal

pub returns-clause-bytes : goal.returns-clause-bytes
returns-clause-bytes c = grind (rules, first_written)
