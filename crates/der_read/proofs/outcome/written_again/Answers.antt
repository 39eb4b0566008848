use Rattle.std.proofs.Common.{sym, arith}
use Rattle.der_read.proofs.Examined.{whole_writable}
use Rattle.der_read.proofs.outcome.written_again.Goals as goal

pub is_written_as-requires : goal.is_written_as-requires
is_written_as-requires c = whole_writable c.requires (omega arith)

pub returns : goal.returns
returns c = record {
  certificate = c.requires;
  same = c.in_ok-is_same.ensures.1 (sym c.requires.is.encoding);
}
