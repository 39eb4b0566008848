use Rattle.std.specs.Cmp.Lexicographic.{bytes_decides}
use Rattle.picky_der_core.proofs.laws.equality.bytes.Goals as goal

pub returns-clause-byte_buf : goal.returns-clause-byte_buf
returns-clause-byte_buf g c x y = bytes_decides x.0.items y.0.items

pub returns-clause-bytes : goal.returns-clause-bytes
returns-clause-bytes g c x y = bytes_decides x.0.now y.0.now

pub returns-clause-tagged : goal.returns-clause-tagged
returns-clause-tagged g c x y = bytes_decides x.0.items y.0.items
