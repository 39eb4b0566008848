use Rattle.std.proofs.Common.{◌≡◌, drop}
use Rattle.der_ber_types.specs.Message.{schema_in}
use Rattle.der_ber_types.proofs.message.schema_in.Given as goal

abbrev pub invariant-loop-known : goal.invariant-loop-known
invariant-loop-known l = schema_in (drop l.known-index l.types) l.identifier ≡ schema_in l.types l.identifier
