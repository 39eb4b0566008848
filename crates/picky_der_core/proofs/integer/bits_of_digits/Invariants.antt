use Rattle.std.proofs.Common.{◌≡◌, ◌<◌, ◌^◌, take}
use Rattle.std.specs.Int.Digits.{number_from_digits}
use Rattle.picky_der_core.specs.Integer.{turned_if}
use Rattle.picky_der_core.proofs.integer.bits_of_digits.Given as goal

abbrev pub invariant-loop-byte : goal.invariant-loop-byte
invariant-loop-byte l = record {
  so_far : l.number ≡ number_from_digits 256 (turned_if l.is_turned (take l.byte-index l.bytes));
  below : l.number < 256 ^ l.byte-index;
}
