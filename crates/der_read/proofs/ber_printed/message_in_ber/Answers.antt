use Rattle.std.proofs.Common.{subst, string_bytes, rules}
use Rattle.der_read.specs.BerPrinted.{IsBerLine}
use Rattle.der_read.proofs.ber_printed.message_in_ber.Goals as goal

pub returns : goal.returns
returns c = record {
  ber = c.requires;
  line = string_bytes c.in_ok-line.line;
  is_line = subst
      (λ der. IsBerLine c.args.format c.args.file.now c.args.block c.args.bytes.now der
      (string_bytes c.in_ok-line.line))
      c.deref.ensures.value c.in_ok-line.ensures;
  is = search rules;
}
