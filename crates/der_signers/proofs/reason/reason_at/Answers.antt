use Rattle.std.proofs.Common.{refl}
use Rattle.der_signers.proofs.reason.reason_at.Goals as goal

pub returns : goal.returns
returns c = record {
  found = c.in_ok-found.found;
  is_found = c.in_ok-found.ensures;
  offset = refl;
  one_line =
      c.into_string-text.ensures.one_line;
}
