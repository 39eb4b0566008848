use Rattle.std.proofs.Common.{rules, string_bytes}
use Rattle.der_read.proofs.printed.read_message.Goals as goal

pub returns : goal.returns
returns c = record {
  verdict = c.in_ok-verdict.verdict;
  is = c.in_ok-verdict.ensures;
  line = string_bytes c.in_ok-line.line;
  is_line = c.in_ok-line.ensures;
  text = search rules;
  status = search rules;
}
