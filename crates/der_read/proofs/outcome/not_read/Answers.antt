use Rattle.std.proofs.Common.{◌∙◌, ap}
use Rattle.der_read.proofs.Examined.{more_left, none_at_front}
use Rattle.der_read.proofs.outcome.not_read.Goals as goal

pub returns : goal.returns
returns c = record {
  certificate = c.in_default.field-0;
  front = c.in_default.ensures.ok;
  more = more_left c.requires.refused c.requires.memory c.in_default.ensures.ok;
}

pub returns-in-Err : goal.returns-in-Err
returns-in-Err c = record {
  refused = c.requires.refused;
  none = none_at_front c.requires.refused c.requires.memory c.in-Err.ensures.err
      (λ e. c.in_ok-reported.ensures.1 (ap (λ r. r.error) c.in_ok-reported.ensures.0 ∙ e));
  memory = c.requires.memory;
}
