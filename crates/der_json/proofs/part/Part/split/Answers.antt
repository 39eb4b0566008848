use Rattle.std.proofs.Common.{◌<◌, length, arith}
use Rattle.der_path.proofs.Elements.{sizes}
use Rattle.der_json.proofs.part.Part.split.Goals as goal

pub returns-clause-fewer : goal.returns-clause-fewer
returns-clause-fewer c = omega (
  arith,
  sizes _ _ _ _ c.in-Some.ensures,
  c.saturating_sub-len.ensures,
  c.split_at.ensures.back_len,
)
