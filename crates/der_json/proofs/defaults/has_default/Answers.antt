use Rattle.std.proofs.Common.{◌<◌, length, arith}
use Rattle.der_path.proofs.Elements.{sizes}
use Rattle.der_json.proofs.defaults.has_default.Goals as goal

pub loop-element-smaller : goal.loop-element-smaller
loop-element-smaller c = omega (arith, sizes _ _ _ _ c.in-Some.ensures)
