use Rattle.serde_json.specs.View.{view}
use Rattle.der_json.proofs.octets.content_octets.Goals as goal

pub returns-in-Err : goal.returns-in-Err
returns-in-Err c =
    let json = view c.args.json.now in
    record { ok = tt; refused = c.of.ensures json (c.mistake_in.ensures json) }

pub returns-else-is_same-clause-refused : goal.returns-else-is_same-clause-refused
returns-else-is_same-clause-refused c = c.of-else-is_same.ensures (view c.args.json.now) tt
