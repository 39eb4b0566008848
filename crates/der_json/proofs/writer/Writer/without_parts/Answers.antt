use Rattle.serde_json.specs.View.{view}
use Rattle.der_json.proofs.writer.Writer.without_parts.Goals as goal

pub returns-in_default : goal.returns-in_default
returns-in_default c = c.mistake.ensures (view c.args.json.now) tt

pub returns-in-Some-broken_type : goal.returns-in-Some-broken_type
returns-in-Some-broken_type c =
    c.mistake-in-Some-broken_type.ensures (view c.args.json.now)
    (c.in-Some-broken_type.ensures (view c.args.json.now))

pub returns : goal.returns
returns c = c.plain.ensures (view c.args.json.now)
