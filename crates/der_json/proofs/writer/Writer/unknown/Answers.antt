use Rattle.std.proofs.Common.{sym}
use Rattle.serde_json.specs.View.{view}
use Rattle.der_json.proofs.writer.Writer.unknown.Goals as goal

pub returns-in-Some : goal.returns-in-Some
returns-in-Some c =
    let inside = view c.in-Some.field-0.now in
    c.in_member.ensures (view c.args.object.now) inside (sym c.in-Some.ensures) (c.mistake-error.ensures inside tt)

pub returns-in-None : goal.returns-in-None
returns-in-None c = c.mistake-error.ensures (view c.args.object.now) tt
