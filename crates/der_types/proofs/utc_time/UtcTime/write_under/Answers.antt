use Rattle.std.proofs.Common.{subst, ap, take, drop, ◌∙◌}
use Rattle.picky_der_core.specs.Primitive.{Primitive}
use Rattle.picky_der_core.specs.Tree.{Tree}
use Rattle.picky_der_ser.specs.Calls.{WritesPrimitive}
use Rattle.der_types.specs.TimeLaws.{utc_tail}
use Rattle.der_types.proofs.utc_time.UtcTime.write_under.Goals as goal

pub returns : goal.returns
returns g c =
    subst (λ bs. WritesPrimitive g.W.WriteExt (Primitive.bytes c.args.tag bs) c.args.serializer.now
    c.serialize_tagged_bytes.result c.serialize_tagged_bytes.new.self)
    (ap (λ bs. take 13 (drop 2 bs)) c.content_of-content.ensures ∙ utc_tail c.args.self.now.at)
    c.serialize_tagged_bytes.ensures
