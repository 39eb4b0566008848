use Rattle.std.proofs.Common.{◌≡◌, true, sym, subst, arith}
use Rattle.serde_json.specs.View.{view}
use Rattle.picky_der_core.specs.Element.{AreBytes}
use Rattle.picky_der_core.proofs.DigitLaws.{bytes_by_index}
use Rattle.der_schema.specs.Names.{has_names}
use Rattle.der_json.proofs.OneMessage.{one_message}
use Rattle.der_json.proofs.laws.there_and_back.Goals as goal

pub returns-in-Ok-from_json : goal.returns-in-Ok-from_json
returns-in-Ok-from_json c = λ names.
    let before : AreBytes c.args.bytes.now = bytes_by_index _ (λ i. omega (arith, c.type_inv.bytes i)) in
    let after : AreBytes c.in-Ok-from_json.again.items = subst AreBytes c.as_slice.ensures.value c.are_bytes.ensures in
    sym (one_message c.args.schema.nodes.now c.args.schema.root true c.args.bytes.now c.in-Ok-from_json.again.items
    (view c.in-Ok.json) names before after c.in-Ok.ensures c.in-Ok-from_json.ensures.ok)
