-- What holds of algorithm identifiers.
use Rattle.std.specs.Prelude.{◌≡◌, map, Option, Some, None, true, refl}
use Rattle.std.specs.Option.{option_eq}
use Rattle.std.proofs.Common.{ap}
use Rattle.picky_der_core.specs.Primitive.{Primitive}
use Rattle.picky_der_core.specs.Element.{tlv}
use Rattle.picky_der_core.specs.ElementLaws.{tlv-same}
use Rattle.picky_der_core.specs.Tree.{ListKind, Tree, trees}
use Rattle.picky_der_core.specs.Readable.{IsReadable}
use Rattle.picky_der_core.specs.Shape.{Shape, IsOf}
use Rattle.picky_der_ser.specs.Meaning.{list_meaning}
use Rattle.picky_der_de.specs.InjectiveLaws.{both, items_of_shape, raw_injective, bytes_injective, list_members}
use Rattle.picky_der_de.specs.InjectiveLaws.{first_member, other_members}
use Rattle.picky_asn1_der.specs.declared.raw_der.Asn1RawDer.{Asn1RawDer}
use Rattle.picky_asn1_der.specs.contracts.raw_der.Asn1RawDerPartialEq.TheImpl as compared_raw
use Rattle.der_tool_lib.specs.declared.algorithm_identifier.AlgorithmIdentifier.{AlgorithmIdentifier}
use Rattle.der_tool_lib.specs.contracts.algorithm_identifier.AlgorithmIdentifierPartialEq.TheImpl as compared
use Rattle.der_tool_lib.specs.AlgorithmIdentifier.{of_parameters, elements}

parameters_injective : (p q : Option Asn1RawDer)
    → trees (map Tree.raw (of_parameters p)) ≡ trees (map Tree.raw (of_parameters q))
    → option_eq compared_raw.ghosts.eq p q ≡ true
parameters_injective None None e = refl
parameters_injective None (Some q) e = cc
parameters_injective (Some p) None e = cc
parameters_injective (Some p) (Some q) e = raw_injective p.0.items q.0.items (first_member e)

-- identifiers with one tree are equal
pub algorithm_injective : (x y : AlgorithmIdentifier)
    → list_meaning ListKind.sequence Tree.raw (elements x) ≡ list_meaning ListKind.sequence Tree.raw (elements y)
    → compared.ghosts.eq x y ≡ true
algorithm_injective x y e =
    let members = list_members e in
    let raw : Tree.raw (tlv 0x06 x.algorithm.0.items) ≡ Tree.raw (tlv 0x06 y.algorithm.0.items) =
    first_member members in
    let element : tlv 0x06 x.algorithm.0.items ≡ tlv 0x06 y.algorithm.0.items = cc in
    let contents = tlv-same 0x06 0x06 x.algorithm.0.items y.algorithm.0.items element in
    both (bytes_injective x.algorithm.0.items y.algorithm.0.items
    (ap (λ c. Tree.primitive (Primitive.bytes 0x06 c)) contents.1))
    (parameters_injective x.parameters y.parameters (other_members members))

-- readable ones are of the shape
pub algorithm_has_shape : (x : AlgorithmIdentifier) → IsReadable (list_meaning ListKind.sequence Tree.raw (elements x))
    → IsOf (Shape.list_of ListKind.sequence Shape.raw) (list_meaning ListKind.sequence Tree.raw (elements x))
algorithm_has_shape x r = (refl, items_of_shape Tree.raw Shape.raw (λ s q. q.1) (elements x) r.1)
