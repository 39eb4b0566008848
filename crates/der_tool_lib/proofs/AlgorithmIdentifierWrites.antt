-- Algorithm identifiers, as they are written.
use Rattle.std.proofs.Common.{ℕ, List, [], ◌∷◌, Option, None, Some, refl}
use Rattle.picky_der_core.specs.Primitive.{Primitive}
use Rattle.picky_der_core.specs.OpenWrapperLaws.{AreAlike}
use Rattle.picky_der_core.specs.Element.{tlv}
use Rattle.picky_der_core.specs.Tree.{ListKind, Tree, trees}
use Rattle.picky_der_core.specs.Encoding.{tree_bytes, plain_encoding}
use Rattle.picky_der_ser.specs.Meaning.{list_meaning, option_meaning}
use Rattle.picky_asn1_der.specs.declared.raw_der.Asn1RawDer.{Asn1RawDer}
use Rattle.der_tool_lib.specs.declared.algorithm_identifier.AlgorithmIdentifier.{AlgorithmIdentifier}
use Rattle.der_tool_lib.specs.AlgorithmIdentifier.{of_parameters, elements}

alike : (x : List ℕ) (p : Option Asn1RawDer)
    → AreAlike (Tree.list ListKind.sequence
    (trees (Tree.primitive (Primitive.bytes 0x06 x) ∷ option_meaning (λ (raw : Asn1RawDer). Tree.raw raw.0.items) p
    ∷ []))) (list_meaning ListKind.sequence Tree.raw (tlv 0x06 x ∷ of_parameters p))
unfolding tree_bytes plain_encoding
alike x None = record { written_same = λ h. refl; absent_same = refl; numbers_same = refl }
alike x (Some p) = record { written_same = λ h. refl; absent_same = refl; numbers_same = refl }

-- the object identifier is written as its element, and absent parameters aren't written
pub alike_elements : (a : AlgorithmIdentifier)
    → AreAlike (Tree.list ListKind.sequence
    (trees (Tree.primitive (Primitive.bytes 0x06 a.algorithm.0.items)
    ∷ option_meaning (λ (raw : Asn1RawDer). Tree.raw raw.0.items) a.parameters ∷ [])))
    (list_meaning ListKind.sequence Tree.raw (elements a))
alike_elements a = alike a.algorithm.0.items a.parameters
