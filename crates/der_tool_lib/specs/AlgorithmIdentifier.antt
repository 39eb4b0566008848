-- What an algorithm identifier is made of.
use Rattle.std.specs.Prelude.{ℕ, List, [], ◌∷◌, Option, Some, None}
use Rattle.picky_der_core.specs.Element.{tlv}
use Rattle.picky_asn1_der.specs.declared.raw_der.Asn1RawDer.{Asn1RawDer}
use Rattle.der_tool_lib.specs.declared.algorithm_identifier.AlgorithmIdentifier.{AlgorithmIdentifier}

-- the parameters, where there are any
abbrev pub of_parameters : Option Asn1RawDer → List (List ℕ)
of_parameters None = []
of_parameters (Some parameters) = parameters.0.items ∷ []

-- the elements of the sequence: the object identifier, and the parameters where there are any
abbrev pub elements : AlgorithmIdentifier → List (List ℕ)
elements a = tlv 0x06 a.algorithm.0.items ∷ of_parameters a.parameters
