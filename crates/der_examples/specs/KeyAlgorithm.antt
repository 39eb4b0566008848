-- Which parameters the algorithm of a key has.
use Rattle.std.specs.Prelude.{Bool, true, false, Option, Some}
use Rattle.picky_asn1_der.specs.declared.raw_der.Asn1RawDer.{Asn1RawDer}
use Rattle.der_examples.specs.declared.key_algorithm.KeyParameters.{KeyParameters}
use Rattle.der_examples.specs.declared.key_algorithm.KeyParameters.TheVariants.{Null, Curve, Other}

-- their element, if there is one
abbrev pub element_of : KeyParameters → Option Asn1RawDer
element_of (Null it) = Some it.encoding
element_of (Curve it) = Some it.encoding
element_of (Other it) = it

abbrev pub is_null : KeyParameters → Bool
is_null (Null it) = true
is_null (Curve it) = false
is_null (Other it) = false

abbrev pub is_curve : KeyParameters → Bool
is_curve (Null it) = false
is_curve (Curve it) = true
is_curve (Other it) = false
