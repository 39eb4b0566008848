-- What a proof unfolds to compute encodings, and refusals of texts, on literals.
use Rattle.std.specs.Prelude.{⊤}
use Rattle.std.specs.Str.{is_utf8, chars}
use lib.Utf8.{encode}
use Rattle.picky_der_core.specs.Primitive.{unsigned_content}
use Rattle.picky_der_core.specs.Element.{big_endian, length_octets, tlv}
use Rattle.picky_der_core.specs.Order.{in_ascending_order}
use Rattle.picky_der_core.specs.Encoding.{plain_encoding, wrapper_encoding, tree_bytes, der, implicit_content}

unfoldable pub der_on_literals : ⊤
unfolding big_endian length_octets tlv in_ascending_order unsigned_content plain_encoding wrapper_encoding tree_bytes
    der implicit_content
der_on_literals = tt

unfoldable pub text_on_literals : ⊤
unfolding is_utf8 chars encode
text_on_literals = tt
