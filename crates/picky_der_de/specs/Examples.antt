-- Types of which some value is readable, and such values.
use Rattle.std.specs.Prelude.{◌≡◌, ℕ, ◌^◌, ◌<◌, ℤ, pos, Bool, true, [], ◌∷◌, encode_utf8, String, IsUtf8, refl}
use Rattle.std.proofs.Common.{subst, sym, arith}
use lib.Utf8.{encode}
use Rattle.std.specs.Global.{Vec, Global}
use Rattle.picky_der_core.specs.Element.{tlv, length_octets}
use Rattle.picky_der_core.specs.EncodingLaws.{encodings-trees}
use Rattle.picky_der_core.specs.Integer.{int_tree, integer_tree}
use Rattle.picky_der_core.specs.Order.{IsAscending}
use Rattle.picky_der_core.specs.Primitive.{Primitive}
use Rattle.picky_der_core.specs.Readable.{IsReadable}
use Rattle.picky_der_core.specs.Tree.{ListKind, Tree, Trees}
use Rattle.picky_der_core.specs.UnsignedLaws.{AreBytes-unsigned_content}
use Rattle.picky_der_de.specs.MadeValues.{vec_of, text_of}

-- some value means a readable tree
abbrev pub HasReadable : {V : Type 0} → (V → Tree) → Type 0
HasReadable {V} meaning = (value : V) × IsReadable (meaning value)

-- no items, and no text
pub small_enough : 0 < 2 ^ 63
small_enough = omega arith

pub two_enough : 2 < 2 ^ 63
two_enough = omega arith

abbrev pub empty_vec : {A : Type 0} → Vec A
empty_vec = vec_of [] small_enough

pub no_text : IsUtf8 []
no_text = ([], (refl, refl))

abbrev pub empty_text : String Global
empty_text = text_of [] no_text small_enough

-- the content of zero
zero_tree : IsReadable (integer_tree (pos 0))
zero_tree = (omega arith, AreBytes-unsigned_content 0)

pub zero_readable : (fits : ℤ → Bool) → fits (pos 0) ≡ true → IsReadable (int_tree fits (pos 0))
zero_readable fits h = rw h zero_tree

-- the letter a
pub letter_readable : IsUtf8 (encode_utf8 0x61)
unfolding encode
letter_readable = (0x61 ∷ [], (refl, refl))

-- lists without members
pub empty_list_readable : (kind : ListKind) → IsReadable (Tree.list kind Trees.none)
empty_list_readable ListKind.sequence = (tt, tt)
empty_list_readable ListKind.set = (
  subst IsAscending (sym (encodings-trees [])) (λ k d h e. absurd (omega (arith, e))),
  tt,
)

-- an octet string without bytes
pub no_octets_readable : IsReadable (Tree.primitive (Primitive.bytes 0x04 []))
no_octets_readable = (omega arith, tt)

-- a NULL as an element
abbrev pub null_element : Vec ℕ
null_element = vec_of (0x05 ∷ 0x00 ∷ []) two_enough

pub null_element_readable : IsReadable (Tree.raw (0x05 ∷ 0x00 ∷ []))
unfolding tlv length_octets
null_element_readable =
    (record { tag = 0x05; content = []; number = omega arith; is = refl }, (omega arith, (omega arith, tt)))
