-- Worked examples of lengths and encodings: the definitions compute them.
use Rattle.std.proofs.Common.{◌≡◌, true, List, ℕ, [], ◌∷◌, take, replicate, refl}
use Rattle.picky_der_core.specs.declared.asn1.wrapper.Wrapper.TheVariants.{OctetContainer, BitContainer, Explicit}
use Rattle.picky_der_core.specs.declared.asn1.wrapper.Wrapper.TheVariants.{Implicit, Application, ImplicitList}
use Rattle.picky_der_core.specs.Primitive.{Primitive}
use Rattle.picky_der_core.specs.Element.{length_octets}
use Rattle.picky_der_core.specs.Tree.{ListKind, Tree, trees}
use Rattle.picky_der_core.specs.Encoding.{der}
use Rattle.picky_der_core.proofs.OnLiterals.{der_on_literals}

-- "Testolope" and "example.com"
abbrev testolope : List ℕ
testolope = 0x54 ∷ 0x65 ∷ 0x73 ∷ 0x74 ∷ 0x6F ∷ 0x6C ∷ 0x6F ∷ 0x70 ∷ 0x65 ∷ []

abbrev example_com : List ℕ
example_com = 0x65 ∷ 0x78 ∷ 0x61 ∷ 0x6D ∷ 0x70 ∷ 0x6C ∷ 0x65 ∷ 0x2E ∷ 0x63 ∷ 0x6F ∷ 0x6D ∷ []

-- the identifier of RSA encryption, 1.2.840.113549.1.1.1
abbrev rsa_encryption : List ℕ
rsa_encryption = 0x2A ∷ 0x86 ∷ 0x48 ∷ 0x86 ∷ 0xF7 ∷ 0x0D ∷ 0x01 ∷ 0x01 ∷ 0x01 ∷ []

-- ---- lengths

length_10 : length_octets 10 ≡ 0x0A ∷ []
unfolding der_on_literals
length_10 = refl

length_127 : length_octets 127 ≡ 0x7F ∷ []
unfolding der_on_literals
length_127 = refl

length_128 : length_octets 128 ≡ 0x81 ∷ 0x80 ∷ []
unfolding der_on_literals
length_128 = refl

length_129 : length_octets 129 ≡ 0x81 ∷ 0x81 ∷ []
unfolding der_on_literals
length_129 = refl

length_290 : length_octets 290 ≡ 0x82 ∷ 0x01 ∷ 0x22 ∷ []
unfolding der_on_literals
length_290 = refl

length_greatest : length_octets 0xFFFF_FFFF_FFFF_FFFF ≡ 0x88 ∷ replicate 8 0xFF
unfolding der_on_literals
length_greatest = refl

-- ---- plain values

zero : der (Tree.primitive (Primitive.unsigned 0)) ≡ 0x02 ∷ 0x01 ∷ 0x00 ∷ []
unfolding der_on_literals
zero = refl

above_127 : der (Tree.primitive (Primitive.unsigned 128)) ≡ 0x02 ∷ 0x02 ∷ 0x00 ∷ 0x80 ∷ []
unfolding der_on_literals
above_127 = refl

greatest : der (Tree.primitive (Primitive.unsigned 0xFFFF_FFFF_FFFF_FFFF_FFFF_FFFF_FFFF_FFFF))
    ≡ 0x02 ∷ 0x11 ∷ 0x00 ∷ replicate 16 0xFF
unfolding der_on_literals
greatest = refl

truth : der (Tree.primitive (Primitive.boolean true)) ≡ 0x01 ∷ 0x01 ∷ 0xFF ∷ []
unfolding der_on_literals
truth = refl

nothing : der (Tree.primitive Primitive.null) ≡ 0x05 ∷ 0x00 ∷ []
unfolding der_on_literals
nothing = refl

-- ---- lists

struct : der
    (Tree.list ListKind.sequence
    (trees (Tree.primitive (Primitive.unsigned 7) ∷ Tree.primitive (Primitive.bytes 0x04 testolope)
    ∷ Tree.list ListKind.sequence (trees (Tree.primitive (Primitive.unsigned 4) ∷ (Tree.primitive Primitive.null) ∷ []))
    ∷ [])))
    ≡ 0x30 ∷ 0x15 ∷ 0x02 ∷ 0x01 ∷ 0x07 ∷ 0x04 ∷ 0x09 ∷ 0x54 ∷ 0x65 ∷ 0x73 ∷ 0x74 ∷ 0x6F ∷ 0x6C ∷ 0x6F ∷ 0x70 ∷ 0x65
    ∷ 0x30 ∷ 0x05 ∷ 0x02 ∷ 0x01 ∷ 0x04 ∷ 0x05 ∷ 0x00 ∷ []
unfolding der_on_literals
struct = refl

algorithm : der
    (Tree.list ListKind.sequence
    (trees (Tree.primitive (Primitive.bytes 0x06 rsa_encryption) ∷ (Tree.primitive Primitive.null) ∷ [])))
    ≡ 0x30 ∷ 0x0D ∷ 0x06 ∷ 0x09 ∷ 0x2A ∷ 0x86 ∷ 0x48 ∷ 0x86 ∷ 0xF7 ∷ 0x0D ∷ 0x01 ∷ 0x01 ∷ 0x01 ∷ 0x05 ∷ 0x00 ∷ []
unfolding der_on_literals
algorithm = refl

-- ---- sets, whose members are written in ascending order

abbrev set_of : List Tree → Tree
set_of ts = Tree.list ListKind.set (trees ts)

no_members : der (set_of []) ≡ 0x31 ∷ 0x00 ∷ []
unfolding der_on_literals
no_members = refl

repeated_members : der
    (set_of (Tree.primitive (Primitive.unsigned 256) ∷ Tree.primitive (Primitive.unsigned 5)
    ∷ Tree.primitive (Primitive.unsigned 5) ∷ []))
    ≡ 0x31 ∷ 0x0A ∷ 0x02 ∷ 0x01 ∷ 0x05 ∷ 0x02 ∷ 0x01 ∷ 0x05 ∷ 0x02 ∷ 0x02 ∷ 0x01 ∷ 0x00 ∷ []
unfolding der_on_literals
repeated_members = refl

-- the length comes before the content
by_encodings : der
    (set_of (Tree.primitive (Primitive.bytes 0x04 (0x00 ∷ 0x00 ∷ []))
    ∷ Tree.primitive (Primitive.bytes 0x04 (0xFF ∷ [])) ∷ []))
    ≡ 0x31 ∷ 0x07 ∷ 0x04 ∷ 0x01 ∷ 0xFF ∷ 0x04 ∷ 0x02 ∷ 0x00 ∷ 0x00 ∷ []
unfolding der_on_literals
by_encodings = refl

-- the tag comes before the length
by_tags : der (set_of (Tree.primitive (Primitive.bytes 0x04 []) ∷ Tree.primitive (Primitive.unsigned 256) ∷ []))
    ≡ 0x31 ∷ 0x06 ∷ 0x02 ∷ 0x02 ∷ 0x01 ∷ 0x00 ∷ 0x04 ∷ 0x00 ∷ []
unfolding der_on_literals
by_tags = refl

set_of_sets : der (set_of (set_of (Tree.primitive (Primitive.unsigned 2) ∷ Tree.primitive (Primitive.unsigned 1) ∷ [])
    ∷ set_of (Tree.primitive (Primitive.unsigned 1) ∷ []) ∷ []))
    ≡ 0x31 ∷ 0x0D ∷ 0x31 ∷ 0x03 ∷ 0x02 ∷ 0x01 ∷ 0x01 ∷ 0x31 ∷ 0x06 ∷ 0x02 ∷ 0x01 ∷ 0x01 ∷ 0x02 ∷ 0x01 ∷ 0x02 ∷ []
unfolding der_on_literals
set_of_sets = refl

implicit_set : der
    (Tree.wrapped (Implicit 1)
    (set_of (Tree.primitive (Primitive.unsigned 5) ∷ Tree.primitive (Primitive.unsigned 3) ∷ [])))
    ≡ 0x81 ∷ 0x06 ∷ 0x02 ∷ 0x01 ∷ 0x03 ∷ 0x02 ∷ 0x01 ∷ 0x05 ∷ []
unfolding der_on_literals
implicit_set = refl

absent_in_set : der (set_of (Tree.primitive (Primitive.unsigned 5) ∷ Tree.absent ∷ [])) ≡ 0x31 ∷ 0x03 ∷ 0x02 ∷ 0x01
    ∷ 0x05 ∷ []
unfolding der_on_literals
absent_in_set = refl

-- ---- tags and containers

application_10 : der (Tree.wrapped (Application 10) (Tree.primitive (Primitive.bytes 0x0C example_com)))
    ≡ 0x6A ∷ 0x0D ∷ 0x0C ∷ 0x0B ∷ 0x65 ∷ 0x78 ∷ 0x61 ∷ 0x6D ∷ 0x70 ∷ 0x6C ∷ 0x65 ∷ 0x2E ∷ 0x63 ∷ 0x6F ∷ 0x6D ∷ []
unfolding der_on_literals
application_10 = refl

application_30 : der (Tree.wrapped (Application 30) (Tree.primitive (Primitive.unsigned 7))) ≡ 0x7E ∷ 0x03 ∷ 0x02 ∷ 0x01
    ∷ 0x07 ∷ []
unfolding der_on_literals
application_30 = refl

explicit_bit_container : der
    (Tree.wrapped (Explicit 0) (Tree.wrapped BitContainer (Tree.primitive (Primitive.unsigned 7))))
    ≡ 0xA0 ∷ 0x06 ∷ 0x03 ∷ 0x04 ∷ 0x00 ∷ 0x02 ∷ 0x01 ∷ 0x07 ∷ []
unfolding der_on_literals
explicit_bit_container = refl

explicit_raw : der (Tree.wrapped (Explicit 0) (Tree.raw (0x02 ∷ 0x01 ∷ 0x07 ∷ []))) ≡ 0xA0 ∷ 0x03 ∷ 0x02 ∷ 0x01 ∷ 0x07
    ∷ []
unfolding der_on_literals
explicit_raw = refl

implicit_unsigned : der (Tree.wrapped (Implicit 1) (Tree.primitive (Primitive.unsigned 7))) ≡ 0x81 ∷ 0x01 ∷ 0x07 ∷ []
unfolding der_on_literals
implicit_unsigned = refl

implicit_sequence : der
    (Tree.wrapped (Implicit 1) (Tree.list ListKind.sequence (trees (Tree.primitive (Primitive.unsigned 7) ∷ []))))
    ≡ 0x81 ∷ 0x03 ∷ 0x02 ∷ 0x01 ∷ 0x07 ∷ []
unfolding der_on_literals
implicit_sequence = refl

implicit_list_sequence : der
    (Tree.wrapped (ImplicitList 0xA1)
    (Tree.list ListKind.sequence (trees (Tree.primitive (Primitive.unsigned 7) ∷ [])))) ≡ 0xA1 ∷ 0x03 ∷ 0x02 ∷ 0x01
    ∷ 0x07 ∷ []
unfolding der_on_literals
implicit_list_sequence = refl

implicit_list_set : der
    (Tree.wrapped (ImplicitList 0xA0)
    (set_of (Tree.primitive (Primitive.unsigned 5) ∷ Tree.primitive (Primitive.unsigned 3) ∷ [])))
    ≡ 0xA0 ∷ 0x06 ∷ 0x02 ∷ 0x01 ∷ 0x03 ∷ 0x02 ∷ 0x01 ∷ 0x05 ∷ []
unfolding der_on_literals
implicit_list_set = refl

implicit_list_as_application : der (Tree.wrapped (ImplicitList 0x60) (Tree.list ListKind.sequence (trees [])))
    ≡ 0x60 ∷ 0x00 ∷ []
unfolding der_on_literals
implicit_list_as_application = refl

implicit_octet_container : der
    (Tree.wrapped (Implicit 1) (Tree.wrapped OctetContainer (Tree.primitive (Primitive.unsigned 7))))
    ≡ 0x81 ∷ 0x05 ∷ 0x04 ∷ 0x03 ∷ 0x02 ∷ 0x01 ∷ 0x07 ∷ []
unfolding der_on_literals
implicit_octet_container = refl

implicit_implicit : der (Tree.wrapped (Implicit 0) (Tree.wrapped (Implicit 1) (Tree.primitive (Primitive.unsigned 7))))
    ≡ 0x80 ∷ 0x03 ∷ 0x81 ∷ 0x01 ∷ 0x07 ∷ []
unfolding der_on_literals
implicit_implicit = refl

implicit_explicit : der (Tree.wrapped (Implicit 0) (Tree.wrapped (Explicit 1) (Tree.primitive (Primitive.unsigned 7))))
    ≡ 0x80 ∷ 0x05 ∷ 0xA1 ∷ 0x03 ∷ 0x02 ∷ 0x01 ∷ 0x07 ∷ []
unfolding der_on_literals
implicit_explicit = refl

implicit_choice : der (Tree.wrapped (Implicit 1) (Tree.choice (Tree.primitive (Primitive.boolean true))))
    ≡ 0x81 ∷ 0x01 ∷ 0xFF ∷ []
unfolding der_on_literals
implicit_choice = refl

implicit_application : der
    (Tree.wrapped (Implicit 1) (Tree.wrapped (Application 10) (Tree.primitive (Primitive.unsigned 7))))
    ≡ 0x81 ∷ 0x05 ∷ 0x6A ∷ 0x03 ∷ 0x02 ∷ 0x01 ∷ 0x07 ∷ []
unfolding der_on_literals
implicit_application = refl

-- ---- what is absent

absent_member : der (Tree.list ListKind.sequence (trees (Tree.absent ∷ []))) ≡ 0x30 ∷ 0x00 ∷ []
unfolding der_on_literals
absent_member = refl

absent_in_explicit : der (Tree.wrapped (Explicit 0) Tree.absent) ≡ []
unfolding der_on_literals
absent_in_explicit = refl

absent_in_application : der (Tree.wrapped (Application 10) Tree.absent) ≡ 0x6A ∷ 0x00 ∷ []
unfolding der_on_literals
absent_in_application = refl

-- an empty raw part is written as nothing too, but isn't absent: its container stays
empty_raw_in_container : der (Tree.wrapped OctetContainer (Tree.raw [])) ≡ 0x04 ∷ 0x00 ∷ []
unfolding der_on_literals
empty_raw_in_container = refl

-- ---- the first length of the long form

container_of_124 : take 5 (der (Tree.wrapped BitContainer (Tree.primitive (Primitive.bytes 0x04 (replicate 124 0)))))
    ≡ 0x03 ∷ 0x7F ∷ 0x00 ∷ 0x04 ∷ 0x7C ∷ []
unfolding der_on_literals
container_of_124 = refl

container_of_125 : take 6 (der (Tree.wrapped BitContainer (Tree.primitive (Primitive.bytes 0x04 (replicate 125 0)))))
    ≡ 0x03 ∷ 0x81 ∷ 0x80 ∷ 0x00 ∷ 0x04 ∷ 0x7D ∷ []
unfolding der_on_literals
container_of_125 = refl

explicit_container_of_125 : take 9
    (der (Tree.wrapped (Explicit 0)
    (Tree.wrapped BitContainer (Tree.primitive (Primitive.bytes 0x04 (replicate 125 0))))))
    ≡ 0xA0 ∷ 0x81 ∷ 0x83 ∷ 0x03 ∷ 0x81 ∷ 0x80 ∷ 0x00 ∷ 0x04 ∷ 0x7D ∷ []
unfolding der_on_literals
explicit_container_of_125 = refl
