use Rattle.std.proofs.Common.{◌≡◌, ℕ, zero, suc, ◌<◌, [], ◌∷◌, refl, sym, ap, ◌∙◌, arith, lt-ltb}
use Rattle.std.specs.Int.Digits.{number_from_digits}
use Rattle.picky_der_core.specs.Primitive.{Primitive, unsigned_content}
use Rattle.picky_der_core.specs.Element.{big_endian, AreBytes}
use Rattle.picky_der_core.specs.BigEndianLaws.{big_endian-zero, big_endian-number}
use Rattle.picky_der_ser.proofs.Alike.{writes_primitive-as}
use Rattle.picky_der_ser.proofs.serializer.Serializer.serialize_u128.Goals as goal

-- the content of a number below 128 is one byte, the number itself
one_byte : (n : ℕ) → n < 0x80 → unsigned_content n ≡ n ∷ []
unfolding unsigned_content
one_byte zero h = rw big_endian-zero refl
one_byte (suc n) h =
    let bytes : AreBytes (suc n ∷ []) = (omega arith, tt) in
    let number : number_from_digits 256 (suc n ∷ []) ≡ suc n = omega arith in
    let is : big_endian (suc n) ≡ suc n ∷ [] = ap big_endian (sym number)
    ∙ big_endian-number (suc n) [] (omega arith) bytes in
    rw (is, lt-ltb (suc n) 0x80 h) refl

pub returns-then-value-lt128 : goal.returns-then-value-lt128
returns-then-value-lt128 g c =
    writes_primitive-as g.W.WriteExt (Primitive.unsigned c.args.value) _
    (sym (one_byte c.args.value c.if-value-lt128.true)) _ _ _ c.write_plain.ensures
