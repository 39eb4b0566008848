-- A NULL is a well-formed element.
use Rattle.std.specs.Prelude.{[], ◌∷◌, refl}
use Rattle.std.proofs.Common.{arith}
use Rattle.picky_der_core.specs.Element.{tlv, length_octets}
use Rattle.der_types.specs.WellFormed.{AreWellFormed, IsWellFormed}

pub null_well_formed : IsWellFormed (0x05 ∷ 0x00 ∷ [])
unfolding tlv length_octets
null_well_formed = record {
  one = record { tag = 0x05; content = []; number = omega arith; is = refl };
  elements =
      AreWellFormed.primitive (0x05 ∷ 0x00 ∷ []) 0x05 [] [] refl (omega arith) refl refl AreWellFormed.none;
}
