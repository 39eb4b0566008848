-- What is borrowed from a deserializer. While bytes of it are borrowed, there is some state in which the call left the
-- deserializer. Once the borrow is over, this is the deserializer's own state.
use Rattle.std.specs.Prelude.{ℕ, List, Result, MatchResult, IfErr}
use Rattle.std.specs.Borrow.{Bor, MutBor, RattleType, Fml, RestsIfErr}
use Rattle.std.specs.declared.io.Read as read
use Rattle.picky_der_de.specs.Reading.{ReadsPrimitive, RefusesPrimitive}
use Rattle.picky_der_core.specs.Primitive.{Primitive, PrimitiveShape}
use Rattle.picky_der_core.specs.declared.error.Asn1DerError.{Asn1DerError}
use Rattle.picky_der_core.specs.declared.misc.reader.ReadExt as reader
use Rattle.picky_der_de.specs.State.{State}
use Rattle.picky_der_de.specs.Ends.{RefusesList}
use Rattle.picky_der_de.specs.contracts.deserializer.Deserializer.{the_row}
use Rattle.picky_der_de.specs.declared.sequence.Sequence.{Sequence}
use Rattle.picky_der_de.specs.SequenceState.{borrowed_by}

abbrev pub LendsBytes : State → State → Result (Bor (List ℕ)) Asn1DerError → Type 0
LendsBytes old new r =
    MatchResult r (λ content. ReadsPrimitive (PrimitiveShape.bytes 0x04) old new (Primitive.bytes 0x04 content.now))
    (RefusesPrimitive (Primitive.bytes 0x04) (PrimitiveShape.bytes 0x04) old new)

abbrev pub LendsText : State → State → Result (Bor (List ℕ)) Asn1DerError → Type 0
LendsText old new r = MatchResult r (λ text. ReadsPrimitive PrimitiveShape.text old new (Primitive.text text.now))
    (RefusesPrimitive Primitive.text PrimitiveShape.text old new)

module _ (R : RattleType) (g : reader.Ghosts R.Denot) (h : read.Ghosts R.Denot) where
  -- the sequence borrows the deserializer, or the deserializer has refused a list under this tag
  abbrev pub LendsList : ℕ → MutBor State → Result (Sequence R.Denot g h) Asn1DerError → Fml
  LendsList tag de r = RestsIfErr (the_row R g h) de borrowed_by r (λ new. IfErr r (RefusesList tag de.now new))
