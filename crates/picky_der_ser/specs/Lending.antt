-- What a sequence borrows of a serializer.
use Rattle.std.specs.Prelude.{Result, IfErr}
use Rattle.std.specs.Borrow.{MutBor, RattleType, Fml, RestsIfErr}
use Rattle.std.specs.declared.io.Write as write
use Rattle.picky_der_core.specs.declared.error.Asn1DerError.{Asn1DerError}
use Rattle.picky_der_core.specs.declared.misc.writer.WriteExt as writer
use Rattle.picky_der_ser.specs.contracts.serializer.Serializer.{the_row}
use Rattle.picky_der_ser.specs.declared.sequence.Sequence.{Sequence}
use Rattle.picky_der_ser.specs.State.{State}
use Rattle.picky_der_ser.specs.SequenceState.{borrowed_by}
use Rattle.picky_der_ser.specs.Calls.{HadFailed}

module _ (W : RattleType) (g : writer.Ghosts W.Denot) (h : write.Ghosts W.Denot) where
  -- the sequence borrows the serializer, or the serializer had failed
  abbrev pub LendsList : MutBor (State W.Denot) → Result (Sequence W.Denot g h) Asn1DerError → Fml
  LendsList ser r = RestsIfErr (the_row W g h) ser borrowed_by r (λ new. IfErr r (λ e. HadFailed ser.now e new))
