-- What contracts see of a sequence that is being written: the serializer that it borrows.
use Rattle.std.specs.Prelude.{List}
use Rattle.std.specs.Borrow.{GName}
use Rattle.std.specs.declared.io.Write as write
use Rattle.picky_der_core.specs.declared.misc.writer.WriteExt as writer
use Rattle.picky_der_core.specs.declared.asn1.wrapper.Wrapper.{Wrapper}
use Rattle.picky_der_ser.specs.declared.sequence.Sequence.{Sequence}
use Rattle.picky_der_ser.specs.State.{Writing}
use Rattle.picky_der_ser.specs.Marks.{writing}

module _ {W : Type 0} {g : writer.Ghosts W} {h : write.Ghosts W} where
  -- its level, and the serializer that it writes to
  abbrev pub state_of : Sequence W g h → Writing W
  state_of sequence = writing sequence.mark sequence.ser.now

  -- which serializer it is
  abbrev pub borrowed_by : Sequence W g h → GName
  borrowed_by sequence = sequence.ser.ghost_name

  -- the wrappers that are open if it is dropped
  abbrev pub open_around : Sequence W g h → List Wrapper
  open_around sequence = sequence.ser.now.around
