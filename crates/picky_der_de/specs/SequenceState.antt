-- What contracts see of a sequence that is being read: the deserializer that it borrows, the end around its own, and
-- the order of its members.
use Rattle.std.specs.Borrow.{GName}
use Rattle.std.specs.declared.io.Read as read
use Rattle.picky_der_core.specs.declared.misc.reader.ReadExt as reader
use Rattle.picky_der_de.specs.declared.sequence.Sequence.{Sequence}
use Rattle.picky_der_de.specs.State.{State}
use Rattle.picky_der_de.specs.Ends.{EnclosingEnd}
use Rattle.picky_der_de.specs.SetOrder.{in_order}

module _ {R : Type 0} {g : reader.Ghosts R} {h : read.Ghosts R} where
  -- the state of the deserializer, and the last member of a set
  abbrev pub state_of : Sequence R g h → State
  state_of sequence = in_order sequence.de.now sequence.next

  -- the state of the deserializer alone, as it is left after an error
  abbrev pub deserializer_of : Sequence R g h → State
  deserializer_of sequence = sequence.de.now

  -- which deserializer it is
  abbrev pub borrowed_by : Sequence R g h → GName
  borrowed_by sequence = sequence.de.ghost_name

  -- the end that is the innermost again once the sequence is closed
  abbrev pub outer_of : Sequence R g h → EnclosingEnd
  outer_of sequence = sequence.outer
