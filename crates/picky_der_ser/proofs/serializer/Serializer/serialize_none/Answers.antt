use Rattle.picky_der_ser.proofs.Alike.{absent-ok}
use Rattle.picky_der_ser.proofs.serializer.Serializer.serialize_none.Goals as goal

pub returns : goal.returns
returns g c = rw (← c.self.view_is, c.close_wrapper.ensures.closed, c.give_up.ensures)
    (absent-ok g.W.WriteExt _ (rw (← c.self.view_is) at c.in_default.ensures.not_failed)
    (rw c.give_up.ensures at c.close_wrapper.ensures.numbers))
