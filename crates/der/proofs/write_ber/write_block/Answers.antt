use Rattle.der.proofs.write_ber.write_block.Goals as goal

pub returns-in-Ok : goal.returns-in-Ok
returns-in-Ok g c = rw c.in-Ok.is (rw c.deref.ensures.value at c.write_der.ensures)

pub returns-in-Err : goal.returns-in-Err
returns-in-Err g c = rw c.in-Err.is c.nothing_written.ensures
