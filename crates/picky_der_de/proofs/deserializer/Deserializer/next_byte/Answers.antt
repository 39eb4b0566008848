use Rattle.std.proofs.Common.{◌≡◌, None, Some, arith, rules}
use Rattle.picky_der_de.proofs.Refusals.{StopsAt, read_fails, read_missing, unpeeked_at_error, unpeeked_at_end}
use Rattle.picky_der_de.proofs.Refusals.{ended_before, fault, end}
use Rattle.picky_der_de.proofs.deserializer.Deserializer.next_byte.Goals as goal

failed : (g : _) (c : goal.After-fault g) → StopsAt c.args.self.now c.fault.new.self c.fault.result
failed g c =
    let e = c.in-Err.ensures in
    let p : c.self.inside.reader.peeked ≡ None = unpeeked_at_error _ c.in-Err.error Some e.peeked in
    rw (← c.self.view_is) (record {
      had_not_failed = rw (← c.self.view_is) at c.in_default.ensures.not_failed;
      unpeeked = p;
      input = rw c.fault.ensures.same e.byte;
      same = search rules;
      why =
          fault c.in-Err.error c.fault.ensures.error (rw c.fault.ensures.same e.fault);
    })

pub returns-in-Err-clause-err : goal.returns-in-Err-clause-err
returns-in-Err-clause-err g c = read_fails (failed g c)

pub returns-in-Err-clause-missing : goal.returns-in-Err-clause-missing
returns-in-Err-clause-missing g c = λ f same. read_missing (failed g c) (rw (← c.self.view_is) (omega arith)) same

ended : (g : _) (c : goal.After-fail-in-Ok-None g)
    → StopsAt c.args.self.now c.fail-in-Ok-None.new.self c.fail-in-Ok-None.result
ended g c =
    let e = rw c.in-Ok-None.field-0-is at c.in-Ok-None.ensures in
    let f = c.fail-in-Ok-None.ensures in
    let p : c.self.inside.reader.peeked ≡ None = unpeeked_at_end _ e.peeked in
    rw (← c.self.view_is) (record {
      had_not_failed = rw (← c.self.view_is) at c.in_default.ensures.not_failed;
      unpeeked = p;
      input = rw f.same e.byte.0;
      same = search rules;
      why =
          end (rw f.same e.no_fault) f.error (ended_before _ _ e.byte.0 e.byte.1);
    })

pub returns-in-Ok-None-clause-err : goal.returns-in-Ok-None-clause-err
returns-in-Ok-None-clause-err g c = read_fails (ended g c)
