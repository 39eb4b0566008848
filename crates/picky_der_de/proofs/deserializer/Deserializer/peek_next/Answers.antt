use Rattle.std.proofs.Common.{◌∙◌, sym, ap, arith, rules}
use Rattle.picky_der_core.specs.ReaderLaws.{not_more}
use Rattle.picky_der_de.specs.State.{State}
use Rattle.picky_der_de.proofs.Refusals.{StopsAt, fault}
use Rattle.picky_der_de.proofs.Peeked.{choice_unread}
use Rattle.picky_der_de.proofs.deserializer.Deserializer.peek_next.Goals as goal

failed : (g : _) (c : goal.After-fault g) → StopsAt c.args.self.now c.fault.new.self c.fault.result
failed g c =
    let e = c.in-Err.ensures in
    rw (← c.self.view_is) (record {
      had_not_failed = rw (← c.self.view_is) at c.requires.had_not_failed;
      unpeeked =
          e.asked;
      input = rw c.fault.ensures.same e.input;
      same = search rules;
      why =
          fault c.in-Err.error c.fault.ensures.error (rw c.fault.ensures.same e.fault);
    })

pub returns-in-Err-clause-err : goal.returns-in-Err-clause-err
returns-in-Err-clause-err g c = choice_unread (failed g c) (rw (← c.self.view_is) (omega arith)) c.requires.whole

pub returns-in-Err-clause-at_end : goal.returns-in-Err-clause-at_end
returns-in-Err-clause-at_end g c =
    λ j. absurd (not_more (sym c.in-Err.ensures.fault ∙ ap (λ (s : State). s.faults) (sym c.fault.ensures.same)
    ∙ j.faults ∙ sym (ap (λ (s : State). s.faults) c.self.view_is)))
