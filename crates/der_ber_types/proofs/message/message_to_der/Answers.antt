use Rattle.std.proofs.Common.{subst}
use Rattle.std.proofs.lemmas.Result.{err_from_is_err_and}
use Rattle.der_ber_types.specs.Message.{IsMessage, IsNoMessage}
use Rattle.der_ber_types.specs.Refusals.{IsRefusal}
use Rattle.der_ber_types.proofs.CallRefusals.{broken-no_message, type-no_message}
use Rattle.der_ber_types.proofs.message.message_to_der.Goals as goal

pub returns-clause-ok : goal.returns-clause-ok
returns-clause-ok c = record {
  whole = c.in_ok-whole.whole.items;
  has_lengths = c.in_ok-whole.ensures.ok;
  is_message = subst (λ b. IsMessage c.args.types.now b c.in_ok-message_in_der.field-0.items) c.deref.ensures.value
      c.in_ok-message_in_der.ensures.ok;
}

pub returns-in_err-whole-clause-none : goal.returns-in_err-whole-clause-none
returns-in_err-whole-clause-none c =
    let p = err_from_is_err_and c.from_residual.result c.from_residual.ensures.1 in
    rw p.1 (broken-no_message c.args.types.now c.args.bytes.now _ p.0 p.2 c.in_err-whole.ensures.none)

pub returns-in_err-message_in_der-clause-none : goal.returns-in_err-message_in_der-clause-none
returns-in_err-message_in_der-clause-none c =
    let p = err_from_is_err_and c.from_residual-in_err-message_in_der.result
    c.from_residual-in_err-message_in_der.ensures.1 in
    let none = subst (λ b. IsRefusal (IsNoMessage c.args.types.now b) c.in_err-message_in_der.field-0.0)
    c.deref.ensures.value c.in_err-message_in_der.ensures.none in
    rw p.1 (type-no_message c.args.types.now c.args.bytes.now c.in_ok-whole.whole.items _ p.0 p.2 none
    c.in_ok-whole.ensures.ok)
