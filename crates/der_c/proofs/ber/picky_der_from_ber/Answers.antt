use Rattle.std.proofs.Common.{sym, subst, ◌∙◌, string_bytes}
use Rattle.der_read.specs.BerMessages.{IsFromBer, IsMessageOfBer}
use Rattle.der_c.specs.Ber.{IsDerWritten}
use Rattle.der_c.specs.Writing.{IsPut}
use Rattle.der_c.proofs.ber.picky_der_from_ber.Goals as goal

pub returns-in-Message : goal.returns-in-Message
returns-in-Message c =
    let der = c.in-Message.der.items in
    let message : IsMessageOfBer c.in-Some.named c.args.bytes.now der =
    subst (IsFromBer c.in-Some.named c.args.bytes.now) c.in-Message.is c.in-Ok.ensures in
    let put : IsPut der c.args.out.now c.append.new.out c.args.used.now c.append.new.used c.append.result =
    subst (λ put. IsPut put c.args.out.now c.append.new.out c.args.used.now c.append.new.used c.append.result)
    c.deref.ensures.value c.append.ensures in
    rw (sym c.type_of_number.ensures ∙ c.in-Some.is) (IsDerWritten.appended der message put)

pub returns-in-Refused : goal.returns-in-Refused
returns-in-Refused c =
    let words = string_bytes c.in-Refused.reason in
    let put : IsPut words c.args.out.now c.append-in-Refused.new.out c.args.used.now c.append-in-Refused.new.used
    c.append-in-Refused.result =
    subst (λ words. IsPut words c.args.out.now c.append-in-Refused.new.out c.args.used.now c.append-in-Refused.new.used
    c.append-in-Refused.result)
    c.as_bytes.ensures.value c.append-in-Refused.ensures in
    rw (sym c.type_of_number.ensures ∙ c.in-Some.is)
    (IsDerWritten.refused words c.append-in-Refused.result put c.refused_code.ensures)
